use Rattle.toml.specs.View.{table_view}
use Rattle.configuration.proofs.FaultLaws.{found_in, rule_in, none_in}
use Rattle.configuration.proofs.fault.fault_of.Goals as goal

pub returns-in-Ok-clause-found : goal.returns-in-Ok-clause-found
returns-in-Ok-clause-found c = found_in c.args.bytes.now (table_view c.in-Ok.table) c.table_fault.result c.in-Ok.ensures.ok c.table_fault.ensures.found c.table_fault.ensures.line

pub returns-in-Ok-clause-rule : goal.returns-in-Ok-clause-rule
returns-in-Ok-clause-rule c = rule_in c.args.bytes.now (table_view c.in-Ok.table) c.table_fault.result c.in-Ok.ensures.ok c.table_fault.ensures.found

pub returns-in-Ok-clause-none : goal.returns-in-Ok-clause-none
returns-in-Ok-clause-none c = none_in c.args.bytes.now (table_view c.in-Ok.table) c.table_fault.result c.in-Ok.ensures.ok c.table_fault.ensures.found

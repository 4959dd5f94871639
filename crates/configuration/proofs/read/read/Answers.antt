use Rattle.toml.specs.View.{table_view}
use Rattle.configuration.proofs.FaultLaws.{reads_judged, refuses_judged}
use Rattle.configuration.proofs.read.read.Goals as goal

pub returns-in-Ok-clause-found : goal.returns-in-Ok-clause-found
returns-in-Ok-clause-found c =
    reads_judged c.args.bytes.now (table_view c.in_ok-table.table) c.in-Ok.config c.in_ok-table.ensures.ok c.in-Ok.ensures

pub returns-clause-refused : goal.returns-clause-refused
returns-clause-refused c =
    refuses_judged c.args.bytes.now (table_view c.in_ok-table.table) c.in-Err-Flawed.flaw c.rule.result c.in_ok-table.ensures.ok
    (rw c.in-Err-Flawed.field-0-is at c.in-Err-Flawed.ensures) c.rule.ensures

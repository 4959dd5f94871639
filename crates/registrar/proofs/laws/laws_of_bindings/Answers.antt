use Rattle.registrar.proofs.FoldLaws.{gone_is_unbound, known_keeps_bindings}
use Rattle.registrar.proofs.RefreshLaws.{few_bound, last_contact_is_target, query_keeps_target}
use Rattle.registrar.proofs.laws.laws_of_bindings.Goals as goal

pub returns-clause-few : goal.returns-clause-few
returns-clause-few c = few_bound

pub returns-clause-last : goal.returns-clause-last
returns-clause-last c = last_contact_is_target

pub returns-clause-query : goal.returns-clause-query
returns-clause-query c = query_keeps_target

pub returns-clause-gone : goal.returns-clause-gone
returns-clause-gone c = gone_is_unbound

pub returns-clause-known : goal.returns-clause-known
returns-clause-known c = known_keeps_bindings

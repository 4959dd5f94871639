use Rattle.std.proofs.Common.{rules}
use Rattle.std.proofs.lemmas.Fn.{filter_same}
use Rattle.call_traffic.proofs.end_traffic.EndTraffic.leave_others.Goals as goal

pub returns-clause-ports : goal.returns-clause-ports
returns-clause-ports c = filter_same _ _ _ (λ x b f' k. search rules) _ _ c.retain.ensures.filtered

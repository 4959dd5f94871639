use Rattle.std.proofs.Common.{rules}
use Rattle.std.proofs.lemmas.Fn.{filter_same}
use Rattle.agent.proofs.acks.without_ack.Goals as goal

pub returns-clause-acks : goal.returns-clause-acks
returns-clause-acks c = filter_same _ _ _ (λ x b f' k. search rules) _ _ c.retain.ensures.filtered

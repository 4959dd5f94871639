use Rattle.message_laws.proofs.AwaitedOffers.AckEvents.{acks_last, after_acks, new_acks}
use Rattle.message_laws.proofs.acks.acks_are_kept.Goals as goal

pub returns-clause-begins : goal.returns-clause-begins
returns-clause-begins c = new_acks

pub returns-clause-step : goal.returns-clause-step
returns-clause-step c = after_acks

pub returns-clause-lasts : goal.returns-clause-lasts
returns-clause-lasts c = acks_last

use Rattle.message_laws.proofs.AwaitedOffers.WaitEvents.{after_waits, new_waits}
use Rattle.message_laws.proofs.pending_offers.offers_are_awaited.Goals as goal

pub returns-clause-begins : goal.returns-clause-begins
returns-clause-begins c = new_waits

pub returns-clause-step : goal.returns-clause-step
returns-clause-step c = after_waits

use Rattle.message_laws.proofs.AwaitedOffers.Rising.{after_carried, list_carried, new_carried}
use Rattle.message_laws.proofs.offer_carriage.open_offers_are_carried.Goals as goal

pub returns-clause-begins : goal.returns-clause-begins
returns-clause-begins c = new_carried

pub returns-clause-step : goal.returns-clause-step
returns-clause-step c = after_carried

pub returns-clause-known : goal.returns-clause-known
returns-clause-known c = list_carried

use Rattle.message_laws.proofs.AwaitedOffers.Lists.{new_list}
use Rattle.message_laws.proofs.knowledge.messages_are_known.Goals as goal

pub returns : goal.returns
returns c = record { known = new_list }

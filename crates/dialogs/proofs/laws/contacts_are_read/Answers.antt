use Rattle.sip_message.specs.Contact.{contact_texts}
use Rattle.dialogs.proofs.SoundLaws.{target_of}
use Rattle.dialogs.proofs.laws.contacts_are_read.Goals as goal

pub returns : goal.returns
returns c = λ headers uri reached. target_of (contact_texts headers) uri reached

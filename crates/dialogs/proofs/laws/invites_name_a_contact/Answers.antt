use Rattle.dialogs.proofs.ContactLaws.{invite_names_contact, answer_names_contact}
use Rattle.dialogs.proofs.laws.invites_name_a_contact.Goals as goal

pub returns-clause-request : goal.returns-clause-request
returns-clause-request c = invite_names_contact

pub returns-clause-answer : goal.returns-clause-answer
returns-clause-answer c = answer_names_contact

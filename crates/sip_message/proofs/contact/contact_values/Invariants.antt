use Rattle.std.proofs.Common.{◌≡◌, ◌++◌, drop}
use Rattle.sip_message.specs.Contact.{contacts_of}
use Rattle.sip_message.proofs.contact.contact_values.Given as goal

-- the values so far and those of what is left are all
abbrev pub invariant-loop-header : goal.invariant-loop-header
invariant-loop-header l = l.contacts.items ++ contacts_of (drop l.header-index l.headers) ≡ contacts_of l.headers

use Rattle.std.proofs.Common.{◌≡◌, ◌++◌, drop}
use Rattle.sip_message.proofs.contact.put_kept.Given as goal

-- the values so far and those that are left are all
abbrev pub invariant-loop-contact : goal.invariant-loop-contact
invariant-loop-contact l = l.contacts.items ++ drop l.contact-index l.more ≡ l.initial.contacts.items ++ l.more

use Rattle.std.proofs.Common.{◌≡◌, ◌+◌, drop}
use Rattle.registrar.specs.Registering.{AllLast, with_contacts}
use Rattle.registrar.proofs.contact_rules.with_contacts.Given as goal

abbrev pub invariant-loop-contact : goal.invariant-loop-contact
invariant-loop-contact l = record {
  steps : with_contacts l.rules l.register l.now l.number (drop l.contact-index l.register.contacts) l.kept.items ≡ with_contacts l.rules l.register l.now l.first_number l.register.contacts l.fn.bindings.items;
  count : l.number ≡ l.first_number + l.contact-index;
  last : AllLast l.now l.fn.bindings.items → AllLast l.now l.kept.items;
}

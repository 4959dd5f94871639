use Rattle.std.proofs.Common.{◌≡◌}
use Rattle.responses.specs.Registering.{contacts_without_star}
use Rattle.responses.proofs.register.contacts_without_star.Given as goal

-- the contacts so far are those of what was passed
abbrev pub invariant-loop-value : goal.invariant-loop-value
invariant-loop-value l = l.contacts.items ≡ contacts_without_star l.yielded

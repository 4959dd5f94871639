use Rattle.std.proofs.Common.{◌∙◌, ap, arith}
use Rattle.index.specs.Entries.{numbers_of}
use Rattle.index.proofs.Places.{rise_remove}
use Rattle.index.proofs.Prints.{remove_numbers}
use Rattle.index.proofs.index.Index.remove.Goals as goal

pub invariant_of-self : goal.invariant_of-self
invariant_of-self c = rw c.remove.ensures.others (rise_remove _ _ c.self.invariant)

pub returns-clause-numbers : goal.returns-clause-numbers
returns-clause-numbers c other =
    rw (← c.self.view_is) (ap (λ es. numbers_of es other) c.remove.ensures.others ∙ remove_numbers c.self.inside.entries.items (record { print = c.args.print; number = c.args.number }) other c.self.invariant)

pub returns-clause-room : goal.returns-clause-room
returns-clause-room c = rw (← c.self.view_is) (omega (arith, c.remove.ensures.len, c.remove.ensures.capacity))

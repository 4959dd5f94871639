use Rattle.std.proofs.Common.{◌∙◌, ap}
use Rattle.index.specs.Entries.{numbers_of}
use Rattle.index.proofs.Places.{rise_put}
use Rattle.index.proofs.Prints.{put_numbers}
use Rattle.index.proofs.index.Index.put.Goals as goal

pub invariant_of-self : goal.invariant_of-self
invariant_of-self c = rw c.put.ensures.put (rise_put _ _ c.self.invariant)

pub returns-clause-numbers : goal.returns-clause-numbers
returns-clause-numbers c other =
    rw (← c.self.view_is) (ap (λ es. numbers_of es other) c.put.ensures.put ∙ put_numbers c.self.inside.entries.items (record { print = c.args.print; number = c.args.number }) other c.self.invariant)

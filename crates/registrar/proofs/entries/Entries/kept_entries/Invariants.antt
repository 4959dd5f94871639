use Rattle.std.proofs.Common.{◌≡◌, take}
use Rattle.registrar.specs.Changes.{kept_entries}
use Rattle.registrar.proofs.entries.Entries.kept_entries.Given as goal

abbrev pub invariant-loop-user : goal.invariant-loop-user
invariant-loop-user l = l.entries.items ≡ kept_entries l.self.entries (take l.user-index l.users)

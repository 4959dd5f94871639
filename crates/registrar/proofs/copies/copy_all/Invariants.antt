use Rattle.std.proofs.Common.{◌≡◌, ◌++◌, drop}
use Rattle.registrar.proofs.copies.copy_all.Given as goal

-- the copies so far, and the bindings that are left, are all
abbrev pub invariant-loop-binding : goal.invariant-loop-binding
invariant-loop-binding l = l.copies.items ++ drop l.binding-index l.bindings ≡ l.bindings

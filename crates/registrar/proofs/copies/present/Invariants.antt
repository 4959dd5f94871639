use Rattle.std.proofs.Common.{◌≡◌, take}
use Rattle.registrar.specs.Registering.{present}
use Rattle.registrar.proofs.copies.present.Given as goal

abbrev pub invariant-loop-binding : goal.invariant-loop-binding
invariant-loop-binding l = l.kept.items ≡ present l.now (take l.binding-index l.bindings)

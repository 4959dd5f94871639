use Rattle.std.proofs.Common.{◌≡◌, take}
use Rattle.registrar.specs.Registering.{present}
use Rattle.registrar.proofs.draft.drafts_of.Given as goal

abbrev pub invariant-loop-binding : goal.invariant-loop-binding
invariant-loop-binding l = l.drafts.items ≡ present l.now (take l.binding-index l.bindings)

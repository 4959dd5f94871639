use Rattle.std.proofs.Common.{◌≡◌, map, take}
use Rattle.registrar.specs.Registering.{rank, with_number}
use Rattle.registrar.proofs.draft.with_ranks.Given as goal

abbrev pub invariant-loop-draft : goal.invariant-loop-draft
invariant-loop-draft l = l.bindings.items ≡ map (λ b. with_number (rank l.drafts b) b) (take l.draft-index l.drafts)

use Rattle.std.proofs.Common.{◌≡◌, filter, take}
use Rattle.registrar.specs.BindingRules.{is_recent}
use Rattle.registrar.proofs.draft.recent.Given as goal

abbrev pub invariant-loop-draft : goal.invariant-loop-draft
invariant-loop-draft l = l.recent.items ≡ filter (is_recent l.drafts) (take l.draft-index l.drafts)

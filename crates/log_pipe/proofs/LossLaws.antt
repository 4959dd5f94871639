-- Lines that are passed on, and those that are lost.
use Rattle.std.proofs.Common.{◌≡◌, ◌+◌, ◌<◌, ◌++◌, ℕ, List, length, min, ap, ◌∙◌, inl, inr}
use Rattle.rtrb.specs.Ring.{known_free, sent}
use Rattle.log_pipe.specs.declared.log_lines.LogLines.{LogLines}
use Rattle.log_pipe.specs.Limits.{max_count}
use Rattle.log_pipe.specs.Losses.{PassesOn, TellsLost, line_count, lost_line}

-- the lost ones are told
pub told : (before after : LogLines) (line : List ℕ) → 0 < before.lost → line ≡ lost_line before.lost → after.lost ≡ 0
    → sent after.ring ≡ sent before.ring ++ line → TellsLost before after
told before after line some is none passed = inr (inl (some, record { told = passed ∙ ap (λ l. sent before.ring ++ l) is; lost = none }))

-- lines are passed on after the lost ones
pub passes : (lines : List ℕ) (before between after : LogLines) → TellsLost before between → sent after.ring ≡ sent between.ring ++ lines → after.lost ≡ between.lost
    → PassesOn lines before after
passes lines before between after tells passed same = record { told = between; tells = tells; passes = inl (record { passed = passed; lost = same }) }

-- or lost
pub loses : (lines : List ℕ) (before between after : LogLines) → TellsLost before between → sent after.ring ≡ sent between.ring → known_free after.ring < length lines
    → after.lost ≡ min (between.lost + line_count lines) max_count → PassesOn lines before after
loses lines before between after tells none full count = record { told = between; tells = tells; passes = inr (record { none = none; lost = count; full = full }) }

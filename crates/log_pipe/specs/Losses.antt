-- Lines that are passed on, and those that find no room.
use Rattle.std.specs.Prelude.{◌≡◌, ◌⊎◌, ◌+◌, ◌<◌, ◌++◌, ◌==◌, ℕ, List, codes, count_by, decimal, length, min}
use Rattle.rtrb.specs.Ring.{known_free, sent}
use Rattle.log_pipe.specs.declared.log_lines.LogLines.{LogLines}
use Rattle.log_pipe.specs.Limits.{max_count}

-- what ends a line
abbrev pub line_feed : ℕ
line_feed = 10

abbrev pub line_count : List ℕ → ℕ
line_count text = count_by (λ byte. byte == line_feed) text

-- the line that tells how many lines were lost
abbrev pub lost_line : ℕ → List ℕ
lost_line count = codes "lines-lost count=" ++ decimal count ++ codes "\n"

-- none were lost
pub record HasNone (before after : LogLines) : Type 0 where
  pub none : before.lost ≡ 0
  pub lost : after.lost ≡ 0
  pub same : sent after.ring ≡ sent before.ring

-- the lost ones are told, and lost no more
pub record Tells (before after : LogLines) : Type 0 where
  pub told : sent after.ring ≡ sent before.ring ++ lost_line before.lost
  pub lost : after.lost ≡ 0

-- there is no room for the line
pub record WaitsForRoom (before after : LogLines) : Type 0 where
  pub lost : after.lost ≡ before.lost
  pub same : sent after.ring ≡ sent before.ring
  pub full : known_free after.ring < length (lost_line before.lost)

abbrev pub TellsLost : LogLines → LogLines → Type 0
TellsLost before after = HasNone before after ⊎ ((0 < before.lost) × Tells before after) ⊎ WaitsForRoom before after

-- all of these lines are passed on
pub record Passes (lines : List ℕ) (before after : LogLines) : Type 0 where
  pub passed : sent after.ring ≡ sent before.ring ++ lines
  pub lost : after.lost ≡ before.lost

-- or none of them, and each counts as lost
pub record Loses (lines : List ℕ) (before after : LogLines) : Type 0 where
  pub none : sent after.ring ≡ sent before.ring
  pub lost : after.lost ≡ min (before.lost + line_count lines) max_count
  pub full : known_free after.ring < length lines

-- first the lost ones are told, if there is room
pub record PassesOn (lines : List ℕ) (before after : LogLines) : Type 0 where
  pub told : LogLines
  pub tells : TellsLost before told
  pub passes : Passes lines told after ⊎ Loses lines told after

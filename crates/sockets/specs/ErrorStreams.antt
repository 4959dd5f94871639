-- How a text is written to standard error.
use Rattle.std.specs.Prelude.{◌≡◌, ◌==◌, ℕ, ◌≤◌, ⊤, List, [], ◌∷◌, drop, length, take, if◌then◌else◌}
use Rattle.sockets.specs.Logs.{Part}

-- the maximum number of bytes of a part
abbrev pub max_part : ℕ
max_part = 4096

-- the milliseconds of one wait for room
abbrev pub wait_for_room : ℕ
wait_for_room = 50

-- how many of these waits may find no room once all is over: less than a second of them
abbrev pub max_patience : ℕ
max_patience = 15

-- the texts that were to be written, the parts of the last one, the milliseconds that the system was given at each
-- wait, and how many waits may still find no room once all is over
pub record Stream : Type 0 where
  pub texts : List (List ℕ)
  pub parts : List Part
  pub waited : List ℕ
  pub patience : ℕ

abbrev pub unused_stream : Stream
unused_stream = record { texts = []; parts = []; waited = []; patience = max_patience }

-- the part that comes next, of which the system took this many bytes: the beginning of what is left of the text, as
-- long as a part may be
abbrev pub part_of : List ℕ → ℕ → Part
part_of left count = record { bytes = take max_part left; taken = count }

pub record IsPart (left : List ℕ) (part : Part) : Type 0 where
  pub bytes : part.bytes ≡ take max_part left
  pub taken : part.taken ≤ length part.bytes

-- what a part leaves of a text: what the system did not take, but nothing if it refused
abbrev pub left_by : Part → List ℕ → List ℕ
left_by part left = if part.taken == 0 then [] else drop part.taken left

-- the parts follow each other: each begins where the system stopped taking the one before
abbrev pub Follow : List ℕ → List Part → Type 0
Follow left [] = ⊤
Follow left (part ∷ parts) = IsPart left part × Follow (left_by part left) parts

-- what is left of a text after these parts
abbrev pub left_after : List ℕ → List Part → List ℕ
left_after left [] = left
left_after left (part ∷ parts) = left_after (left_by part left) parts

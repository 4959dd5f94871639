-- The limits of a text whose bytes are stored inline, and of one that is being made.
use Rattle.std.specs.Prelude.{ℕ}

-- the maximum number of bytes: with their count and the form of a text they take the room that a list's handle takes
-- with it
abbrev pub max_in_place : ℕ
max_in_place = 30

-- the maximum number of bytes of a text that is being made
abbrev pub max_in_room : ℕ
max_in_room = 64

-- The raw text of a value, which may be continued over lines.
use Rattle.std.specs.Prelude.{ℕ, List, [], ◌∷◌, drop, map, Bool, true, false, Option, Some, None, option_and_then, if◌then◌else◌}
use Rattle.std.specs.Char.{eq_ignore_ascii_case}
use Rattle.text.specs.Trim.{trimmed}
use Rattle.header_fields.specs.Glue.{unfolded}
use Rattle.header_fields.specs.Lines.{begins_line_end}

abbrev pub in_front : ℕ → List (List ℕ) → List (List ℕ)
in_front b [] = []
in_front b (line ∷ lines) = (b ∷ line) ∷ lines

abbrev pub behind_first : List (List ℕ) → List (List ℕ)
behind_first [] = []
behind_first (line ∷ lines) = drop 1 line ∷ lines

-- the lines of a text, between CR LF pairs
abbrev pub raw_lines : List ℕ → List (List ℕ)
raw_lines [] = [] ∷ []
raw_lines (b ∷ bs) = if begins_line_end (b ∷ bs) then [] ∷ behind_first (raw_lines bs) else in_front b (raw_lines bs)

abbrev pub lines_in : Option (List ℕ) → List (List ℕ)
lines_in None = []
lines_in (Some text) = raw_lines text

-- what the raw text of a value says: each line end, and the blanks around it, read as one space
abbrev pub unfolded_text : List ℕ → List ℕ
unfolded_text raw = unfolded (map trimmed (raw_lines raw))

-- what comes after this piece, ignoring case, if it begins the text
abbrev pub behind_piece : List ℕ → List ℕ → Option (List ℕ)
behind_piece [] left = Some left
behind_piece (b ∷ bs) [] = None
behind_piece (b ∷ bs) (c ∷ cs) = if eq_ignore_ascii_case b c then behind_piece bs cs else None

-- and after the space before it, if the value has begun
abbrev pub behind_next : Bool → List ℕ → List ℕ → Option (List ℕ)
behind_next begun [] left = Some left
behind_next false (b ∷ bs) left = behind_piece (b ∷ bs) left
behind_next true (b ∷ bs) left = option_and_then (behind_piece (b ∷ bs)) (behind_piece (32 ∷ []) left)

-- a value has begun after this piece
abbrev pub begun_by : Bool → List ℕ → Bool
begun_by begun [] = begun
begun_by begun (b ∷ bs) = true

-- a piece, with the space before it if the value has begun
abbrev pub glued : Bool → List ℕ → List ℕ
glued false piece = piece
glued true [] = []
glued true (b ∷ bs) = 32 ∷ b ∷ bs

-- The lines of a text (RFC 4566 section 5).
use Rattle.std.specs.Prelude.{◌≡◌, ℕ, Bool, false, ◌&&◌, ◌==◌, List, [], ◌∷◌, ◌++◌, drop, length, map, Option, Some, None, ◌⊎◌, if◌then◌else◌}
use Rattle.std.specs.Borrow.{Bor}
use Rattle.std.specs.List.{list_all, slice_split}
use Rattle.sdp.specs.declared.line.Line.{Line}
use Rattle.sdp.specs.Classes.{is_text_byte}

-- ---- as a relation

-- the text is this line, its end and the rest: a line ends with LF, or with CR LF
abbrev pub Ends : List ℕ → List ℕ → List ℕ → Type 0
Ends line rest text = (text ≡ line ++ 10 ∷ rest) ⊎ (text ≡ line ++ 13 ∷ 10 ∷ rest)

-- the text is these lines, each with its end, which may be missing after the last
abbrev pub IsLines : List (List ℕ) → List ℕ → Type 0
IsLines [] text = text ≡ []
IsLines (line ∷ lines) text = ((lines ≡ []) × (text ≡ line)) ⊎ ((rest : List ℕ) × Ends line rest text × IsLines lines rest)

-- ---- as a function

-- the text without a CR at its end
abbrev pub without_cr : List ℕ → List ℕ
without_cr [] = []
without_cr (b ∷ bs) = if b == 13 && length bs == 0 then [] else b ∷ without_cr bs

-- of the pieces between LFs, each except the last is a line, and so is the last if it is not empty
abbrev pub lines_from : List (List ℕ) → List (List ℕ)
lines_from [] = []
lines_from (last ∷ []) = if length last == 0 then [] else last ∷ []
lines_from (piece ∷ next ∷ pieces) = without_cr piece ∷ lines_from (next ∷ pieces)

unfoldable pub lines_of : List ℕ → List (List ℕ)
lines_of text = lines_from (slice_split (λ b. b == 10) text)

-- what comes after the LF that a text begins with
abbrev pub behind_lf : List ℕ → Option (List ℕ)
behind_lf [] = None
behind_lf (b ∷ bs) = if b == 10 then Some bs else None

-- what comes after the line end that a text begins with
abbrev pub behind_line_end : List ℕ → Option (List ℕ)
behind_line_end [] = None
behind_line_end (b ∷ bs) = if b == 10 then Some bs else (if b == 13 then behind_lf bs else None)

-- ---- one line

-- no NUL, CR or LF
abbrev pub is_clean : List ℕ → Bool
is_clean line = list_all is_text_byte line

-- the byte after the type is `=`
abbrev pub has_mark : List ℕ → Bool
has_mark [] = false
has_mark (letter ∷ []) = false
has_mark (letter ∷ b ∷ value) = b == 61

-- a line `type=value` without NUL, CR or LF
abbrev pub is_formed : List ℕ → Bool
is_formed line = has_mark line && is_clean line

-- its value
abbrev pub value_on : List ℕ → List ℕ
value_on line = drop 2 line

-- its type
abbrev pub letter_on : List ℕ → ℕ
letter_on [] = 0
letter_on (letter ∷ rest) = letter

-- both
abbrev pub line_of : List ℕ → Line
line_of line = record { letter = letter_on line; value = value_on line }

-- what slices hold
abbrev pub texts : List (Bor (List ℕ)) → List (List ℕ)
texts slices = map (λ s. s.now) slices

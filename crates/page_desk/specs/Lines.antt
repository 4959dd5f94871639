-- The last lines of a text.
use Rattle.std.specs.Prelude.{◌≡◌, ◌≢◌, ◌++◌, ◌-◌, ℕ, List, [], ◌∷◌, drop, length, map, nat_lt, remove, if◌then◌else◌}
use Rattle.std.specs.List.{All, concat}

-- at most this many
abbrev pub max_lines : ℕ
max_lines = 50

-- what ends a line
abbrev pub line_feed : ℕ
line_feed = 10

-- lines without their ends, and what follows the last of them
pub record Contents : Type 0 where
  pub lines : List (List ℕ)
  pub rest : List ℕ

-- no line ends in it
abbrev pub Lacks : List ℕ → Type 0
Lacks bytes = All (λ byte. byte ≢ line_feed) bytes

abbrev pub ended : List ℕ → List ℕ
ended line = line ++ line_feed ∷ []

-- the text is these lines, each with its end, and then the rest
pub record IsText (text : List ℕ) (lines : List (List ℕ)) (rest : List ℕ) : Type 0 where
  pub all : text ≡ concat (map ended lines) ++ rest
  pub whole : All Lacks lines
  pub unended : Lacks rest

-- the last ones, in their order
abbrev pub last_lines : List (List ℕ) → List (List ℕ)
last_lines lines = drop (length lines - max_lines) lines

-- of all lines of a text, the last are kept, and what follows them
pub record Keeps (text : List ℕ) (kept : Contents) : Type 0 where
  pub lines : List (List ℕ)
  pub is_text : IsText text lines kept.rest
  pub last : kept.lines ≡ last_lines lines

-- one more, and without the first if these are too many
abbrev pub with_one : List (List ℕ) → List ℕ → List (List ℕ)
with_one lines line =
    if nat_lt max_lines (length (lines ++ line ∷ []))
    then remove (lines ++ line ∷ []) 0
    else lines ++ line ∷ []

-- what is left once a line ends
abbrev pub with_line : Contents → Contents
with_line kept = record { lines = with_one kept.lines kept.rest; rest = [] }

-- The order of the lines of a description, by their first bytes (RFC 4566 section 5): v o s i u e p c b t r z k a,
-- and per medium m i c b k a. s and at least one t are required. e, p, b, t with its r, and a may repeat.
use Rattle.std.specs.Prelude.{ℕ, Bool, false, ◌&&◌, ◌==◌, List, [], ◌∷◌, length, codes, Option, Some, None, if◌then◌else◌}
use Rattle.std.specs.List.{list_all}
use Rattle.sdp.specs.Classes.{begins}

-- ---- lines at the front

-- the first line, if it is of these types
abbrev pub first_of : List ℕ → List (List ℕ) → Option (List ℕ)
first_of set [] = None
first_of set (line ∷ lines) = if begins set line then Some line else None

-- the lines without it
abbrev pub less_one : List ℕ → List (List ℕ) → List (List ℕ)
less_one set [] = []
less_one set (line ∷ lines) = if begins set line then lines else line ∷ lines

-- the lines at the front that are of these types
abbrev pub front_of : List ℕ → List (List ℕ) → List (List ℕ)
front_of set [] = []
front_of set (line ∷ lines) = if begins set line then line ∷ front_of set lines else []

-- the lines without them
abbrev pub less_all : List ℕ → List (List ℕ) → List (List ℕ)
less_all set [] = []
less_all set (line ∷ lines) = if begins set line then less_all set lines else line ∷ lines

abbrev pub begin : List ℕ → List (List ℕ) → Bool
begin set [] = false
begin set (line ∷ lines) = begins set line

abbrev pub is_nothing : List (List ℕ) → Bool
is_nothing lines = length lines == 0

-- ---- the session

-- s i u e p
unfoldable pub is_before : List (List ℕ) → Bool
is_before lines =
    begin (codes "s") lines
    && is_nothing (less_all (codes "p") (less_all (codes "e") (less_one (codes "u") (less_one (codes "i") (less_one (codes "s") lines)))))

-- b t r z k a
unfoldable pub is_after : List (List ℕ) → Bool
is_after lines =
    begin (codes "t") (less_all (codes "b") lines)
    && is_nothing (less_all (codes "a") (less_one (codes "k") (less_one (codes "z") (less_all (codes "tr") (less_all (codes "b") lines)))))

-- the lines between o= and the session's c=
abbrev pub before_lines : List (List ℕ) → List (List ℕ)
before_lines rest = front_of (codes "siuep") rest

-- the session's c=
abbrev pub connection_in : List (List ℕ) → Option (List ℕ)
connection_in rest = first_of (codes "c") (less_all (codes "siuep") rest)

-- the session's lines after those
abbrev pub after_lines : List (List ℕ) → List (List ℕ)
after_lines rest = less_one (codes "c") (less_all (codes "siuep") rest)

abbrev pub is_session : List (List ℕ) → Bool
is_session [] = false
is_session (version ∷ []) = false
is_session (version ∷ origin ∷ rest) =
    begins (codes "v") version && begins (codes "o") origin && is_before (before_lines rest) && is_after (after_lines rest)

-- ---- media

-- a line m= and the lines under it
pub record Group : Type 0 where
  pub medium : List ℕ
  pub under : List (List ℕ)

-- the lines up to the first m=
abbrev pub upto_medium : List (List ℕ) → List (List ℕ)
upto_medium [] = []
upto_medium (line ∷ lines) = if begins (codes "m") line then [] else line ∷ upto_medium lines

-- each line m= with the lines up to the next
abbrev pub groups : List (List ℕ) → List Group
groups [] = []
groups (line ∷ lines) =
    if begins (codes "m") line then record { medium = line; under = upto_medium lines } ∷ groups lines else groups lines

-- the medium's i=, its c=, and the lines after those
abbrev pub info_under : List (List ℕ) → Option (List ℕ)
info_under under = first_of (codes "i") under

abbrev pub connection_under : List (List ℕ) → Option (List ℕ)
connection_under under = first_of (codes "c") (less_one (codes "i") under)

abbrev pub after_under : List (List ℕ) → List (List ℕ)
after_under under = less_one (codes "c") (less_one (codes "i") under)

-- b k a
unfoldable pub is_media_after : List (List ℕ) → Bool
is_media_after lines = is_nothing (less_all (codes "a") (less_one (codes "k") (less_all (codes "b") lines)))

abbrev pub is_group : Group → Bool
is_group group = is_media_after (after_under group.under)

-- ---- all

unfoldable pub is_ordered : List (List ℕ) → Bool
is_ordered lines = is_session (upto_medium lines) && list_all is_group (groups lines)

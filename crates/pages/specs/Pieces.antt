-- What a page is made of.
use Rattle.std.specs.Prelude.{ℕ, ◌/◌, ◌%◌, nat_lt, List, ◌++◌, [], ◌∷◌, codes, decimal, if◌then◌else◌}
use Rattle.std.specs.List.{flat_map}
use Rattle.pages.specs.Escape.{escaped}
use Rattle.pages.specs.declared.escape.Place.{Place}
use Rattle.pages.specs.declared.piece.Piece.{Piece}
use Rattle.pages.specs.declared.piece.Piece.TheVariants.{Markup, Text, Number, Duration}

-- texts, one after the other
abbrev pub together : List (List ℕ) → List ℕ
together [] = []
together (text ∷ texts) = text ++ together texts

-- values with a comma between them
abbrev pub behind_comma : {X : Type 0} → (X → List ℕ) → X → List ℕ
behind_comma f x = codes "," ++ f x

abbrev pub listed : {X : Type 0} → (X → List ℕ) → List X → List ℕ
listed f [] = []
listed f (x ∷ xs) = f x ++ flat_map (behind_comma f) xs

-- a part of a duration, if the whole has at least `least` seconds
abbrev pub part_text : ℕ → ℕ → ℕ → List ℕ → List ℕ
part_text seconds least part unit = if nat_lt seconds least then [] else decimal part ++ unit

abbrev pub seconds_text : ℕ → List ℕ
seconds_text n = together (
    part_text n 86400 (n / 86400) (codes " d ") ∷
    part_text n 3600 (n / 3600 % 24) (codes " h ") ∷
    part_text n 60 (n / 60 % 60) (codes " m ") ∷
    part_text n 0 (n % 60) (codes " s") ∷ [])

-- milliseconds, as days, hours, minutes and seconds
abbrev pub duration_text : ℕ → List ℕ
duration_text millis = seconds_text (millis / 1000)

abbrev pub piece_text : Place → Piece → List ℕ
piece_text place (Markup markup) = markup.now
piece_text place (Text text) = escaped place text.now
piece_text place (Number n) = decimal n
piece_text place (Duration n) = duration_text n

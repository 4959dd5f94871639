-- Ranges of users: which names a text of their list means.
use Rattle.std.specs.Prelude.{◌==◌, ◌+◌, ◌-◌, ◌^◌, ◌/◌, ◌%◌, ◌++◌, ℕ, zero, suc, Bool, false, ◌&&◌, nat_le, List, [], ◌∷◌, length, Option, Some, None, option_and_then, if◌then◌else◌}
use Rattle.std.specs.Char.{is_ascii_digit}
use Rattle.text.specs.Class.{is_run_of}
use Rattle.text.specs.Cut.{before, after}
use Rattle.text.specs.Number.{number_upto}
use Rattle.registrar.specs.Limits.{max_users}
use Rattle.configuration.specs.Limits.{max_range_digits}
use Rattle.configuration.specs.declared.ranges.Range.{Range}

-- ---- a range

abbrev pub behind_dot : List ℕ → Option (List ℕ)
behind_dot [] = None
behind_dot (b ∷ bs) = if b == 46 then Some bs else None

-- what comes after two dots, the first of which is the first dot of all
abbrev pub last_of : List ℕ → Option (List ℕ)
last_of text = option_and_then behind_dot (after 46 text)

abbrev pub are_digits : List ℕ → Option (List ℕ) → Bool
are_digits first None = false
are_digits first (Some last) = is_run_of is_ascii_digit first && is_run_of is_ascii_digit last

-- digits, two dots and digits
abbrev pub is_like_range : List ℕ → Bool
is_like_range text = are_digits (before 46 text) (last_of text)

abbrev pub ordered : ℕ → ℕ → ℕ → Option Range
ordered digits first last = if nat_le first last then Some (record { digits = digits; first = first; last = last }) else None

-- two numbers of 1 to 9 digits, both with the same number of digits, and the first number not above the last
abbrev pub range_between : List ℕ → List ℕ → Option Range
range_between first last =
    if nat_le 1 (length first) && length first == length last && nat_le (length first) max_range_digits
    then option_and_then (λ from. option_and_then (λ to. ordered (length first) from to) (number_upto (10 ^ max_range_digits - 1) last)) (number_upto (10 ^ max_range_digits - 1) first)
    else None

abbrev pub range_of : List ℕ → Option Range
range_of text = option_and_then (λ last. range_between (before 46 text) last) (last_of text)

-- ---- its names

-- the last `digits` digits of a number, with zeros if it has fewer
abbrev pub numeral : ℕ → ℕ → List ℕ
numeral zero n = []
numeral (suc digits) n = numeral digits (n / 10) ++ ((48 + n % 10) ∷ [])

-- `count` numbers from the first on
abbrev pub numerals : ℕ → ℕ → ℕ → List (List ℕ)
numerals digits first zero = []
numerals digits first (suc count) = numeral digits first ∷ numerals digits (first + 1) count

abbrev pub names_in : Range → List (List ℕ)
names_in r = numerals r.digits r.first (r.last + 1 - r.first)

-- ---- the names of a text, and of a list of texts

abbrev pub count_in : Option Range → ℕ
count_in None = 1
count_in (Some r) = r.last + 1 - r.first

abbrev pub count_of : List ℕ → ℕ
count_of text = count_in (range_of text)

abbrev pub names_or : List ℕ → Option Range → List (List ℕ)
names_or text None = text ∷ []
names_or text (Some r) = names_in r

-- what a text of the list means: the numbers of its range, or itself
abbrev pub names_of : List ℕ → List (List ℕ)
names_of text = names_or text (range_of text)

abbrev pub count_all : List (List ℕ) → ℕ
count_all [] = 0
count_all (text ∷ texts) = count_of text + count_all texts

abbrev pub all_names : List (List ℕ) → List (List ℕ)
all_names [] = []
all_names (text ∷ texts) = names_of text ++ all_names texts

-- whether there is room for the names
abbrev pub fits : ℕ → List (List ℕ) → Bool
fits room texts = nat_le (count_all texts) room

-- the names, in their order; if they would be too many, the texts unchanged, which the rule of users refuses as it
-- refuses the names
abbrev pub expanded : List (List ℕ) → List (List ℕ)
expanded texts = if fits max_users texts then all_names texts else texts

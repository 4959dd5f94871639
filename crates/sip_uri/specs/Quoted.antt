-- Quoted strings (RFC 3261 section 25.1).
use Rattle.std.specs.Prelude.{ℕ, ◌+◌, Bool, true, false, not, ◌&&◌, ◌||◌, ◌==◌, nat_le, nat_lt, List, [], ◌∷◌, take, drop, length, Option, Some, None, option_map, if◌then◌else◌}

-- a place that is this much further on
abbrev pub plus : ℕ → Option ℕ → Option ℕ
plus n None = None
plus n (Some m) = Some (n + m)

-- the place of the closing quotation mark, which no backslash has taken
abbrev pub closing_quote : Bool → List ℕ → Option ℕ
closing_quote escaped [] = None
closing_quote escaped (b ∷ bs) =
    if b == 34 && not escaped then Some 0 else plus 1 (closing_quote (not escaped && b == 92) bs)

-- the text up to it, as written, and what comes after it
unfoldable pub quoted : List ℕ → Option (List ℕ × List ℕ)
quoted text = option_map (λ n. (take n text, drop (n + 1) text)) (closing_quote false text)

-- qdtext: no quotation mark, no backslash and no control byte but a tab
abbrev pub is_quoted_byte : ℕ → Bool
is_quoted_byte b = b == 9 || nat_le 32 b && not (b == 34) && not (b == 92) && not (b == 127)

-- what a backslash may take
abbrev pub is_pair_byte : ℕ → Bool
is_pair_byte b = nat_lt b 128 && not (b == 10) && not (b == 13)

abbrev pub may_stand : Bool → ℕ → Bool
may_stand true b = is_pair_byte b
may_stand false b = is_quoted_byte b || b == 92

-- what is allowed between quotation marks, after a backslash or not
abbrev pub fits_quotes : Bool → List ℕ → Bool
fits_quotes escaped [] = not escaped
fits_quotes escaped (b ∷ bs) = may_stand escaped b && fits_quotes (not escaped && b == 92) bs

-- a quotation mark, what is allowed after it, and another at the end
abbrev pub ends_quoted : Option (List ℕ × List ℕ) → Bool
ends_quoted None = false
ends_quoted (Some x) = fits_quotes false x.0 && length x.1 == 0

unfoldable pub is_quoted : List ℕ → Bool
is_quoted [] = false
is_quoted (b ∷ bs) = b == 34 && ends_quoted (quoted bs)

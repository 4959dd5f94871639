-- Texts from outside, as they are placed in a page.
use Rattle.std.specs.Prelude.{◌==◌, ◌+◌, ◌/◌, ◌%◌, ℕ, Bool, ◌&&◌, nat_le, nat_lt, List, [], ◌∷◌, ◌++◌, codes, if◌then◌else◌}
use Rattle.std.specs.List.{flat_map}
use Rattle.pages.specs.declared.escape.Place.{Place}
use Rattle.pages.specs.declared.escape.Place.TheVariants.{Html, Json, Label}

-- a printable character of ASCII, or the space
abbrev pub is_printable : ℕ → Bool
is_printable b = nat_le 32 b && nat_lt b 127

abbrev pub hex_digit : ℕ → ℕ
hex_digit n = if nat_lt n 10 then 48 + n else 87 + n

-- what comes before the two digits of a byte that is not printed
abbrev pub unprinted : Place → List ℕ
unprinted Html = codes "\\x"
unprinted Json = codes "\\u00"
unprinted Label = codes "\\\\x"

-- a byte that means nothing in its place
abbrev pub plain_byte : Place → ℕ → List ℕ
plain_byte place b = if is_printable b then b ∷ [] else unprinted place ++ hex_digit (b / 16) ∷ hex_digit (b % 16) ∷ []

-- a byte in HTML: & < > " '
abbrev pub html_byte : ℕ → List ℕ
html_byte b =
    if b == 38 then codes "&amp;" else
    if b == 60 then codes "&lt;" else
    if b == 62 then codes "&gt;" else
    if b == 34 then codes "&quot;" else
    if b == 39 then codes "&#39;" else plain_byte Html b

-- a byte between quotes: " \
abbrev pub quoted_byte : Place → ℕ → List ℕ
quoted_byte place b =
    if b == 34 then codes "\\\"" else
    if b == 92 then codes "\\\\" else plain_byte place b

abbrev pub escaped_byte : Place → ℕ → List ℕ
escaped_byte Html b = html_byte b
escaped_byte Json b = quoted_byte Json b
escaped_byte Label b = quoted_byte Label b

-- a text from outside
abbrev pub escaped : Place → List ℕ → List ℕ
escaped place text = flat_map (escaped_byte place) text

abbrev pub html : List ℕ → List ℕ
html text = escaped Html text

abbrev pub json : List ℕ → List ℕ
json text = escaped Json text

abbrev pub label : List ℕ → List ℕ
label text = escaped Label text

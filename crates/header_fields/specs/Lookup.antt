-- Headers that are looked up by name, ignoring case (RFC 3261 section 7.3.1).
use Rattle.std.specs.Prelude.{ℕ, Bool, List, map, filter, find, Option, option_map}
use Rattle.std.specs.Str.{str_eq_ignore_ascii_case}
use Rattle.header_fields.specs.declared.headers.Header.{Header}

-- a header field of this name and value
abbrev pub named : List ℕ → List ℕ → Header
named name value = record { name = name; value = value }

abbrev pub is_named : List ℕ → Header → Bool
is_named name h = str_eq_ignore_ascii_case h.name name

-- the first header of this name
abbrev pub first_named : List ℕ → List Header → Option Header
first_named name headers = find (is_named name) headers

-- its value
abbrev pub value_named : List ℕ → List Header → Option (List ℕ)
value_named name headers = option_map (λ h. h.value) (first_named name headers)

-- the values of all headers of this name, in order
abbrev pub values_named : List ℕ → List Header → List (List ℕ)
values_named name headers = map (λ h. h.value) (filter (is_named name) headers)

-- The option tags of Require header fields (RFC 3261 sections 8.2.2.3 and 20.32).
use Rattle.std.specs.Prelude.{ℕ, Bool, not, ◌==◌, List, [], ◌∷◌, ◌++◌, length, map, filter, codes}
use Rattle.std.specs.List.{flat_map}
use Rattle.text.specs.Pieces.{pieces}
use Rattle.text.specs.Trim.{trimmed}
use Rattle.text.specs.declared.split.Within.TheVariants.{Nothing}
use Rattle.sip_message.specs.declared.headers.Header.{Header}
use Rattle.sip_message.specs.Lookup.{values_named}

abbrev pub is_some_text : List ℕ → Bool
is_some_text text = not (length text == 0)

-- the tags of one value; empty elements are left out
abbrev pub tags_in : List ℕ → List (List ℕ)
tags_in value = filter is_some_text (map trimmed (pieces 44 Nothing value))

abbrev pub required_tags : List Header → List (List ℕ)
required_tags headers = flat_map tags_in (values_named (codes "Require") headers)

abbrev pub behind_comma : List (List ℕ) → List ℕ
behind_comma [] = []
behind_comma (tag ∷ tags) = codes ", " ++ tag ++ behind_comma tags

-- tags with a comma and a space between each two
abbrev pub joined_tags : List (List ℕ) → List ℕ
joined_tags [] = []
joined_tags (tag ∷ tags) = tag ++ behind_comma tags

-- Formats, and when two of them match (RFC 3264 sections 5.1 and 6.1).
use Rattle.std.specs.Prelude.{ℕ, Bool, ◌&&◌, ◌==◌, nat_eq, List, [], ◌∷◌, codes, Option, Some, None, if◌then◌else◌}
use Rattle.std.specs.Option.{option_or}
use Rattle.std.specs.Str.{str_eq_ignore_ascii_case}
use Rattle.std.specs.Cmp.Lexicographic.{pointwise}
use Rattle.text.specs.Cut.{before, after}
use Rattle.sdp.specs.declared.line.Line.{Line}
use Rattle.sdp.specs.declared.description.Media.{Media}

-- an attribute of this name, with or without a value after a colon (RFC 4566 section 5.13)
abbrev pub is_attribute : List ℕ → Line → Bool
is_attribute name l = l.letter == 97 && pointwise nat_eq (before 58 l.value) name

-- the text after the format and a space, where it is this format
abbrev pub text_for : List ℕ → Option (List ℕ) → Option (List ℕ)
text_for format None = None
text_for format (Some value) = if pointwise nat_eq (before 32 value) format then after 32 value else None

-- what a line `a=rtpmap:FORMAT TEXT` says of a format (RFC 4566 section 6)
abbrev pub rtpmap_in : List ℕ → Line → Option (List ℕ)
rtpmap_in format l = if is_attribute (codes "rtpmap") l then text_for format (after 58 l.value) else None

abbrev pub first_rtpmap : List ℕ → List Line → Option (List ℕ)
first_rtpmap format [] = None
first_rtpmap format (l ∷ ls) = option_or (rtpmap_in format l) (first_rtpmap format ls)

-- what the medium says of a format: the first such line counts
abbrev pub rtpmap_of : Media → List ℕ → Option (List ℕ)
rtpmap_of m format = first_rtpmap format m.after

abbrev pub maps_match : Option (List ℕ) → Option (List ℕ) → Bool → Bool
maps_match (Some a) (Some b) same_token = str_eq_ignore_ascii_case a b
maps_match (Some a) None same_token = same_token
maps_match None b same_token = same_token

-- both have an rtpmap whose texts agree without case, or one has none and the tokens are equal
unfoldable pub formats_match : Media → List ℕ → Media → List ℕ → Bool
formats_match m f n g = maps_match (rtpmap_of m f) (rtpmap_of n g) (pointwise nat_eq f g)

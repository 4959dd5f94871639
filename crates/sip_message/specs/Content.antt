-- What the body of a message is according to its header fields: its type and its codings (RFC 3261 sections 7.4,
-- 20.12 and 20.15).
use Rattle.std.specs.Prelude.{ℕ, Bool, true, nat_eq, List, codes, Option, Some, None}
use Rattle.std.specs.Cmp.Lexicographic.{pointwise}
use Rattle.std.specs.List.{list_all}
use Rattle.std.specs.Str.{str_eq_ignore_ascii_case}
use Rattle.text.specs.Pieces.{pieces}
use Rattle.text.specs.Trim.{trimmed}
use Rattle.text.specs.declared.split.Within.TheVariants.{Nothing}
use Rattle.header_fields.specs.declared.headers.Header.{Header}
use Rattle.sip_message.specs.Lookup.{values_named}
use Rattle.sip_message.specs.Words.{content_type_of}

-- ---- its type (section 20.15); a body without a type counts as a description, which is the server's own rule

abbrev pub is_description_type : Option (List ℕ) → Bool
is_description_type None = true
is_description_type (Some range) = pointwise nat_eq range (codes "application/sdp")

abbrev pub has_description_type : List Header → Bool
has_description_type headers = is_description_type (content_type_of headers)

-- ---- its codings (section 20.12), compared ignoring case

abbrev pub is_identity : List ℕ → Bool
is_identity coding = str_eq_ignore_ascii_case (trimmed coding) (codes "identity")

-- each element leaves the body as it is; an empty one is not a coding
abbrev pub is_uncoded_by : List ℕ → Bool
is_uncoded_by value = list_all is_identity (pieces 44 Nothing value)

abbrev pub is_uncoded : List Header → Bool
is_uncoded headers = list_all is_uncoded_by (values_named (codes "Content-Encoding") headers)

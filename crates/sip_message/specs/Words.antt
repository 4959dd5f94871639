-- Message vocabulary that the crates above share.
use Rattle.std.specs.Prelude.{ℕ, Bool, ◌&&◌, ◌||◌, nat_eq, nat_lt, List, [], ◌∷◌, ◌++◌, map, codes, unwrap_or, option_map, Option, Some, None, if◌then◌else◌}
use Rattle.std.specs.Char.{to_ascii_lowercase}
use Rattle.std.specs.Cmp.Lexicographic.{pointwise}
use Rattle.text.specs.Cut.{before, after}
use Rattle.text.specs.Trim.{trimmed}
use Rattle.sip_uri.specs.declared.uri.Param.{Param}
use Rattle.sip_uri.specs.Binding.{param_named}
use Rattle.header_fields.specs.declared.headers.Header.{Header}
use Rattle.sip_message.specs.declared.message.Parts.{Parts}
use Rattle.sip_message.specs.declared.via.Via.{Via}
use Rattle.sip_message.specs.declared.words.Class.{Class}
use Rattle.sip_message.specs.declared.words.Class.TheVariants.{Provisional, Success, Failure}
use Rattle.sip_message.specs.Lookup.{value_named}

-- ---- branch and tags

-- the value of the first parameter of this name
abbrev pub value_found : Option Param → Option (List ℕ)
value_found None = None
value_found (Some param) = param.value

abbrev pub param_value : List ℕ → List Param → Option (List ℕ)
param_value name params = value_found (param_named name params)

-- the branch of the top Via (RFC 3261 section 8.1.1.7)
abbrev pub top_branch : List Via → Option (List ℕ)
top_branch [] = None
top_branch (via ∷ vias) = param_value (codes "branch") via.params

-- the tag of From or To (section 19.3)
abbrev pub tag_value : List Param → Option (List ℕ)
tag_value params = param_value (codes "tag") params

-- an absent tag is the empty text: the null of sections 12.1.1 and 12.1.2
abbrev pub tag_text : List Param → List ℕ
tag_text params = unwrap_or (tag_value params) []

-- ---- method and class

-- the method of CSeq
abbrev pub is_method : List ℕ → Parts → Bool
is_method name parts = pointwise nat_eq parts.cseq.method name

-- a response below 200 is provisional, and one from 300 on is final and not a success (section 7.2)
abbrev pub class_of : ℕ → Class
class_of status = if nat_lt status 200 then Provisional else if nat_lt status 300 then Success else Failure

-- ---- Content-Type

abbrev pub lower_case : List ℕ → List ℕ
lower_case text = map to_ascii_lowercase text

-- a byte of a media range in lower case: neither a blank nor a capital letter
abbrev pub is_range_byte : ℕ → Bool
is_range_byte b = nat_lt 90 b || nat_lt 32 b && nat_lt b 65

-- `type/subtype` in lower case, without the blanks around its slash and without parameters
abbrev pub media_range : List ℕ → List ℕ
media_range text = lower_case (trimmed (before 47 text)) ++ 47 ∷ lower_case (trimmed (unwrap_or (after 47 text) []))

-- what the body is according to Content-Type (section 7.4.1)
abbrev pub content_type_of : List Header → Option (List ℕ)
content_type_of headers = option_map (λ value. media_range (before 59 value)) (value_named (codes "Content-Type") headers)

-- What the order of checks asks of a message (RFC 3261 sections 8.1.1.7, 8.2 and 13.2).
use Rattle.std.specs.Prelude.{ℕ, Bool, false, ◌||◌, nat_eq, List, [], ◌∷◌, codes, Option, Some, None, is_some}
use Rattle.std.specs.List.{starts_with}
use Rattle.std.specs.Cmp.Lexicographic.{pointwise}
use Rattle.sip_message.specs.declared.headers.Header.{Header}
use Rattle.sip_message.specs.declared.message.Request.{Request}
use Rattle.sip_message.specs.declared.via.Via.{Via}
use Rattle.sip_message.specs.Lookup.{value_named}
use Rattle.sip_message.specs.Words.{top_branch}

-- what every branch begins with (section 8.1.1.7)
abbrev pub cookie : List ℕ
cookie = codes "z9hG4bK"

abbrev pub begins_with_cookie : Option (List ℕ) → Bool
begins_with_cookie None = false
begins_with_cookie (Some branch) = starts_with nat_eq branch cookie

-- the first branch of the top Via begins with the cookie
abbrev pub has_fit_branch : List Via → Bool
has_fit_branch vias = begins_with_cookie (top_branch vias)

abbrev pub is_method : List ℕ → Request → Bool
is_method name request = pointwise nat_eq request.method name

abbrev pub has_header : List ℕ → List Header → Bool
has_header name headers = is_some (value_named name headers)

-- methods that are known and not offered: each is answered 405 (section 21.4.6)
abbrev pub is_declined_method : Request → Bool
is_declined_method r =
    is_method (codes "PRACK") r || is_method (codes "REFER") r || is_method (codes "SUBSCRIBE") r || is_method (codes "NOTIFY") r
    || is_method (codes "INFO") r || is_method (codes "MESSAGE") r || is_method (codes "PUBLISH") r

-- methods that are offered, except for ACK and CANCEL
abbrev pub is_offered_method : Request → Bool
is_offered_method r =
    is_method (codes "INVITE") r || is_method (codes "BYE") r || is_method (codes "REGISTER") r || is_method (codes "OPTIONS") r
    || is_method (codes "UPDATE") r

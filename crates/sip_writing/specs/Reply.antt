-- The response to a request (RFC 3261 sections 8.2.6 and 18.2, RFC 3581 section 4).
use Rattle.std.specs.Prelude.{ℕ, Bool, false, not, ◌&&◌, ◌||◌, ◌==◌, nat_eq, List, [], ◌∷◌, ◌++◌, map, filter, codes, position, slice_index_or, slice_set, decimal, is_none, unwrap_or, Option, Some, None, if◌then◌else◌}
use Rattle.std.specs.Str.{str_eq_ignore_ascii_case}
use Rattle.std.specs.Cmp.Lexicographic.{pointwise}
use Rattle.sip_uri.specs.declared.uri.Addr.{Addr}
use Rattle.sip_uri.specs.declared.uri.Host.{Host}
use Rattle.sip_uri.specs.declared.uri.Host.TheVariants.{Ip4, Name}
use Rattle.sip_uri.specs.declared.uri.NameAddr.{NameAddr}
use Rattle.sip_uri.specs.declared.uri.Param.{Param}
use Rattle.sip_uri.specs.Address.{default_port}
use Rattle.sip_uri.specs.Binding.{param_named}
use Rattle.sip_uri.specs.Writing.{ip4_text, params_text}
use Rattle.sip_message.specs.declared.headers.Header.{Header}
use Rattle.sip_message.specs.declared.message.Parts.{Parts}
use Rattle.sip_message.specs.declared.message.Response.{Response}
use Rattle.sip_message.specs.declared.via.Via.{Via}
use Rattle.sip_message.specs.Lookup.{named}
use Rattle.sip_message.specs.Party.{has_tag}
use Rattle.sip_writing.specs.Reasons.{reason_of}

-- ---- the top Via

abbrev pub is_param : List ℕ → Param → Bool
is_param name p = str_eq_ignore_ascii_case p.name name

abbrev pub is_empty_param : Option Param → Bool
is_empty_param None = false
is_empty_param (Some p) = is_none p.value

-- the sender asks for a response to the port that it sent from: the first `rport` has no value
abbrev pub asks_port : List Param → Bool
asks_port params = is_empty_param (param_named (codes "rport") params)

abbrev pub value_put : List Param → List ℕ → Option ℕ → List Param
value_put params value None = params
value_put params value (Some place) =
    slice_set params place (record { name = (slice_index_or params place (record { name = []; value = None })).name; value = Some value })

-- the first parameter of this name has this value, in its place
abbrev pub with_value : List ℕ → List ℕ → List Param → List Param
with_value name value params = value_put params value (position (is_param name) params)

abbrev pub without : List ℕ → List Param → List Param
without name params = filter (λ p. not (is_param name p)) params

abbrev pub is_address : Host → List ℕ → Bool
is_address (Ip4 octets) ip = pointwise nat_eq octets ip
is_address (Name name) ip = false

-- the host of sent-by differs, or `rport` was empty
abbrev pub needs_received : Bool → Host → List ℕ → Bool
needs_received asked host ip = asked || not (is_address host ip)

unfoldable pub received : Addr → Param
received source = record { name = codes "received"; value = Some (ip4_text source.ip) }

abbrev pub filled : Bool → ℕ → List Param → List Param
filled asked port params = if asked then with_value (codes "rport") (decimal port) params else params

abbrev pub with_received : Bool → Addr → List Param → List Param
with_received needed source params = if needed then params ++ received source ∷ [] else params

abbrev pub marked_params : Bool → Bool → Addr → List Param → List Param
marked_params asked needed source params = with_received needed source (without (codes "received") (filled asked source.port params))

-- an empty `rport` gets the source port, a `received` of the sender's own is removed, and ours is added at the end if
-- the host differs or `rport` was empty
unfoldable pub marked : Addr → Via → Via
marked source via =
    let asked = asks_port via.params in
    record via { params = marked_params asked (needs_received asked via.host source.ip) source via.params }

abbrev pub marked_top : Addr → List Via → List Via
marked_top source [] = []
marked_top source (via ∷ vias) = marked source via ∷ vias

-- ---- To

abbrev pub tag_param : List ℕ → Param
tag_param tag = record { name = codes "tag"; value = Some tag }

-- no tag is added if there is one, or in a 100
abbrev pub puts_tag : ℕ → NameAddr → Bool
puts_tag status to = not (has_tag to.params) && not (status == 100)

abbrev pub tagged_params : Bool → List Param → List ℕ → List Param
tagged_params puts params tag = if puts then params ++ tag_param tag ∷ [] else params

abbrev pub tagged_to : ℕ → NameAddr → List ℕ → NameAddr
tagged_to status to tag = record to { params = tagged_params (puts_tag status to) to.params tag }

abbrev pub tagged_text : ℕ → NameAddr → List ℕ → List ℕ → List ℕ
tagged_text status to text tag = if puts_tag status to then text ++ codes ";tag=" ++ tag else text

-- ---- the whole

unfoldable pub replied : Parts → Addr → ℕ → List ℕ → Parts
replied parts source status tag = record parts {
  vias = marked_top source parts.vias;
  to = tagged_to status parts.to tag;
  to_text = tagged_text status parts.to parts.to_text tag;
}

abbrev pub via_text : Via → List ℕ
via_text via = codes "SIP/2.0/UDP " ++ via.sent_by ++ params_text 59 59 via.params

-- a Via header field for each
abbrev pub via_headers : List Via → List Header
via_headers vias = map (λ via. named (codes "Via") (via_text via)) vias

-- each Via on a line of its own, From, To, Call-ID and CSeq
unfoldable pub reply_headers : Parts → List Header
reply_headers parts =
    via_headers parts.vias
    ++ named (codes "From") parts.from_text ∷ []
    ++ named (codes "To") parts.to_text ∷ []
    ++ named (codes "Call-ID") parts.call_id ∷ []
    ++ named (codes "CSeq") parts.cseq_text ∷ []

unfoldable pub reply_of : Parts → Addr → ℕ → List ℕ → Response
reply_of parts source status tag =
    let response = replied parts source status tag in
    record { status = status; reason = reason_of status; parts = response; headers = reply_headers response; body = [] }

-- ---- where it goes

abbrev pub response_port : Via → Addr → ℕ
response_port via source = if asks_port via.params then source.port else unwrap_or via.port default_port

-- to the source address, and there to the port that the top Via asks for
abbrev pub port_asked : List Via → Addr → ℕ
port_asked [] source = default_port
port_asked (via ∷ vias) source = response_port via source

abbrev pub response_address : List Via → Addr → Addr
response_address vias source = record { ip = source.ip; port = port_asked vias source }

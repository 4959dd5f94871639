-- The Via header fields (RFC 3261 sections 20.42 and 25.1): the text of one value in its parts, what it says, and all
-- values.
use Rattle.std.specs.Prelude.{ℕ, Bool, ◌&&◌, nat_lt, List, [], ◌∷◌, ◌++◌, codes, Option, Some, None, unwrap_or, option_map, option_and_then, Result, Err, if◌then◌else◌}
use Rattle.std.specs.Char.{is_ascii_digit}
use Rattle.std.specs.List.{flat_map}
use Rattle.std.specs.Str.{str_eq_ignore_ascii_case}
use Rattle.text.specs.Class.{is_run_of, passes_if_there}
use Rattle.text.specs.Cut.{before, after, word, behind_word, led_by}
use Rattle.text.specs.Number.{number_upto}
use Rattle.text.specs.Pieces.{pieces}
use Rattle.text.specs.Trim.{trimmed, without_blanks}
use Rattle.text.specs.declared.split.Within.TheVariants.{Nothing}
use Rattle.sip_uri.specs.declared.uri.Host.{Host}
use Rattle.sip_uri.specs.declared.uri.Param.{Param}
use Rattle.sip_uri.specs.Reading.{host_read}
use Rattle.sip_uri.specs.FieldParams.{field_params_read}
use Rattle.sip_message.specs.declared.header_names.HeaderName.TheVariants as Names
use Rattle.sip_message.specs.declared.error.MessageError.{MessageError}
use Rattle.sip_message.specs.declared.error.MessageError.TheVariants.{Missing}
use Rattle.header_fields.specs.declared.headers.Header.{Header}
use Rattle.sip_message.specs.declared.via.Via.{Via}
use Rattle.sip_message.specs.Faults.{readable}
use Rattle.sip_message.specs.Lookup.{values_named}

-- ---- the parts: `SIP/2.0/UDP host:port;params`, with blanks around the slashes, the colon and the semicolons

pub record RawVia : Type 0 where
  pub name : List ℕ
  pub version : List ℕ
  pub transport : List ℕ
  pub host : List ℕ
  pub port : Option (List ℕ)
  pub params : Option (List ℕ)

-- after the byte c, or nothing
abbrev pub behind : ℕ → List ℕ → List ℕ
behind c text = unwrap_or (after c text) []

unfoldable pub raw_via_of : List ℕ → RawVia
raw_via_of text =
    let front = before 59 text in
    let version = behind 47 front in
    let transport = without_blanks (behind 47 version) in
    let sent_by = behind_word transport in
    record {
      name = trimmed (before 47 front);
      version = trimmed (before 47 version);
      transport = word transport;
      host = trimmed (before 58 sent_by);
      port = option_map trimmed (after 58 sent_by);
      params = after 59 text;
    }

-- digits that mean 1 to 65535
abbrev pub is_port : List ℕ → Bool
is_port text = is_run_of is_ascii_digit text && nat_lt 0 (unwrap_or (number_upto 65535 text) 0)

-- the protocol is SIP/2.0/UDP, ignoring case, and a port is one
unfoldable pub is_raw_via : RawVia → Bool
is_raw_via r =
    str_eq_ignore_ascii_case r.name (codes "SIP") && str_eq_ignore_ascii_case r.version (codes "2.0") && str_eq_ignore_ascii_case r.transport (codes "UDP")
    && passes_if_there is_port r.port

-- ---- one value

-- host and port as received, without blanks
abbrev pub sent_by_of : List ℕ → Option (List ℕ) → List ℕ
sent_by_of host port = host ++ led_by 58 port

abbrev pub port_of : Option (List ℕ) → Option ℕ
port_of port = option_and_then (number_upto 65535) port

abbrev pub made : RawVia → Host → List Param → Via
made r host params = record { sent_by = sent_by_of r.host r.port; host = host; port = port_of r.port; params = params }

abbrev pub with_host : RawVia → Option Host → Option (List Param) → Option Via
with_host r None params = None
with_host r (Some host) params = option_map (made r host) params

unfoldable pub via_of : List ℕ → Option Via
via_of text =
    let r = raw_via_of text in
    if is_raw_via r then with_host r (host_read r.host) (field_params_read r.params) else None

-- ---- all values

abbrev pub with_via : Option Via → Option (List Via) → Option (List Via)
with_via None vias = None
with_via (Some via) vias = option_map (λ vs. via ∷ vs) vias

-- each text is a Via
abbrev pub each_via : List (List ℕ) → Option (List Via)
each_via [] = Some []
each_via (text ∷ texts) = with_via (via_of text) (each_via texts)

-- the values of all Via header fields, of which one may have several with commas between them (section 7.3.1)
abbrev pub via_texts : List Header → List (List ℕ)
via_texts headers = flat_map (λ value. pieces 44 Nothing value) (values_named (codes "Via") headers)

-- values in front of others, if those are there
abbrev pub put_before : List Via → Option (List Via) → Option (List Via)
put_before front None = None
put_before front (Some vias) = Some (front ++ vias)

abbrev pub some_vias : List (List ℕ) → Result (List Via) MessageError
some_vias [] = Err (Missing Names.Via)
some_vias (text ∷ texts) = readable Names.Via (each_via (text ∷ texts))

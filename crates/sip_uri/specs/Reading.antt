-- What a text says, and the first fault of one that says nothing.
use Rattle.std.specs.Prelude.{◌≡◌, ℕ, Bool, not, ◌==◌, List, [], take, drop, map, codes, Option, Some, None, option_map, option_and_then, Result, Ok, Err, if◌then◌else◌}
use Rattle.std.specs.List.{slice_split, list_all}
use Rattle.std.specs.Str.{str_eq_ignore_ascii_case}
use Rattle.percent_encoding.specs.Percent.{percent_decode}
use Rattle.sip_uri.specs.declared.error.UriError.{UriError}
use Rattle.sip_uri.specs.declared.error.UriError.TheVariants.{OutOfMemory, Scheme, Malformed, BadEscape, Port}
use Rattle.sip_uri.specs.declared.uri.Uri.{Uri}
use Rattle.sip_uri.specs.declared.uri.Param.{Param}
use Rattle.sip_uri.specs.declared.uri.Host.{Host}
use Rattle.sip_uri.specs.declared.uri.Host.TheVariants.{Ip4, Name}
use Rattle.text.specs.Cut.{before, after}
use Rattle.text.specs.Number.{number_upto}
use Rattle.sip_uri.specs.Hosts.{ip4_of, is_host}
use Rattle.sip_uri.specs.RawUri.{RawUri, raw_of, is_raw, has_good_escapes, has_good_port}

-- a user in which nothing is escaped
abbrev pub is_plain : List ℕ → Bool
is_plain text = list_all (λ b. not (b == 37)) text

-- A call returned what reading gives, unless memory ran out.
abbrev pub Gives : {X : Type 0} → Result X UriError → Result X UriError → Type 0
Gives (Ok x) read = read ≡ Ok x
Gives (Err OutOfMemory) read = Unit {0}
Gives (Err Scheme) read = read ≡ Err Scheme
Gives (Err Malformed) read = read ≡ Err Malformed
Gives (Err BadEscape) read = read ≡ Err BadEscape
Gives (Err Port) read = read ≡ Err Port

abbrev pub host_of : List ℕ → Host
host_of text = named text (ip4_of text) where
  named : List ℕ → Option (List ℕ) → Host
  named text None = Name text
  named text (Some octets) = Ip4 octets

-- the host in a well-formed text
unfoldable pub host_read : List ℕ → Option Host
host_read text = if is_host text then Some (host_of text) else None

abbrev pub param_of : List ℕ → Param
param_of text = record { name = before 61 text; value = after 61 text }

-- the parameters of a part whose pieces are between bytes c
abbrev pub fields_of : ℕ → Option (List ℕ) → List Param
fields_of c None = []
fields_of c (Some text) = map param_of (slice_split (λ b. b == c) text)

-- what the parts mean
unfoldable pub value_of : RawUri → Uri
value_of r = record {
  user = option_map percent_decode r.user;
  host = host_of r.host;
  port = option_and_then (number_upto 65535) r.port;
  params = fields_of 59 r.params;
  headers = fields_of 38 r.headers;
}

-- the scheme, ignoring case
unfoldable pub is_sip : List ℕ → Bool
is_sip text = str_eq_ignore_ascii_case (take 4 text) (codes "sip:")

unfoldable pub uri_of : List ℕ → Result Uri UriError
uri_of text =
    let raw = raw_of (drop 4 text) in
    if is_sip text
    then (if is_raw raw
    then (if has_good_escapes raw
    then (if has_good_port raw then Ok (value_of raw) else Err Port)
    else Err BadEscape)
    else Err Malformed)
    else Err Scheme

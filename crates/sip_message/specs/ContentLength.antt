-- The body, by its Content-Length (RFC 3261 sections 18.3 and 20.14).
use Rattle.std.specs.Prelude.{ℕ, not, nat_le, List, length, take, filter, codes, Option, Some, None, Result, Ok, Err, if◌then◌else◌}
use Rattle.std.specs.Char.{is_ascii_digit}
use Rattle.text.specs.Class.{is_run_of}
use Rattle.text.specs.Number.{number_upto}
use Rattle.sip_message.specs.declared.header_names.HeaderName.TheVariants as Names
use Rattle.sip_message.specs.declared.error.MessageError.{MessageError}
use Rattle.sip_message.specs.declared.error.MessageError.TheVariants.{Unreadable, Short}
use Rattle.header_fields.specs.declared.headers.Header.{Header}
use Rattle.sip_message.specs.Faults.{and_then}
use Rattle.sip_message.specs.Lookup.{is_named, values_named, at_most_one}

-- every header field except Content-Length
abbrev pub without_length : List Header → List Header
without_length headers = filter (λ h. not (is_named (codes "Content-Length") h)) headers

-- no datagram is longer
abbrev pub max_content_length : ℕ
max_content_length = 4294967295

abbrev pub long_enough : Option ℕ → List ℕ → Result (List ℕ) MessageError
long_enough None rest = Err Short
long_enough (Some n) rest = if nat_le n (length rest) then Ok (take n rest) else Err Short

abbrev pub body_by : List ℕ → Option (List ℕ) → Result (List ℕ) MessageError
body_by rest None = Ok rest
body_by rest (Some text) =
    if is_run_of is_ascii_digit text then long_enough (number_upto max_content_length text) rest else Err (Unreadable Names.ContentLength)

-- Content-Length occurs at most once. The body is as many bytes as it says, or all if it is absent; extra bytes are
-- left out, and fewer are a fault (section 18.3).
unfoldable pub body_of : List Header → List ℕ → Result (List ℕ) MessageError
body_of headers rest = and_then (at_most_one Names.ContentLength (values_named (codes "Content-Length") headers)) (body_by rest)

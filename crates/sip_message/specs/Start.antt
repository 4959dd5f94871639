-- The start line of a message: of a request method, Request-URI and version, of a response version, number and
-- reason, separated by single spaces (RFC 3261 sections 7.1 and 7.2).
use Rattle.std.specs.Prelude.{ℕ, Bool, not, ◌&&◌, ◌==◌, nat_le, List, length, codes, Option, Some, None, is_some, Result, Ok, Err, if◌then◌else◌}
use Rattle.std.specs.List.{list_all}
use Rattle.std.specs.Char.{is_ascii_digit}
use Rattle.std.specs.Str.{str_eq_ignore_ascii_case}
use Rattle.text.specs.Class.{is_run_of, is_token_byte}
use Rattle.text.specs.Cut.{before, after}
use Rattle.text.specs.Number.{number_upto}
use Rattle.sip_uri.specs.declared.error.UriError.{UriError}
use Rattle.sip_uri.specs.declared.uri.Uri.{Uri}
use Rattle.sip_uri.specs.Reading.{uri_of}
use Rattle.sip_message.specs.declared.error.MessageError.{MessageError}
use Rattle.sip_message.specs.declared.error.MessageError.TheVariants.{StartLine, Version}
use Rattle.sip_message.specs.declared.start.Start.{Start}
use Rattle.sip_message.specs.declared.start.Start.TheVariants.{Asking, Answering}

abbrev pub has_no_space : List ℕ → Bool
has_no_space text = list_all (λ b. not (b == 32)) text

-- a part between spaces: some bytes, none of them a space
abbrev pub is_part : List ℕ → Bool
is_part text = not (length text == 0) && has_no_space text

abbrev pub is_version : List ℕ → Bool
is_version text = str_eq_ignore_ascii_case text (codes "SIP/2.0")

-- the text begins with `SIP/`, ignoring case, and so its line is that of a response
abbrev pub begins_sip : List ℕ → Bool
begins_sip text = str_eq_ignore_ascii_case (before 47 text) (codes "SIP") && is_some (after 47 text)

-- ---- of a response

abbrev pub from_100 : Option ℕ → Option ℕ
from_100 None = None
from_100 (Some n) = if nat_le 100 n then Some n else None

-- the number of a response: three digits, 100 to 699
unfoldable pub status_read : List ℕ → Option ℕ
status_read text = if length text == 3 && is_run_of is_ascii_digit text then from_100 (number_upto 699 text) else None

abbrev pub with_status : List ℕ → List ℕ → Option ℕ → Result Start MessageError
with_status version reason None = Err StartLine
with_status version reason (Some status) = if is_version version then Ok (Answering (record { status = status; reason = reason })) else Err Version

-- a bad number takes precedence over a bad version
abbrev pub status_at : List ℕ → List ℕ → List ℕ → Result Start MessageError
status_at version digits reason = with_status version reason (status_read digits)

-- ---- of a request

abbrev pub with_uri : List ℕ → List ℕ → Result Uri UriError → Result Start MessageError
with_uri method version (Ok uri) = if is_version version then Ok (Asking (record { method = method; uri = uri })) else Err Version
with_uri method version (Err e) = Err StartLine

-- a bad method, URI or number of parts takes precedence over a bad version
abbrev pub request_at : List ℕ → List ℕ → List ℕ → Result Start MessageError
request_at method uri version = if is_run_of is_token_byte method && is_part version then with_uri method version (uri_of uri) else Err StartLine

-- ---- of either

abbrev pub start_at : List ℕ → List ℕ → List ℕ → Result Start MessageError
start_at first second third = if begins_sip first then status_at first second third else request_at first second third

abbrev pub behind_second : List ℕ → List ℕ → Option (List ℕ) → Result Start MessageError
behind_second first second None = Err StartLine
behind_second first second (Some third) = start_at first second third

abbrev pub behind_first : List ℕ → Option (List ℕ) → Result Start MessageError
behind_first first None = Err StartLine
behind_first first (Some rest) = behind_second first (before 32 rest) (after 32 rest)

-- what a start line says, or its fault
unfoldable pub start_of : List ℕ → Result Start MessageError
start_of line = behind_first (before 32 line) (after 32 line)

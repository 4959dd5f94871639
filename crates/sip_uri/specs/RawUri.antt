-- The text of a URI after its scheme, in parts.
use Rattle.std.specs.Prelude.{ℕ, Bool, true, false, not, ◌&&◌, ◌||◌, ◌==◌, nat_lt, List, [], ◌∷◌, ◌++◌, Option, Some, None, is_some, unwrap_or, if◌then◌else◌}
use Rattle.std.specs.List.{list_all, slice_split}
use Rattle.std.specs.Char.{is_ascii_digit, is_ascii_hexdigit}
use Rattle.text.specs.Class.{is_run_of, passes_if_there}
use Rattle.text.specs.Cut.{before, after, led_by}
use Rattle.text.specs.Number.{number_upto}
use Rattle.sip_uri.specs.Classes.{is_user_byte, is_param_byte, is_header_byte}
use Rattle.sip_uri.specs.Hosts.{is_host}

pub record RawUri : Type 0 where
  pub user : Option (List ℕ)
  pub host : List ℕ
  pub port : Option (List ℕ)
  pub params : Option (List ℕ)
  pub headers : Option (List ℕ)

-- `user@`
abbrev pub user_text : Option (List ℕ) → List ℕ
user_text None = []
user_text (Some user) = user ++ 64 ∷ []

-- `user@host:port;params?headers`
abbrev pub raw_text : RawUri → List ℕ
raw_text r = user_text r.user ++ (r.host ++ (led_by 58 r.port ++ (led_by 59 r.params ++ led_by 63 r.headers)))

-- after the user
abbrev pub parts_from : Option (List ℕ) → List ℕ → RawUri
parts_from user rest =
    let front = before 63 rest in
    let place = before 59 front in
    record { user = user; host = before 58 place; port = after 58 place; params = after 59 front; headers = after 63 rest }

-- the parts of a text: each ends at the first byte that begins the next one
unfoldable pub raw_of : List ℕ → RawUri
raw_of text = parts_from (if is_some (after 64 text) then Some (before 64 text) else None) (unwrap_or (after 64 text) text)

-- ---- the parts

-- `name` or `name=value`
abbrev pub is_param : List ℕ → Bool
is_param text = is_run_of is_param_byte (before 61 text) && passes_if_there (is_run_of is_param_byte) (after 61 text)

abbrev pub is_params : List ℕ → Bool
is_params text = list_all is_param (slice_split (λ b. b == 59) text)

-- `name=value`, where the value may be empty
abbrev pub is_header : List ℕ → Bool
is_header text = is_run_of is_header_byte (before 61 text) && is_some (after 61 text) && passes_if_there (list_all is_header_byte) (after 61 text)

abbrev pub is_headers : List ℕ → Bool
is_headers text = list_all is_header (slice_split (λ b. b == 38) text)

-- each part is well formed, except for escapes and the port's number
unfoldable pub is_raw : RawUri → Bool
is_raw r = passes_if_there (is_run_of is_user_byte) r.user
    && is_host r.host
    && passes_if_there (is_run_of is_ascii_digit) r.port
    && passes_if_there is_params r.params
    && passes_if_there is_headers r.headers

-- each `%` is followed by two hexadecimal digits
abbrev pub escapes_well : List ℕ → Bool
escapes_well [] = true
escapes_well (b ∷ bs) = (not (b == 37) || begins_with_two_digits bs) && escapes_well bs where
  begins_with_two_digits : List ℕ → Bool
  begins_with_two_digits [] = false
  begins_with_two_digits (x ∷ []) = false
  begins_with_two_digits (x ∷ y ∷ rest) = is_ascii_hexdigit x && is_ascii_hexdigit y

unfoldable pub has_good_escapes : RawUri → Bool
has_good_escapes r = passes_if_there escapes_well r.user && passes_if_there escapes_well r.params && passes_if_there escapes_well r.headers

-- no port, or one from 1 to 65535
unfoldable pub has_good_port : RawUri → Bool
has_good_port r = passes_if_there (λ p. nat_lt 0 (unwrap_or (number_upto 65535 p) 0)) r.port

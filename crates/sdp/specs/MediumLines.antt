-- The value of an m= line (RFC 4566 sections 5.14 and 9): `kind port/count protocol format format`, with single spaces.
use Rattle.std.specs.Prelude.{ℕ, Bool, ◌&&◌, ◌==◌, List, ◌∷◌, ◌++◌, Option, is_some, option_and_then, unwrap_or}
use Rattle.std.specs.List.{list_all, slice_split}
use Rattle.text.specs.Class.{passes_if_there}
use Rattle.text.specs.Cut.{before, after, led_by}
use Rattle.text.specs.Number.{number_upto}
use Rattle.sdp.specs.Classes.{is_token, is_number, is_integer, is_proto}
use Rattle.sdp.specs.Origins.{behind_space}

pub record RawMedium : Type 0 where
  pub kind : List ℕ
  pub port : List ℕ
  pub count : Option (List ℕ)
  pub proto : List ℕ
  pub formats : List ℕ

abbrev pub raw_medium_text : RawMedium → List ℕ
raw_medium_text r = r.kind ++ 32 ∷ (r.port ++ (led_by 47 r.count ++ 32 ∷ (r.proto ++ 32 ∷ r.formats)))

-- kind, port and protocol each end at the next space
unfoldable pub raw_medium_of : List ℕ → RawMedium
raw_medium_of text =
    let ports = before 32 (behind_space text) in
    let behind = behind_space (behind_space text) in
    record { kind = before 32 text; port = before 47 ports; count = after 47 ports; proto = before 32 behind; formats = behind_space behind }

-- ---- the parts

-- no port is above 65535
abbrev pub max_media_port : ℕ
max_media_port = 65535

-- digits, of any number
abbrev pub is_port : List ℕ → Bool
is_port text = is_number text && is_some (number_upto max_media_port text)

abbrev pub is_count : List ℕ → Bool
is_count text = is_integer text && is_some (number_upto max_media_port text)

-- the formats: one or more tokens
abbrev pub formats_of : List ℕ → List (List ℕ)
formats_of text = slice_split (λ b. b == 32) text

unfoldable pub is_raw_medium : RawMedium → Bool
is_raw_medium r =
    is_token r.kind && is_port r.port && passes_if_there is_count r.count && is_proto r.proto && list_all is_token (formats_of r.formats)

-- ---- what they mean

abbrev pub port_of : RawMedium → ℕ
port_of r = unwrap_or (number_upto max_media_port r.port) 0

abbrev pub count_of : RawMedium → Option ℕ
count_of r = option_and_then (number_upto max_media_port) r.count

-- The parameters of a header field (RFC 3261 section 25.1, generic-param).
use Rattle.std.specs.Prelude.{ℕ, Bool, false, ◌&&◌, ◌||◌, ◌==◌, List, [], ◌∷◌, length, map, codes, Option, Some, None, option_map, if◌then◌else◌}
use Rattle.std.specs.List.{list_all}
use Rattle.std.specs.Char.{is_ascii_hexdigit}
use Rattle.text.specs.Class.{is_token_byte, is_one_of, is_run_of, passes_if_there}
use Rattle.text.specs.Cut.{before, after}
use Rattle.text.specs.Pieces.{pieces}
use Rattle.text.specs.Trim.{trimmed}
use Rattle.text.specs.declared.split.Within.TheVariants.{Nothing}
use Rattle.sip_uri.specs.declared.uri.Param.{Param}
unfoldable pub use Rattle.sip_uri.specs.Quoted.{is_quoted}

-- hexadecimal digits, `:` and `.`
abbrev pub is_bracket_byte : ℕ → Bool
is_bracket_byte b = is_ascii_hexdigit b || is_one_of (codes ":.") b

abbrev pub is_there_and_empty : Option (List ℕ) → Bool
is_there_and_empty None = false
is_there_and_empty (Some text) = length text == 0

-- an IPv6 address by its bytes, in brackets
unfoldable pub is_bracketed : List ℕ → Bool
is_bracketed [] = false
is_bracketed (b ∷ bs) = b == 91 && is_run_of is_bracket_byte (before 93 bs) && is_there_and_empty (after 93 bs)

-- a token, a quoted string or a host; each other host is a token
unfoldable pub is_field_value : List ℕ → Bool
is_field_value text = is_run_of is_token_byte text || is_quoted text || is_bracketed text

-- `name` or `name=value`, with blanks around each
unfoldable pub is_field_param : List ℕ → Bool
is_field_param piece = is_run_of is_token_byte (trimmed (before 61 piece)) && passes_if_there (λ v. is_field_value (trimmed v)) (after 61 piece)

-- parameters with semicolons between them
unfoldable pub is_field_params : List ℕ → Bool
is_field_params text = list_all is_field_param (pieces 59 Nothing text)

abbrev pub field_param_of : List ℕ → Param
field_param_of piece = record { name = trimmed (before 61 piece); value = option_map trimmed (after 61 piece) }

-- the parameter in a well-formed piece
unfoldable pub field_param_read : List ℕ → Option Param
field_param_read piece = if is_field_param piece then Some (field_param_of piece) else None

unfoldable pub field_params_of : Option (List ℕ) → List Param
field_params_of None = []
field_params_of (Some text) = map field_param_of (pieces 59 Nothing text)

-- the parameters of a well-formed text; none if there is no text
unfoldable pub field_params_read : Option (List ℕ) → Option (List Param)
field_params_read None = Some []
field_params_read (Some text) = if is_field_params text then Some (field_params_of (Some text)) else None

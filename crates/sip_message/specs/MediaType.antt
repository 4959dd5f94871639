-- The form of Content-Type (RFC 3261 sections 20.15 and 25.1).
use Rattle.std.specs.Prelude.{ℕ, Bool, false, ◌&&◌, ◌||◌, List, Option, Some, None}
use Rattle.std.specs.List.{list_all}
use Rattle.text.specs.Class.{is_run_of, is_token_byte}
use Rattle.text.specs.Cut.{before, after}
use Rattle.text.specs.Trim.{trimmed}
use Rattle.sip_uri.specs.declared.uri.Param.{Param}
use Rattle.sip_uri.specs.FieldParams.{field_params_read}
use Rattle.sip_uri.specs.Quoted.{is_quoted}

-- a token with blanks around it
abbrev pub is_token : List ℕ → Bool
is_token text = is_run_of is_token_byte (trimmed text)

abbrev pub is_there_and : (List ℕ → Bool) → Option (List ℕ) → Bool
is_there_and p None = false
is_there_and p (Some text) = p text

-- `type/subtype`
abbrev pub is_media_range : List ℕ → Bool
is_media_range text = is_token (before 47 text) && is_there_and is_token (after 47 text)

-- a token or a quoted string, but not a host: m-value of section 25.1
abbrev pub is_media_value : List ℕ → Bool
is_media_value value = is_run_of is_token_byte value || is_quoted value

abbrev pub is_media_param : Param → Bool
is_media_param param = is_there_and is_media_value param.value

abbrev pub are_media_params : Option (List Param) → Bool
are_media_params None = false
are_media_params (Some params) = list_all is_media_param params

-- `type/subtype;name=value`, where each parameter has a value
abbrev pub is_media_type : List ℕ → Bool
is_media_type text = is_media_range (before 59 text) && are_media_params (field_params_read (after 59 text))

-- The values of From and To (RFC 3261 sections 20.20, 20.39 and 25.1).
use Rattle.std.specs.Prelude.{ℕ, Bool, true, false, List, codes, Option, Some, None, is_some, Result, Ok, Err, if◌then◌else◌}
use Rattle.text.specs.Class.{is_run_of, is_token_byte}
use Rattle.sip_uri.specs.declared.error.UriError.{UriError}
use Rattle.sip_uri.specs.declared.uri.NameAddr.{NameAddr}
use Rattle.sip_uri.specs.declared.uri.Param.{Param}
use Rattle.sip_uri.specs.Binding.{param_named}
use Rattle.sip_uri.specs.NameAddr.{name_addr_of}
use Rattle.sip_message.specs.declared.start.Start.{Start}
use Rattle.sip_message.specs.declared.start.Start.TheVariants.{Asking, Answering}

-- a tag has a value, which is a token (section 19.3)
abbrev pub value_fits : Option (List ℕ) → Bool
value_fits None = false
value_fits (Some value) = is_run_of is_token_byte value

abbrev pub tag_fits : Option Param → Bool
tag_fits None = true
tag_fits (Some tag) = value_fits tag.value

abbrev pub has_fit_tag : List Param → Bool
has_fit_tag params = tag_fits (param_named (codes "tag") params)

abbrev pub has_tag : List Param → Bool
has_tag params = is_some (param_named (codes "tag") params)

abbrev pub party_from : Result NameAddr UriError → Option NameAddr
party_from (Ok name) = if has_fit_tag name.params then Some name else None
party_from (Err e) = None

-- the name and URI of From or To
unfoldable pub party_of : List ℕ → Option NameAddr
party_of text = party_from (name_addr_of text)

-- the From of a request has a tag (section 8.1.1.3)
abbrev pub is_tagged_for : Start → List Param → Bool
is_tagged_for (Asking line) params = has_tag params
is_tagged_for (Answering line) params = true

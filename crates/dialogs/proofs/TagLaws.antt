-- The tag of a header field, as it is read.
use Rattle.std.proofs.Common.{◌≡◌, ℕ, true, not, eqb, List, length, [], codes, Option, Some, None, refl}
use Rattle.std.specs.Prelude.{unwrap_or, is_some}
use Rattle.std.specs.List.{list_all}
use Rattle.std.proofs.lemmas.Bool.{and_parts}
use Rattle.text.specs.Class.{is_run_of, is_token_byte}
use Rattle.sip_uri.specs.declared.uri.Param.{Param}
use Rattle.sip_uri.specs.Binding.{param_named}
use Rattle.sip_message.specs.Party.{value_fits, tag_fits, has_fit_tag, has_tag}
use Rattle.sip_message.specs.Words.{value_found, tag_text}
use Rattle.sip_writing.proofs.TagTrip.{run_is}

fit_value : (v : Option (List ℕ)) → value_fits v ≡ true → is_run_of is_token_byte (unwrap_or v []) ≡ true
fit_value None h = absurd cc
fit_value (Some v) h = h

tag_token_at : (o : Option Param) → tag_fits o ≡ true → list_all is_token_byte (unwrap_or (value_found o) []) ≡ true
tag_token_at None h = refl
tag_token_at (Some p) h = run_is (unwrap_or p.value []) (fit_value p.value h)

-- a tag that was read is a token, or absent
pub tag_token : (params : List Param) → has_fit_tag params ≡ true → list_all is_token_byte (tag_text params) ≡ true
tag_token params h = tag_token_at (param_named (codes "tag") params) h

tag_run_at : (o : Option Param) → tag_fits o ≡ true → is_some o ≡ true → is_run_of is_token_byte (unwrap_or (value_found o) []) ≡ true
tag_run_at None h k = absurd cc
tag_run_at (Some p) h k = fit_value p.value h

-- a tag that is present is a token
pub tag_run : (params : List Param) → has_fit_tag params ≡ true → has_tag params ≡ true → is_run_of is_token_byte (tag_text params) ≡ true
tag_run params h k = tag_run_at (param_named (codes "tag") params) h k

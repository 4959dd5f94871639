-- No branch and no tag that was read is empty.
use Rattle.std.proofs.Common.{◌≡◌, ℕ, Bool, true, false, cond, List, [], ◌∷◌, map, codes, Option, Some, None, Result, Ok, Err, refl, sym, ap, subst}
use Rattle.std.specs.Prelude.{unwrap_or, option_map}
use Rattle.std.specs.List.{list_all}
use Rattle.std.specs.Str.{str_eq_ignore_ascii_case}
use Rattle.std.proofs.lemmas.Bool.{and_parts}
use Rattle.text.specs.Class.{is_run_of, is_token_byte, passes_if_there}
use Rattle.text.specs.Cut.{before, after}
use Rattle.text.specs.Pieces.{pieces}
use Rattle.text.specs.Trim.{trimmed}
use Rattle.text.specs.declared.split.Within.TheVariants.{Nothing}
use Rattle.sip_uri.specs.declared.error.UriError.{UriError}
use Rattle.sip_uri.specs.declared.uri.Host.{Host}
use Rattle.sip_uri.specs.declared.uri.NameAddr.{NameAddr}
use Rattle.sip_uri.specs.declared.uri.Param.{Param}
use Rattle.sip_uri.specs.Binding.{param_named}
use Rattle.sip_uri.specs.FieldParams.{is_bracketed, is_field_value, is_field_param, is_field_params, field_param_of, field_params_of, field_params_read}
use Rattle.sip_uri.specs.Quoted.{is_quoted}
use Rattle.sip_uri.specs.NameAddr.{name_addr_of}
use Rattle.sip_uri.specs.Reading.{host_read}
use Rattle.sip_message.specs.declared.via.Via.{Via}
use Rattle.sip_message.specs.Party.{value_fits, tag_fits, has_fit_tag, party_from, party_of}
use Rattle.sip_message.specs.Via.{raw_via_of, is_raw_via, made, with_host, via_of}
use Rattle.sip_message.specs.Words.{value_found, param_value, top_branch, tag_value}

-- a text that is missing, or has bytes
abbrev pub IsThere : Option (List ℕ) → Type 0
IsThere None = Unit {0}
IsThere (Some text) = text ≡ [] → ⊥

-- two of these are one where their texts are, the missing one being empty
pub one_text : (a b : Option (List ℕ)) → IsThere a → IsThere b → unwrap_or a [] ≡ unwrap_or b [] → a ≡ b
one_text None None h k e = refl
one_text None (Some b) h k e = absurd (k (sym e))
one_text (Some a) None h k e = absurd (h e)
one_text (Some a) (Some b) h k e = ap Some e

-- ---- tags

run_there : (text : List ℕ) → is_run_of is_token_byte text ≡ true → text ≡ [] → ⊥
run_there [] h e = absurd cc
run_there (b ∷ bs) h e = absurd cc

fit_there : (v : Option (List ℕ)) → value_fits v ≡ true → IsThere v
fit_there None h = tt
fit_there (Some v) h = run_there v h

tag_there_at : (o : Option Param) → tag_fits o ≡ true → IsThere (value_found o)
tag_there_at None h = tt
tag_there_at (Some tag) h = fit_there tag.value h

fit_of : (text : List ℕ) (name : NameAddr) → party_of text ≡ Some name → has_fit_tag name.params ≡ true
unfolding party_of
fit_of text name h = step (name_addr_of text) h where
  found : (b : Bool) (n : NameAddr) → has_fit_tag n.params ≡ b → cond b (Some n) None ≡ Some name → has_fit_tag name.params ≡ true
  found true n e k = let same : n ≡ name = cc in subst (λ (x : NameAddr). has_fit_tag x.params ≡ true) same e
  found false n e k = absurd cc

  step : (r : Result NameAddr UriError) → party_from r ≡ Some name → has_fit_tag name.params ≡ true
  step (Ok n) k = found (has_fit_tag n.params) n refl k
  step (Err x) k = absurd cc

pub tag_there : (text : List ℕ) (name : NameAddr) → party_of text ≡ Some name → IsThere (tag_value name.params)
tag_there text name h = tag_there_at (param_named (codes "tag") name.params) (fit_of text name h)

-- ---- branches

value_there : (text : List ℕ) → is_field_value text ≡ true → text ≡ [] → ⊥
unfolding is_field_value is_quoted is_bracketed
value_there [] h e = absurd cc
value_there (b ∷ bs) h e = absurd cc

piece_value : (o : Option (List ℕ)) → passes_if_there (λ v. is_field_value (trimmed v)) o ≡ true → IsThere (option_map trimmed o)
piece_value None h = tt
piece_value (Some v) h = value_there (trimmed v) h

piece_there : (piece : List ℕ) → is_field_param piece ≡ true → IsThere (field_param_of piece).value
unfolding is_field_param
piece_there piece h = piece_value (after 61 piece) (and_parts (is_run_of is_token_byte (trimmed (before 61 piece))) _ h).1

found_there : (name : List ℕ) (texts : List (List ℕ)) → list_all is_field_param texts ≡ true → IsThere (value_found (param_named name (map field_param_of texts)))
found_there name [] h = tt
found_there name (text ∷ texts) h =
    let parts = and_parts (is_field_param text) (list_all is_field_param texts) h in
    step (str_eq_ignore_ascii_case (field_param_of text).name name) (piece_there text parts.0) (found_there name texts parts.1)
  where
    step : (b : Bool) → IsThere (field_param_of text).value → IsThere (value_found (param_named name (map field_param_of texts)))
        → IsThere (value_found (cond b (Some (field_param_of text)) (param_named name (map field_param_of texts))))
    step true here more = here
    step false here more = more

params_there : (name : List ℕ) (o : Option (List ℕ)) (ps : List Param) → field_params_read o ≡ Some ps → IsThere (value_found (param_named name ps))
unfolding field_params_read field_params_of is_field_params
params_there name None ps h = let same : [] ≡ ps = cc in subst (λ (qs : List Param). IsThere (value_found (param_named name qs))) same tt
params_there name (Some text) ps h = step (list_all is_field_param (pieces 59 Nothing text)) refl h where
  step : (b : Bool) → list_all is_field_param (pieces 59 Nothing text) ≡ b → cond b (Some (map field_param_of (pieces 59 Nothing text))) None ≡ Some ps → IsThere (value_found (param_named name ps))
  step true e k = let same : map field_param_of (pieces 59 Nothing text) ≡ ps = cc in subst (λ (qs : List Param). IsThere (value_found (param_named name qs))) same (found_there name (pieces 59 Nothing text) e)
  step false e k = absurd cc

via_there : (text : List ℕ) (via : Via) → via_of text ≡ Some via → IsThere (param_value (codes "branch") via.params)
unfolding via_of
via_there text via h = step (is_raw_via (raw_via_of text)) (host_read (raw_via_of text).host) (field_params_read (raw_via_of text).params) refl h where
  step : (b : Bool) (host : Option Host) (ps : Option (List Param)) → field_params_read (raw_via_of text).params ≡ ps → cond b (with_host (raw_via_of text) host ps) None ≡ Some via → IsThere (param_value (codes "branch") via.params)
  step true (Some host) (Some params) e k =
      let same : made (raw_via_of text) host params ≡ via = cc in
      subst (λ (v : Via). IsThere (param_value (codes "branch") v.params)) same (params_there (codes "branch") (raw_via_of text).params params e)
  step true (Some host) None e k = absurd cc
  step true None ps e k = absurd cc
  step false host ps e k = absurd cc

abbrev each : List Via → List (Option Via)
each vias = map (λ via. Some via) vias

pub branch_there : (texts : List (List ℕ)) (vias : List Via) → map via_of texts ≡ each vias → IsThere (top_branch vias)
branch_there texts [] h = tt
branch_there [] (via ∷ vias) h = absurd cc
branch_there (text ∷ texts) (via ∷ vias) h = let first : via_of text ≡ Some via = cc in via_there text via first

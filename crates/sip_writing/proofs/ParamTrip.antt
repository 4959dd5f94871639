-- Parameters that can be written: each was read from a clean text, or is made of two tokens.
use Rattle.std.proofs.Common.{◌≡◌, ℕ, Bool, true, false, not, cond, eqb, List, [], ◌∷◌, ◌++◌, length, map, Option, Some, None, refl, sym, ap, subst, append_assoc}
use Rattle.std.specs.Prelude.{option_map}
use Rattle.std.specs.List.{list_all, AllByRecursion}
use Rattle.std.proofs.lemmas.Bool.{and_parts}
use Rattle.std.proofs.lemmas.List.{append-nil}
use Rattle.text.specs.Class.{is_token_byte, is_run_of, passes_if_there}
use Rattle.text.specs.Cut.{before, after, led_by}
use Rattle.text.specs.Pieces.{pieces}
use Rattle.text.specs.Trim.{trimmed}
use Rattle.text.specs.declared.split.Within.TheVariants.{Nothing}
use Rattle.sip_uri.specs.declared.uri.Param.{Param}
use Rattle.sip_uri.specs.FieldParams.{is_field_value, is_field_param, is_field_params, field_param_of, field_params_of, field_params_read}
use Rattle.sip_uri.specs.Writing.{param_text, params_text}
use Rattle.sip_uri.proofs.Closed.{IsClosed, closed_append, closed_plain, comma}
use Rattle.sip_uri.proofs.FieldTrip.{IsFieldParam, param_is, param_closed, Again, again_at}
use Rattle.sip_message.specs.Lines.{is_clean}
use Rattle.sip_message.proofs.CleanLaws.{clean_before, clean_after, clean_trimmed_part, clean_led_by, clean_pieces, Ends, ends_trimmed, ends_behind}
use Rattle.sip_message.proofs.ValueLaws.{token_clean, token_trimmed, trimmed_clean, clean_joined}

pub record IsParam (p : Param) : Type 0 where
  pub field : IsFieldParam p
  pub clean : is_clean (param_text p) ≡ true

-- ---- where they come from

param_sound : (piece : List ℕ) → is_field_param piece ≡ true → is_clean piece ≡ true → IsParam (field_param_of piece)
param_sound piece h k = record {
  field = param_is piece h;
  clean =
      let name = trimmed_clean (before 61 piece) (clean_before 61 piece k) in
      let value = clean_led_by 61 refl (option_map trimmed (after 61 piece)) (clean_trimmed_part (after 61 piece) (clean_after 61 piece k)) in
      clean_joined (trimmed (before 61 piece)) (led_by 61 (option_map trimmed (after 61 piece))) name value;
}

all_sound : (ps : List (List ℕ)) → list_all is_field_param ps ≡ true → list_all is_clean ps ≡ true → AllByRecursion IsParam (map field_param_of ps)
all_sound [] h k = tt
all_sound (p ∷ ps) h k =
    let forms = and_parts (is_field_param p) (list_all is_field_param ps) h in
    let cleans = and_parts (is_clean p) (list_all is_clean ps) k in
    (param_sound p forms.0 cleans.0, all_sound ps forms.1 cleans.1)

pub params_sound : (o : Option (List ℕ)) (ps : List Param) → field_params_read o ≡ Some ps → passes_if_there is_clean o ≡ true → AllByRecursion IsParam ps
unfolding field_params_read field_params_of is_field_params
params_sound None ps h k = let none : [] ≡ ps = cc in subst (λ (x : List Param). AllByRecursion IsParam x) none tt
params_sound (Some t) ps h k = step (list_all is_field_param (pieces 59 Nothing t)) refl h where
  step : (e : Bool) → list_all is_field_param (pieces 59 Nothing t) ≡ e → cond e (Some (map field_param_of (pieces 59 Nothing t))) None ≡ Some ps → AllByRecursion IsParam ps
  step true e f = let same : map field_param_of (pieces 59 Nothing t) ≡ ps = cc in subst (λ (x : List Param). AllByRecursion IsParam x) same (all_sound (pieces 59 Nothing t) e (clean_pieces 59 Nothing t k))
  step false e f = absurd cc

-- a name and a value that are tokens
pub token_param : (name value : List ℕ) → is_run_of is_token_byte name ≡ true → is_run_of is_token_byte value ≡ true → IsParam (record { name = name; value = Some value })
unfolding is_field_value
token_param name value h k =
    let names = (and_parts (not (eqb (length name) 0)) (list_all is_token_byte name) h).1 in
    let values = (and_parts (not (eqb (length value) 0)) (list_all is_token_byte value) k).1 in
    record {
      field = record { name = h; value = rw k refl; name_trimmed = token_trimmed name names; value_trimmed = ap (λ (t : List ℕ). Some t) (token_trimmed value values) };
      clean = clean_joined name (61 ∷ value) (token_clean name names) (token_clean value values);
    }

-- ---- what is written for them

fields_of : (ps : List Param) → AllByRecursion IsParam ps → AllByRecursion IsFieldParam ps
fields_of [] h = tt
fields_of (p ∷ ps) h = (h.0.field, fields_of ps h.1)

pub params_again : (ps : List Param) → AllByRecursion IsParam ps → Again ps
params_again ps h = again_at ps (fields_of ps h)

-- parameters, each after a semicolon
abbrev pub behind_semicolons : List Param → List ℕ
behind_semicolons ps = params_text 59 59 ps

pub params_clean : (ps : List Param) → AllByRecursion IsParam ps → is_clean (behind_semicolons ps) ≡ true
params_clean [] h = refl
params_clean (p ∷ ps) h = clean_joined (59 ∷ param_text p) (behind_semicolons ps) h.0.clean (params_clean ps h.1)

pub params_closed : (ps : List Param) → AllByRecursion IsParam ps → IsClosed 44 (behind_semicolons ps)
params_closed [] h = closed_plain 44 [] tt tt tt
params_closed (p ∷ ps) h =
    let one : IsClosed 44 (59 ∷ param_text p) = closed_append 44 (59 ∷ []) (param_text p) (closed_plain 44 (59 ∷ []) (refl, tt) (refl, tt) (refl, tt)) (param_closed 44 comma p h.0.field) in
    closed_append 44 (59 ∷ param_text p) (behind_semicolons ps) one (params_closed ps h.1)

some_is : (a b : List ℕ) → Some a ≡ Some b → a ≡ b
some_is a b e = cc

param_ends : (p : Param) → IsParam p → Ends (param_text p)
param_ends p h = step p.value h.field.value_trimmed where
  step : (o : Option (List ℕ)) → option_map trimmed o ≡ o → Ends (p.name ++ led_by 61 o)
  step None e = subst (λ (t : List ℕ). Ends t) (sym (append-nil p.name)) (ends_trimmed p.name h.field.name_trimmed)
  step (Some v) e = ends_behind p.name 61 v refl (ends_trimmed v (some_is (trimmed v) v e))

pub params_end : (front : List ℕ) (ps : List Param) → Ends front → AllByRecursion IsParam ps → Ends (front ++ behind_semicolons ps)
params_end front [] e h = subst (λ (t : List ℕ). Ends t) (sym (append-nil front)) e
params_end front (p ∷ ps) e h =
    subst (λ (t : List ℕ). Ends t) (append_assoc front (59 ∷ param_text p) (behind_semicolons ps)) (params_end (front ++ 59 ∷ param_text p) ps (ends_behind front 59 (param_text p) refl (param_ends p h.0)) h.1)

-- Parameters of a header field that are written are read again.
use Rattle.std.proofs.Common.{◌≡◌, ℕ, true, not, eqb, List, [], ◌∷◌, ◌++◌, length, map, Option, Some, None, refl, ap, ◌∙◌}
use Rattle.std.specs.Prelude.{option_map}
use Rattle.std.specs.List.{list_all, AllByRecursion}
use Rattle.std.proofs.lemmas.Bool.{and_parts, and_from}
use Rattle.std.proofs.lemmas.List.{append-nil}
use Rattle.text.specs.Class.{is_token_byte, is_run_of, passes_if_there}
use Rattle.text.specs.Cut.{before, after, led_by}
use Rattle.text.specs.Pieces.{pieces}
use Rattle.text.specs.Trim.{trimmed}
use Rattle.text.specs.declared.split.Within.TheVariants.{Nothing}
use Rattle.text.proofs.CutLaws.{Lacks, Lacks-from_class, before_at, after_at}
use Rattle.sip_uri.specs.declared.uri.Param.{Param}
use Rattle.sip_uri.specs.FieldParams.{is_field_value, is_field_param, is_field_params, field_param_of, field_params_of}
use Rattle.sip_uri.specs.Writing.{param_text, params_text}
use Rattle.sip_uri.proofs.BlankLaws.{trimmed_again}
use Rattle.sip_uri.proofs.Closed.{Separates, semicolon, IsClosed, closed_append, closed_plain, token_closed, value_closed, equals_closed}

-- ---- one parameter

-- a parameter that was read
pub record IsFieldParam (p : Param) : Type 0 where
  pub name : is_run_of is_token_byte p.name ≡ true
  pub value : passes_if_there is_field_value p.value ≡ true
  pub name_trimmed : trimmed p.name ≡ p.name
  pub value_trimmed : option_map trimmed p.value ≡ p.value

pub param_is : (piece : List ℕ) → is_field_param piece ≡ true → IsFieldParam (field_param_of piece)
unfolding is_field_param
param_is piece h =
    let parts = and_parts (is_run_of is_token_byte (trimmed (before 61 piece))) (passes_if_there (λ v. is_field_value (trimmed v)) (after 61 piece)) h in
    let value = of_value (after 61 piece) parts.1 in
    record { name = parts.0; value = value.0; name_trimmed = trimmed_again (before 61 piece); value_trimmed = value.1 } where
      of_value : (o : Option (List ℕ)) → passes_if_there (λ v. is_field_value (trimmed v)) o ≡ true → (passes_if_there is_field_value (option_map trimmed o) ≡ true) × (option_map trimmed (option_map trimmed o) ≡ option_map trimmed o)
      of_value None k = (refl, refl)
      of_value (Some v) k = (k, ap (λ (t : List ℕ). Some t) (trimmed_again v))

no_equals : (p : Param) → IsFieldParam p → Lacks 61 p.name
no_equals p h = Lacks-from_class is_token_byte 61 refl p.name (and_parts (not (eqb (length p.name) 0)) (list_all is_token_byte p.name) h.name).1

pub param_again : (p : Param) → IsFieldParam p → field_param_of (param_text p) ≡ p
param_again p h = let lacks = no_equals p h in rw (before_at 61 p.name p.value lacks, after_at 61 p.name p.value lacks) (same p h) where
  same : (p : Param) → IsFieldParam p → record { name = trimmed p.name; value = option_map trimmed p.value } ≡ p
  same p h = rw (h.name_trimmed, h.value_trimmed) refl

abbrev some : List ℕ → Option (List ℕ)
some t = Some t

some_is : (a b : List ℕ) → some a ≡ some b → a ≡ b
some_is a b e = cc

pub param_fits : (p : Param) → IsFieldParam p → is_field_param (param_text p) ≡ true
unfolding is_field_param
param_fits p h =
    let lacks = no_equals p h in
    rw (before_at 61 p.name p.value lacks, after_at 61 p.name p.value lacks, h.name_trimmed, h.name) (of_value p.value h.value h.value_trimmed) where
      of_value : (o : Option (List ℕ)) → passes_if_there is_field_value o ≡ true → option_map trimmed o ≡ o → passes_if_there (λ v. is_field_value (trimmed v)) o ≡ true
      of_value None k e = refl
      of_value (Some v) k e = rw (some_is (trimmed v) v e) k

pub param_closed : (c : ℕ) → Separates c → (p : Param) → IsFieldParam p → IsClosed c (param_text p)
param_closed c s p h = closed_append c p.name (led_by 61 p.value) (token_closed c s p.name h.name) (of_value p.value h.value) where
  of_value : (o : Option (List ℕ)) → passes_if_there is_field_value o ≡ true → IsClosed c (led_by 61 o)
  of_value None k = closed_plain c [] tt tt tt
  of_value (Some v) k = equals_closed c s v (value_closed c s v k)

-- ---- all parameters

pub params_are : (pieces : List (List ℕ)) → list_all is_field_param pieces ≡ true → AllByRecursion IsFieldParam (map field_param_of pieces)
params_are [] h = tt
params_are (p ∷ ps) h = let parts = and_parts (is_field_param p) (list_all is_field_param ps) h in (param_is p parts.0, params_are ps parts.1)

pieces_again : (p : Param) (ps : List Param) → AllByRecursion IsFieldParam (p ∷ ps) → pieces 59 Nothing (param_text p ++ params_text 59 59 ps) ≡ map param_text (p ∷ ps)
pieces_again p [] h = param_closed 59 semicolon p h.0 [] ∙ ap (λ (t : List ℕ). t ∷ []) (append-nil (param_text p))
pieces_again p (q ∷ qs) h =
    param_closed 59 semicolon p h.0 (params_text 59 59 (q ∷ qs)) ∙ ap (λ (ps : List (List ℕ)). (param_text p ++ []) ∷ ps) (pieces_again q qs h.1) ∙ ap (λ (t : List ℕ). t ∷ map param_text (q ∷ qs)) (append-nil (param_text p))

all_again : (ps : List Param) → AllByRecursion IsFieldParam ps → map field_param_of (map param_text ps) ≡ ps
all_again [] h = refl
all_again (p ∷ ps) h = rw (param_again p h.0, all_again ps h.1) refl

all_fit : (ps : List Param) → AllByRecursion IsFieldParam ps → list_all is_field_param (map param_text ps) ≡ true
all_fit [] h = refl
all_fit (p ∷ ps) h = and_from _ _ (param_fits p h.0) (all_fit ps h.1)

-- the text of parameters after its semicolon
abbrev pub written : List Param → Option (List ℕ)
written [] = None
written (p ∷ ps) = Some (param_text p ++ params_text 59 59 ps)

-- parameters that are written
pub record Again (ps : List Param) : Type 0 where
  pub text : params_text 59 59 ps ≡ led_by 59 (written ps)
  pub form : passes_if_there is_field_params (written ps) ≡ true
  pub value : field_params_of (written ps) ≡ ps

pub again_at : (ps : List Param) → AllByRecursion IsFieldParam ps → Again ps
unfolding is_field_params field_params_of
again_at [] h = record { text = refl; form = refl; value = refl }
again_at (p ∷ ps) h = record {
  text = refl;
  form = rw (pieces_again p ps h) (all_fit (p ∷ ps) h);
  value = rw (pieces_again p ps h) (all_again (p ∷ ps) h);
}

-- parameters that were read are read again from what is written for them
pub fields_again : (o : Option (List ℕ)) → passes_if_there is_field_params o ≡ true → Again (field_params_of o)
unfolding is_field_params field_params_of
fields_again None h = again_at [] tt
fields_again (Some t) h = again_at (map field_param_of (pieces 59 Nothing t)) (params_are (pieces 59 Nothing t) h)

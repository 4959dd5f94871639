-- The tag of a header field that is written is read again.
use Rattle.std.proofs.Common.{◌≡◌, ℕ, suc, true, false, not, eqb, List, [], ◌∷◌, ◌++◌, length, codes, Option, Some, None, refl, ap}
use Rattle.std.specs.Prelude.{unwrap_or, is_some}
use Rattle.std.specs.List.{list_all, onto_first}
use Rattle.std.proofs.lemmas.Bool.{and_parts, ne_eqb}
use Rattle.text.specs.Class.{is_run_of, is_token_byte, passes_if_there}
use Rattle.text.specs.Pieces.{pieces}
use Rattle.text.specs.Trim.{trimmed}
use Rattle.text.specs.declared.split.Within.TheVariants.{Nothing}
use Rattle.text.proofs.CutLaws.{Lacks, Lacks-from_class}
use Rattle.sip_uri.specs.declared.uri.Param.{Param}
use Rattle.sip_uri.specs.FieldParams.{is_field_value, is_field_param, is_field_params, field_params_of}
use Rattle.sip_uri.specs.Binding.{param_named}
use Rattle.sip_message.specs.Party.{value_fits, tag_fits, has_fit_tag, has_tag}
use Rattle.sip_message.proofs.ValueLaws.{token_trimmed}
use Rattle.sip_writing.specs.Requests.{tag_params}

no_cut : (t : List ℕ) → Lacks 59 t → Lacks 34 t → Lacks 60 t → pieces 59 Nothing t ≡ t ∷ []
no_cut [] a b c = refl
no_cut (x ∷ t) a b c = rw (a.0, b.0, c.0) (ap (onto_first x) (no_cut t a.1 b.1 c.1))

one_piece : (tag : List ℕ) → list_all is_token_byte tag ≡ true → pieces 59 Nothing (codes "tag=" ++ tag) ≡ (codes "tag=" ++ tag) ∷ []
one_piece tag h =
    no_cut (codes "tag=" ++ tag)
    (refl, (refl, (refl, (refl, Lacks-from_class is_token_byte 59 refl tag h))))
    (refl, (refl, (refl, (refl, Lacks-from_class is_token_byte 34 refl tag h))))
    (refl, (refl, (refl, (refl, Lacks-from_class is_token_byte 60 refl tag h))))

pub not_empty : (b : ℕ) (bs : List ℕ) → eqb (length (b ∷ bs)) 0 ≡ false
not_empty b bs = ne_eqb (suc (length bs)) 0 (λ e. cc)

-- the text of the parameters
abbrev pub params_part : List ℕ → Option (List ℕ)
params_part [] = None
params_part (b ∷ bs) = Some (codes "tag=" ++ b ∷ bs)

-- it is read as the tag
pub record ReadsTag (tag : List ℕ) : Type 0 where
  pub form : passes_if_there is_field_params (params_part tag) ≡ true
  pub value : tag_params tag ≡ field_params_of (params_part tag)

value_is : (tag : List ℕ) → is_run_of is_token_byte tag ≡ true → is_field_value tag ≡ true
unfolding is_field_value
value_is tag h = rw h refl

piece_is : (tag : List ℕ) → is_run_of is_token_byte tag ≡ true → trimmed tag ≡ tag → is_field_param (codes "tag=" ++ tag) ≡ true
unfolding is_field_param
piece_is tag h trim = rw trim (value_is tag h)

pub reads_tag : (tag : List ℕ) → list_all is_token_byte tag ≡ true → ReadsTag tag
unfolding is_field_params field_params_of
reads_tag [] h = record { form = refl; value = refl }
reads_tag (b ∷ bs) h =
    let tag : List ℕ = b ∷ bs in
    let trim : trimmed tag ≡ tag = token_trimmed tag h in
    let run : is_run_of is_token_byte tag ≡ true = rw (not_empty b bs) h in
    record {
      form = rw (one_piece tag h, piece_is tag run trim) refl;
      value = rw (one_piece tag h, not_empty b bs, trim) refl;
    }

-- a tag that is written is an allowed one
pub tag_fits_again : (tag : List ℕ) → list_all is_token_byte tag ≡ true → has_fit_tag (tag_params tag) ≡ true
tag_fits_again [] h = refl
tag_fits_again (b ∷ bs) h = rw (not_empty b bs) (rw (not_empty b bs) h)

-- a tag that is there is written
pub tag_stands : (tag : List ℕ) → is_run_of is_token_byte tag ≡ true → has_tag (tag_params tag) ≡ true
tag_stands [] h = absurd cc
tag_stands (b ∷ bs) h = rw (not_empty b bs) refl

pub run_is : (t : List ℕ) → is_run_of is_token_byte t ≡ true → list_all is_token_byte t ≡ true
run_is t h = (and_parts (not (eqb (length t) 0)) (list_all is_token_byte t) h).1

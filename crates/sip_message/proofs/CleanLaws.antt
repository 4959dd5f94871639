-- Parts of a clean text are clean, and texts that do not end in a blank.
use Rattle.std.proofs.Common.{◌≡◌, ℕ, Bool, true, false, ◌&&◌, cond, eqb, List, [], ◌∷◌, ◌++◌, Option, Some, None, refl, subst}
use Rattle.std.specs.Prelude.{option_map}
use Rattle.std.specs.List.{list_all, onto_first}
use Rattle.std.proofs.lemmas.Bool.{and_parts, and_from}
use Rattle.text.specs.Class.{is_blank, passes_if_there}
use Rattle.text.specs.Cut.{before, after, led_by}
use Rattle.text.specs.Pieces.{next_within, is_outside, pieces}
use Rattle.text.specs.Trim.{without_end, trimmed}
use Rattle.text.specs.declared.split.Within.{Within}
use Rattle.header_fields.specs.Lines.{is_text_byte, is_clean}
use Rattle.sip_message.proofs.ValueLaws.{end_behind, trimmed_is, trimmed_clean}

-- ---- clean parts

pub clean_before : (c : ℕ) (t : List ℕ) → is_clean t ≡ true → is_clean (before c t) ≡ true
clean_before c [] h = refl
clean_before c (b ∷ bs) h = let parts = and_parts (is_text_byte b) (is_clean bs) h in step (eqb b c) parts.0 (clean_before c bs parts.1) where
  step : (e : Bool) → is_text_byte b ≡ true → is_clean (before c bs) ≡ true → is_clean (cond e [] (b ∷ before c bs)) ≡ true
  step true k more = refl
  step false k more = and_from (is_text_byte b) (is_clean (before c bs)) k more

pub clean_after : (c : ℕ) (t : List ℕ) → is_clean t ≡ true → passes_if_there is_clean (after c t) ≡ true
clean_after c [] h = refl
clean_after c (b ∷ bs) h = let parts = and_parts (is_text_byte b) (is_clean bs) h in step (eqb b c) parts.1 (clean_after c bs parts.1) where
  step : (e : Bool) → is_clean bs ≡ true → passes_if_there is_clean (after c bs) ≡ true → passes_if_there is_clean (cond e (Some bs) (after c bs)) ≡ true
  step true k more = k
  step false k more = more

pub clean_trimmed_part : (o : Option (List ℕ)) → passes_if_there is_clean o ≡ true → passes_if_there is_clean (option_map trimmed o) ≡ true
clean_trimmed_part None h = refl
clean_trimmed_part (Some t) h = trimmed_clean t h

pub clean_led_by : (c : ℕ) → is_text_byte c ≡ true → (o : Option (List ℕ)) → passes_if_there is_clean o ≡ true → is_clean (led_by c o) ≡ true
clean_led_by c is None h = refl
clean_led_by c is (Some t) h = and_from (is_text_byte c) (is_clean t) is h

clean_first : (b : ℕ) (ps : List (List ℕ)) → is_text_byte b ≡ true → list_all is_clean ps ≡ true → list_all is_clean (onto_first b ps) ≡ true
clean_first b [] h k = and_from (is_clean (b ∷ [])) true (and_from (is_text_byte b) true h refl) refl
clean_first b (p ∷ ps) h k =
    let parts = and_parts (is_clean p) (list_all is_clean ps) k in
    and_from (is_clean (b ∷ p)) (list_all is_clean ps) (and_from (is_text_byte b) (is_clean p) h parts.0) parts.1

pub clean_pieces : (c : ℕ) (within : Within) (t : List ℕ) → is_clean t ≡ true → list_all is_clean (pieces c within t) ≡ true
clean_pieces c within [] h = refl
clean_pieces c within (b ∷ bs) h =
    let parts = and_parts (is_text_byte b) (is_clean bs) h in
    step (is_outside within && eqb b c) parts.0 (clean_pieces c (next_within within b) bs parts.1) where
      step : (e : Bool) → is_text_byte b ≡ true → list_all is_clean (pieces c (next_within within b) bs) ≡ true
          → list_all is_clean (cond e ([] ∷ pieces c (next_within within b) bs) (onto_first b (pieces c (next_within within b) bs))) ≡ true
      step true k more = more
      step false k more = clean_first b (pieces c (next_within within b) bs) k more

-- ---- ends

-- there is no blank at the end
abbrev pub Ends : List ℕ → Type 0
Ends t = without_end t ≡ t

pub ends_trimmed : (t : List ℕ) → trimmed t ≡ t → Ends t
ends_trimmed t h = subst (λ (x : List ℕ). Ends x) h (trimmed_is t).back

ends_led : (y : ℕ) (b : List ℕ) → is_blank y ≡ false → Ends b → Ends (y ∷ b)
ends_led y b h k = rw (k, h) refl

pub ends_behind : (a : List ℕ) (y : ℕ) (b : List ℕ) → is_blank y ≡ false → Ends b → Ends (a ++ y ∷ b)
ends_behind a y b h k = end_behind a y b (ends_led y b h k)

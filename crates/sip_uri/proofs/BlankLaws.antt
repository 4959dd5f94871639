-- Blanks at the ends of texts.
use Rattle.std.proofs.Common.{◌≡◌, ℕ, Bool, true, false, ◌&&◌, cond, eqb, List, [], ◌∷◌, ◌++◌, length, Option, Some, None, refl, sym, ap, subst, ◌∙◌}
use Rattle.std.specs.List.{list_all}
use Rattle.std.proofs.lemmas.Bool.{and_parts, and_from, eqb-true}
use Rattle.std.proofs.lemmas.List.{append-nil, nil_from_length}
use Rattle.text.specs.Class.{is_blank}
use Rattle.text.specs.Cut.{led_by}
use Rattle.text.specs.Trim.{without_blanks, without_end, trimmed}
use Rattle.text.proofs.CutLaws.{Lacks, differs}

-- the blanks at the front of a text
pub record HasLead (text : List ℕ) : Type 0 where
  pub lead : List ℕ
  pub blank : list_all is_blank lead ≡ true
  pub whole : text ≡ lead ++ without_blanks text

pub lead_of : (t : List ℕ) → HasLead t
lead_of [] = record { lead = []; blank = refl; whole = refl }
lead_of (b ∷ bs) = step (is_blank b) refl (lead_of bs) where
  step : (e : Bool) → is_blank b ≡ e → HasLead bs → HasLead (b ∷ bs)
  step true h more =
      let skipped : without_blanks (b ∷ bs) ≡ without_blanks bs = rw h refl in
      record { lead = b ∷ more.lead; blank = and_from _ _ h more.blank; whole = rw skipped (ap (λ (t : List ℕ). b ∷ t) more.whole) }
  step false h more =
      let same : without_blanks (b ∷ bs) ≡ b ∷ bs = rw h refl in
      record { lead = []; blank = refl; whole = sym same }

-- the blanks at the end of a text
pub record HasTrail (text : List ℕ) : Type 0 where
  pub trail : List ℕ
  pub blank : list_all is_blank trail ≡ true
  pub whole : text ≡ without_end text ++ trail

pub trail_of : (t : List ℕ) → HasTrail t
trail_of [] = record { trail = []; blank = refl; whole = refl }
trail_of (b ∷ bs) = step (is_blank b) (eqb (length (without_end bs)) 0) refl refl (trail_of bs) where
  step : (e f : Bool) → is_blank b ≡ e → eqb (length (without_end bs)) 0 ≡ f → HasTrail bs → HasTrail (b ∷ bs)
  step true true h none more =
      let gone : without_end (b ∷ bs) ≡ [] = rw (h, none) refl in
      let rest : bs ≡ more.trail = more.whole ∙ ap (λ (t : List ℕ). t ++ more.trail) (nil_from_length (without_end bs) (eqb-true _ _ none)) in
      record { trail = b ∷ bs; blank = and_from _ _ h (ap (list_all is_blank) rest ∙ more.blank); whole = ap (λ (t : List ℕ). t ++ b ∷ bs) (sym gone) }
  step true false h some more =
      let kept : without_end (b ∷ bs) ≡ b ∷ without_end bs = rw (h, some) refl in
      record { trail = more.trail; blank = more.blank; whole = ap (λ (t : List ℕ). b ∷ t) more.whole ∙ ap (λ (t : List ℕ). t ++ more.trail) (sym kept) }
  step false f h some more =
      let kept : without_end (b ∷ bs) ≡ b ∷ without_end bs = rw h refl in
      record { trail = more.trail; blank = more.blank; whole = ap (λ (t : List ℕ). b ∷ t) more.whole ∙ ap (λ (t : List ℕ). t ++ more.trail) (sym kept) }

pub skipped : (lead t : List ℕ) → list_all is_blank lead ≡ true → without_blanks (lead ++ t) ≡ without_blanks t
skipped [] t h = refl
skipped (b ∷ bs) t h = let parts = and_parts (is_blank b) (list_all is_blank bs) h in rw parts.0 (skipped bs t parts.1)

-- another byte ends the blanks at the front
pub skipped_before : (front : List ℕ) (b : ℕ) (t : List ℕ) → is_blank b ≡ false → without_blanks (front ++ b ∷ t) ≡ without_blanks front ++ b ∷ t
skipped_before [] b t h = rw h refl
skipped_before (x ∷ xs) b t h = step (is_blank x) (skipped_before xs b t h) where
  step : (e : Bool) → without_blanks (xs ++ b ∷ t) ≡ without_blanks xs ++ b ∷ t → cond e (without_blanks (xs ++ b ∷ t)) (x ∷ (xs ++ b ∷ t)) ≡ cond e (without_blanks xs) (x ∷ xs) ++ b ∷ t
  step true more = more
  step false more = refl

pub skipped_before_part : (front : List ℕ) (o : Option (List ℕ)) → without_blanks (front ++ led_by 59 o) ≡ without_blanks front ++ led_by 59 o
skipped_before_part front None = ap without_blanks (append-nil front) ∙ sym (append-nil (without_blanks front))
skipped_before_part front (Some t) = skipped_before front 59 t refl

pub skipped_again : (t : List ℕ) → without_blanks (without_blanks t) ≡ without_blanks t
skipped_again [] = refl
skipped_again (b ∷ bs) = step (is_blank b) refl (skipped_again bs) where
  step : (e : Bool) → is_blank b ≡ e → without_blanks (without_blanks bs) ≡ without_blanks bs → without_blanks (cond e (without_blanks bs) (b ∷ bs)) ≡ cond e (without_blanks bs) (b ∷ bs)
  step true h more = more
  step false h more = rw h refl

-- ---- bytes that are left

pub all_without_blanks : (p : ℕ → Bool) (t : List ℕ) → list_all p t ≡ true → list_all p (without_blanks t) ≡ true
all_without_blanks p [] h = refl
all_without_blanks p (b ∷ bs) h =
    let parts = and_parts (p b) (list_all p bs) h in
    step (is_blank b) h (all_without_blanks p bs parts.1) where
      step : (e : Bool) → list_all p (b ∷ bs) ≡ true → list_all p (without_blanks bs) ≡ true → list_all p (cond e (without_blanks bs) (b ∷ bs)) ≡ true
      step true k more = more
      step false k more = k

pub all_without_end : (p : ℕ → Bool) (t : List ℕ) → list_all p t ≡ true → list_all p (without_end t) ≡ true
all_without_end p [] h = refl
all_without_end p (b ∷ bs) h =
    let parts = and_parts (p b) (list_all p bs) h in
    step (is_blank b) (eqb (length (without_end bs)) 0) parts.0 (all_without_end p bs parts.1) where
      step : (e f : Bool) → p b ≡ true → list_all p (without_end bs) ≡ true → list_all p (cond (e && f) [] (b ∷ without_end bs)) ≡ true
      step true true k more = refl
      step true false k more = and_from _ _ k more
      step false f k more = and_from _ _ k more

pub all_trimmed : (p : ℕ → Bool) (t : List ℕ) → list_all p t ≡ true → list_all p (trimmed t) ≡ true
all_trimmed p t h = all_without_end p (without_blanks t) (all_without_blanks p t h)

-- ---- bytes that are not there

pub Lacks-without_blanks : (c : ℕ) (t : List ℕ) → Lacks c t → Lacks c (without_blanks t)
Lacks-without_blanks c [] h = tt
Lacks-without_blanks c (b ∷ bs) h = step (is_blank b) h (Lacks-without_blanks c bs h.1) where
  step : (e : Bool) → Lacks c (b ∷ bs) → Lacks c (without_blanks bs) → Lacks c (cond e (without_blanks bs) (b ∷ bs))
  step true k more = more
  step false k more = k

from_without_blanks : (c : ℕ) → is_blank c ≡ false → (t : List ℕ) → Lacks c (without_blanks t) → Lacks c t
from_without_blanks c out [] h = tt
from_without_blanks c out (b ∷ bs) h = step (is_blank b) refl h (λ k. from_without_blanks c out bs k) where
  step : (e : Bool) → is_blank b ≡ e → Lacks c (cond e (without_blanks bs) (b ∷ bs)) → (Lacks c (without_blanks bs) → Lacks c bs) → Lacks c (b ∷ bs)
  step true blank k more = (differs is_blank c b out blank, more k)
  step false blank k more = k

from_without_end : (c : ℕ) → is_blank c ≡ false → (t : List ℕ) → Lacks c (without_end t) → Lacks c t
from_without_end c out [] h = tt
from_without_end c out (b ∷ bs) h = step (is_blank b) (eqb (length (without_end bs)) 0) refl (λ e. nil_from_length (without_end bs) (eqb-true _ _ e)) h (λ k. from_without_end c out bs k) where
  step : (e f : Bool) → is_blank b ≡ e → (f ≡ true → without_end bs ≡ []) → Lacks c (cond (e && f) [] (b ∷ without_end bs)) → (Lacks c (without_end bs) → Lacks c bs) → Lacks c (b ∷ bs)
  step true true blank none k more = (differs is_blank c b out blank, more (subst (λ (x : List ℕ). Lacks c x) (sym (none refl)) tt))
  step true false blank none k more = (k.0, more k.1)
  step false f blank none k more = (k.0, more k.1)

pub Lacks-from_trimmed : (c : ℕ) → is_blank c ≡ false → (t : List ℕ) → Lacks c (trimmed t) → Lacks c t
Lacks-from_trimmed c out t h = from_without_blanks c out t (from_without_end c out (without_blanks t) h)

-- ---- trimmed twice

pub end_again : (t : List ℕ) → without_end (without_end t) ≡ without_end t
end_again [] = refl
end_again (b ∷ bs) = step (is_blank b) (eqb (length (without_end bs)) 0) refl refl (end_again bs) where
  step : (e f : Bool) → is_blank b ≡ e → eqb (length (without_end bs)) 0 ≡ f → without_end (without_end bs) ≡ without_end bs
      → without_end (cond (e && f) [] (b ∷ without_end bs)) ≡ cond (e && f) [] (b ∷ without_end bs)
  step true true blank none more = refl
  step true false blank none more = rw (more, blank, none) refl
  step false f blank none more = rw (more, blank) refl

-- a text whose leading blanks are gone begins with none, even without those at its end
end_keeps : (b : ℕ) (bs : List ℕ) → is_blank b ≡ false → without_blanks (without_end (b ∷ bs)) ≡ without_end (b ∷ bs)
end_keeps b bs h = rw h (rw h refl)

front_again : (t : List ℕ) → without_blanks (without_end (without_blanks t)) ≡ without_end (without_blanks t)
front_again [] = refl
front_again (b ∷ bs) = step (is_blank b) refl (front_again bs) where
  step : (e : Bool) → is_blank b ≡ e → without_blanks (without_end (without_blanks bs)) ≡ without_end (without_blanks bs)
      → without_blanks (without_end (cond e (without_blanks bs) (b ∷ bs))) ≡ without_end (cond e (without_blanks bs) (b ∷ bs))
  step true h more = more
  step false h more = end_keeps b bs h

pub trimmed_again : (t : List ℕ) → trimmed (trimmed t) ≡ trimmed t
trimmed_again t = ap without_end (front_again t) ∙ end_again (without_blanks t)

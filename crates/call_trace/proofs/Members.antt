-- Lists of calls of which each one, or some one, has a property.
use Rattle.std.proofs.Common.{◌≡◌, ℕ, zero, suc, List, [], ◌∷◌, ◌++◌, Some, ◌⊎◌, inl, inr, refl, sym, subst}
use Rattle.std.specs.Prelude.{slice_get, slice_set, remove}
use Rattle.call_trace.specs.Listed.{AllOf, AnyOf}

pub all_at : {X : Type 0} (P : X → Type 0) (t : List X) (i : ℕ) (p : X) → AllOf P t → slice_get t i ≡ Some p → P p
all_at P [] i p a e = absurd (cc)
all_at P (x ∷ t) zero p a e = let q : x ≡ p = cc in subst P q a.0
all_at P (x ∷ t) (suc i) p a e = all_at P t i p a.1 e

pub all_append : {X : Type 0} (P : X → Type 0) (t s : List X) → AllOf P t → AllOf P s → AllOf P (t ++ s)
all_append P [] s a b = b
all_append P (x ∷ t) s a b = (a.0, all_append P t s a.1 b)

pub all_weaker : {X : Type 0} (P Q : X → Type 0) → ((x : X) → P x → Q x) → (t : List X) → AllOf P t → AllOf Q t
all_weaker P Q f [] a = tt
all_weaker P Q f (x ∷ t) a = (f x a.0, all_weaker P Q f t a.1)

pub all_set : {X : Type 0} (P : X → Type 0) (t : List X) (i : ℕ) (v : X) → AllOf P t → P v → AllOf P (slice_set t i v)
all_set P [] i v a h = tt
all_set P (x ∷ t) zero v a h = (h, a.1)
all_set P (x ∷ t) (suc i) v a h = (a.0, all_set P t i v a.1 h)

pub all_remove : {X : Type 0} (P : X → Type 0) (t : List X) (i : ℕ) → AllOf P t → AllOf P (remove t i)
all_remove P [] zero a = tt
all_remove P [] (suc i) a = tt
all_remove P (x ∷ t) zero a = a.1
all_remove P (x ∷ t) (suc i) a = (a.0, all_remove P t i a.1)

-- some member other than that at i, or that at i
pub any_remove : {X : Type 0} (P : X → Type 0) (t : List X) (i : ℕ) (v : X) → slice_get t i ≡ Some v → AnyOf P t → AnyOf P (remove t i) ⊎ P v
any_remove P [] zero v e a = absurd a
any_remove P [] (suc i) v e a = absurd a
any_remove P (x ∷ t) zero v e a =
    let q : x ≡ v = cc in elim a [ inl h ↦ inr (subst P q h) | inr h ↦ inl h ]
any_remove P (x ∷ t) (suc i) v e a =
    elim a [ inl h ↦ inl (inl h) | inr h ↦ elim (any_remove P t i v e h) [ inl r ↦ inl (inr r) | inr r ↦ inr r ] ]

pub any_set : {X : Type 0} (P : X → Type 0) (t : List X) (i : ℕ) (v w : X) → slice_get t i ≡ Some v → (P v → P w) → AnyOf P t → AnyOf P (slice_set t i w)
any_set P [] i v w e f a = absurd a
any_set P (x ∷ t) zero v w e f a =
    let q : x ≡ v = cc in elim a [ inl h ↦ inl (f (subst P q h)) | inr h ↦ inr h ]
any_set P (x ∷ t) (suc i) v w e f a =
    elim a [ inl h ↦ inl h | inr h ↦ inr (any_set P t i v w e f h) ]

pub any_new : {X : Type 0} (P : X → Type 0) (t : List X) (i : ℕ) (v w : X) → slice_get t i ≡ Some v → P w → AnyOf P (slice_set t i w)
any_new P [] i v w e h = absurd (cc)
any_new P (x ∷ t) zero v w e h = inl h
any_new P (x ∷ t) (suc i) v w e h = inr (any_new P t i v w e h)

pub any_left : {X : Type 0} (P : X → Type 0) (t s : List X) → AnyOf P t → AnyOf P (t ++ s)
any_left P [] s a = absurd a
any_left P (x ∷ t) s a = elim a [ inl h ↦ inl h | inr h ↦ inr (any_left P t s h) ]

-- a member with the property, and its place
pub any_at : {X : Type 0} (P : X → Type 0) (t : List X) → AnyOf P t → (i : ℕ) × (x : X) × (slice_get t i ≡ Some x) × P x
any_at P [] a = absurd a
any_at P (x ∷ t) a =
    elim a [ inl h ↦ (0, x, refl, h) | inr h ↦ (let r = any_at P t h in (suc r.0, r.1, r.2, r.3)) ]

pub at_any : {X : Type 0} (P : X → Type 0) (t : List X) (i : ℕ) (x : X) → slice_get t i ≡ Some x → P x → AnyOf P t
at_any P [] i x e h = absurd (cc)
at_any P (y ∷ t) zero x e h = let q : y ≡ x = cc in inl (subst P (sym q) h)
at_any P (y ∷ t) (suc i) x e h = inr (at_any P t i x e h)

pub all_both : {X : Type 0} (P Q : X → Type 0) (t : List X) → AllOf P t → AllOf Q t → AllOf (λ x. P x × Q x) t
all_both P Q [] a b = tt
all_both P Q (x ∷ t) a b = ((a.0, b.0), all_both P Q t a.1 b.1)

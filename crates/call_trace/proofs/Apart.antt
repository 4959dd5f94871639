-- Calls that share no tag of ours.
use Rattle.std.proofs.Common.{◌≡◌, ◌≢◌, ℕ, zero, suc, List, [], ◌∷◌, ◌++◌, Bool, true, false, not, Some, inl, inr, refl, sym, subst}
use Rattle.std.specs.Prelude.{slice_get, slice_set, remove}
use Rattle.call_trace.specs.declared.call.Call.{Call}
use Rattle.call_trace.specs.Listed.{AllOf}
use Rattle.call_trace.specs.Stands.{leg, IsTagOf, Apart, AllApart, HasTags}
use Rattle.call_trace.proofs.Members.{all_at, all_append, all_weaker, all_set, all_remove, all_both}

pub apart_turn : (c d : Call) → Apart c d → Apart d c
apart_turn c d h x a b = h x b a

pub leg_tag : (c : Call) (b : Bool) → IsTagOf c (leg c b).ours
leg_tag c true = inl refl
leg_tag c false = inr refl

pub leg_some : (c : Call) (b : Bool) → HasTags c → (leg c b).ours ≢ []
leg_some c true h = h.caller
leg_some c false h = h.callee

pub legs_differ : (c : Call) (b : Bool) → HasTags c → (leg c b).ours ≢ (leg c (not b)).ours
legs_differ c true h = h.differ
legs_differ c false h = λ e. h.differ (sym e)

-- the other calls, where one is changed or taken away
pub set_others : (P Q : Call → Type 0) (cs : List Call) (k : ℕ) (c c' : Call) → AllApart cs → slice_get cs k ≡ Some c → AllOf P cs → ((d : Call) → Apart d c → P d → Q d) → Q c' → AllOf Q (slice_set cs k c')
set_others P Q [] k c c' ap' e a f q = tt
set_others P Q (x ∷ cs) zero c c' ap' e a f q =
    let xc : x ≡ c = cc in
    (q, all_weaker (λ d. Apart x d × P d) Q (λ d g. f d (let R : Call → Type 0 = λ v. Apart d v in subst R xc (apart_turn x d g.0)) g.1) cs (all_both (Apart x) P cs ap'.0 a.1))
set_others P Q (x ∷ cs) (suc k) c c' ap' e a f q = (f x (all_at (Apart x) cs k c ap'.0 e) a.0, set_others P Q cs k c c' ap'.1 e a.1 f q)

pub remove_others : (P Q : Call → Type 0) (cs : List Call) (k : ℕ) (c : Call) → AllApart cs → slice_get cs k ≡ Some c → AllOf P cs → ((d : Call) → Apart d c → P d → Q d) → AllOf Q (remove cs k)
remove_others P Q [] k c ap' e a f = absurd (cc)
remove_others P Q (x ∷ cs) zero c ap' e a f =
    let xc : x ≡ c = cc in
    all_weaker (λ d. Apart x d × P d) Q (λ d g. f d (let R : Call → Type 0 = λ v. Apart d v in subst R xc (apart_turn x d g.0)) g.1) cs (all_both (Apart x) P cs ap'.0 a.1)
remove_others P Q (x ∷ cs) (suc k) c ap' e a f = (f x (all_at (Apart x) cs k c ap'.0 e) a.0, remove_others P Q cs k c ap'.1 e a.1 f)

-- the calls other than the k-th have none of its tags
pub others_tagless : (cs : List Call) (k : ℕ) (c : Call) (tag : List ℕ) → AllApart cs → slice_get cs k ≡ Some c → IsTagOf c tag → AllOf (λ d. ¬ IsTagOf d tag) (remove cs k)
others_tagless cs k c tag apart e of = remove_others (λ d. Unit {0}) (λ d. ¬ IsTagOf d tag) cs k c apart e (none cs) (λ d off u g. off tag g of)
  where
    none : (cs : List Call) → AllOf (λ d. Unit {0}) cs
    none [] = tt
    none (d ∷ ds) = (tt, none ds)

pub apart_set : (cs : List Call) (k : ℕ) (c c' : Call) → slice_get cs k ≡ Some c → ((x : List ℕ) → IsTagOf c' x → IsTagOf c x) → AllApart cs → AllApart (slice_set cs k c')
apart_set [] k c c' e f a = tt
apart_set (x ∷ cs) zero c c' e f a =
    let xc : x ≡ c = cc in
    (all_weaker (Apart x) (Apart c') (λ d g v p q. g v (let R : Call → Type 0 = λ w. IsTagOf w v in subst R (sym xc) (f v p)) q) cs a.0, a.1)
apart_set (x ∷ cs) (suc k) c c' e f a =
    (all_set (Apart x) cs k c' a.0 (λ v p q. all_at (Apart x) cs k c a.0 e v p (f v q)), apart_set cs k c c' e f a.1)

pub apart_remove : (cs : List Call) (k : ℕ) → AllApart cs → AllApart (remove cs k)
apart_remove [] zero a = tt
apart_remove [] (suc k) a = tt
apart_remove (x ∷ cs) zero a = a.1
apart_remove (x ∷ cs) (suc k) a = (all_remove (Apart x) cs k a.0, apart_remove cs k a.1)

pub apart_push : (cs : List Call) (c : Call) → AllApart cs → AllOf (λ d. Apart d c) cs → AllApart (cs ++ c ∷ [])
apart_push [] c a h = (tt, tt)
apart_push (x ∷ cs) c a h = (all_append (Apart x) cs (c ∷ []) a.0 (h.0, tt), apart_push cs c a.1 h.1)

-- two listed calls with one tag are one
pub apart_same : (cs : List Call) (i k : ℕ) (c d : Call) (tag : List ℕ) → AllApart cs → slice_get cs i ≡ Some c → slice_get cs k ≡ Some d → IsTagOf c tag → IsTagOf d tag → c ≡ d
apart_same [] i k c d tag a e f p q = absurd (cc)
apart_same (x ∷ cs) zero zero c d tag a e f p q = cc
apart_same (x ∷ cs) zero (suc k) c d tag a e f p q =
    let xc : x ≡ c = cc in
    absurd (all_at (Apart x) cs k d a.0 f tag (let R : Call → Type 0 = λ w. IsTagOf w tag in subst R (sym xc) p) q)
apart_same (x ∷ cs) (suc i) zero c d tag a e f p q =
    let xd : x ≡ d = cc in
    absurd (all_at (Apart x) cs i c a.0 e tag (let R : Call → Type 0 = λ w. IsTagOf w tag in subst R (sym xd) q) p)
apart_same (x ∷ cs) (suc i) (suc k) c d tag a e f p q = apart_same cs i k c d tag a.1 e f p q

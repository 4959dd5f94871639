-- The moments of what was logged, with one more.
use Rattle.std.proofs.Common.{◌≡◌, ℕ, ◌+◌, ◌/◌, ◌≤◌, Bool, true, false, List, ◌∷◌, cond, count_by, eqb, refl, sym, ap, ◌∙◌, arith}
use Rattle.std.proofs.lemmas.Bool.{eq-eqb, eqb-true, eqb-false}
use Rattle.std.proofs.lemmas.List.Sums.{sum_by-cons}
use Rattle.log_rules.specs.NoteLimits.{Contents, Follows, is_in, logged_in}

not_equal : (a b : ℕ) (e : Bool) → eqb a b ≡ e → (a ≡ b → ⊥) → e ≡ false
not_equal a b true is differ = absurd (differ (eqb-true a b is))
not_equal a b false is differ = refl

turned : (a b : ℕ) (e : Bool) → eqb a b ≡ e → eqb b a ≡ e
turned a b true is = eq-eqb b a (sym (eqb-true a b is))
turned a b false is = not_equal b a (eqb b a) refl (λ same. eqb-false a b is (sym same))

-- in a second that is not before that of the last question, as many were logged as the limit says
counted_before : (old : Contents) (s second : ℕ) (e : Bool) → eqb second s ≡ e → old.second ≤ s → s ≤ second
    → logged_in second old ≡ cond e (logged_in s old) 0
counted_before old s second true is below later = ap (λ n. logged_in n old) (eqb-true second s is)
counted_before old s second false is below later =
    ap (λ c. cond c old.logged 0) (not_equal second old.second (eqb second old.second) refl (λ same. eqb-false second s is (omega (arith, same, below, later))))

one_more : (count logged : ℕ) (b e : Bool) → b ≡ e → count ≡ cond e logged 0 → cond b 1 0 + count ≡ cond e (logged + 1) 0
one_more count logged true true same is = omega (arith, is)
one_more count logged false false same is = omega (arith, is)
one_more count logged true false same is = absurd cc
one_more count logged false true same is = absurd cc

-- an event that is logged is one more of its second
pub follows : (moments : List ℕ) (old : Contents) (now left : ℕ) → Follows moments old → old.second ≤ now / 1000
    → Follows (now ∷ moments) (record { second = now / 1000; logged = logged_in (now / 1000) old + 1; left_out = left })
follows moments old now left before below second later =
    sum_by-cons (λ m. cond (is_in second m) 1 0) now moments
    ∙ one_more (count_by (is_in second) moments) (logged_in (now / 1000) old) (is_in second now) (eqb second (now / 1000)) (turned second (now / 1000) (eqb second (now / 1000)) refl)
    (before second (omega (arith, below, later)) ∙ counted_before old (now / 1000) second (eqb second (now / 1000)) refl below later)

-- Where the pairs that a session names are even and differ, it names no port twice.
use Rattle.std.proofs.Common.{◌≡◌, ◌∙◌, ◌+◌, ◌%◌, ◌||◌, not, ℕ, Bool, true, false, cond, eqb, List, [], ◌∷◌, ◌++◌, map, refl, sym, ap, arith}
use Rattle.std.specs.List.{list_any, list_all}
use Rattle.std.proofs.lemmas.Bool.{and_parts, eqb-true, eq-eqb}
use Rattle.sdp.specs.declared.description.Media.{Media}
use Rattle.sdp.specs.declared.description.Description.{Description}
use Rattle.offer_answer.specs.Direct.{destination}
use Rattle.offer_answer.specs.Rows.{Named, pair_named, media_named, are_distinct, is_even, media_pairs, pairs_named, rows_of, table_of, HasRows}
use Rattle.offer_answer.proofs.RowLaws.{either_false, not_true, distinct_lead}

unfoldable pub both_ports : List ℕ → List ℕ
both_ports [] = []
both_ports (p ∷ ps) = p ∷ (p + 1) ∷ both_ports ps

pub ports_of_pairs : (OX SY : Description) (oxs sxs oys sys : List Media) → map (λ (n : Named). n.port) (media_named OX oxs sxs oys SY sys) ≡ both_ports (media_pairs oxs sxs oys sys)
unfolding both_ports
ports_of_pairs OX SY [] sxs oys sys = refl
ports_of_pairs OX SY (ox ∷ oxs) [] oys sys = refl
ports_of_pairs OX SY (ox ∷ oxs) (sx ∷ sxs) [] sys = refl
ports_of_pairs OX SY (ox ∷ oxs) (sx ∷ sxs) (oy ∷ oys) [] = refl
ports_of_pairs OX SY (ox ∷ oxs) (sx ∷ sxs) (oy ∷ oys) (sy ∷ sys) = step (eqb ox.port 0 || eqb sy.port 0) (ports_of_pairs OX SY oxs sxs oys sys) where
  step : (b : Bool) → map (λ (n : Named). n.port) (media_named OX oxs sxs oys SY sys) ≡ both_ports (media_pairs oxs sxs oys sys)
      → map (λ (n : Named). n.port) (cond b [] (pair_named sx.port (destination SY sy) oy.port ++ pair_named oy.port (destination OX ox) sx.port) ++ media_named OX oxs sxs oys SY sys)
      ≡ both_ports (cond b [] (sx.port ∷ oy.port ∷ []) ++ media_pairs oxs sxs oys sys)
  step true rest = rest
  step false rest = ap (λ ps. sx.port ∷ (sx.port + 1) ∷ oy.port ∷ (oy.port + 1) ∷ ps) rest

differ : (a b : ℕ) → (a ≡ b → ⊥) → eqb a b ≡ false
differ a b h = step (eqb a b) refl where
  step : (c : Bool) → eqb a b ≡ c → c ≡ false
  step true e = absurd (h (eqb-true a b e))
  step false e = refl

pub equal : (a b : ℕ) → eqb a b ≡ false → a ≡ b → ⊥
equal a b e h = let wrong : true ≡ false = sym (eq-eqb a b h) ∙ e in absurd cc

-- neither port of an even pair is among those of other even pairs
apart : (p : ℕ) (ps : List ℕ) → is_even p ≡ true → list_all is_even ps ≡ true → list_any (λ q. eqb q p) ps ≡ false
    → (list_any (λ q. eqb q p) (both_ports ps) ≡ false) × (list_any (λ q. eqb q (p + 1)) (both_ports ps) ≡ false)
unfolding both_ports
apart p [] even evens others = (refl, refl)
apart p (q ∷ qs) even evens others =
    let parts = and_parts (is_even q) (list_all is_even qs) evens in
    let neither = either_false (eqb q p) (list_any (λ r. eqb r p) qs) others in
    let rest = apart p qs even parts.1 neither.1 in
    let q_even : q % 2 ≡ 0 = eqb-true (q % 2) 0 parts.0 in
    let p_even : p % 2 ≡ 0 = eqb-true (p % 2) 0 even in
    let first : eqb (q + 1) p ≡ false = differ (q + 1) p (λ h. odd q p q_even p_even h) in
    let second : eqb q (p + 1) ≡ false = differ q (p + 1) (λ h. odd p q p_even q_even (sym h)) in
    let third : eqb (q + 1) (p + 1) ≡ false = differ (q + 1) (p + 1) (λ h. equal q p neither.0 (omega arith)) in
    (rw (neither.0, first) rest.0, rw (second, third) rest.1)
  where
    odd : (a b : ℕ) → a % 2 ≡ 0 → b % 2 ≡ 0 → a + 1 ≡ b → ⊥
    odd a b e f h = omega arith

pub distinct_pairs : (ps : List ℕ) → list_all is_even ps ≡ true → are_distinct ps ≡ true → are_distinct (both_ports ps) ≡ true
unfolding both_ports
distinct_pairs [] evens distinct = refl
distinct_pairs (p ∷ ps) evens distinct =
    let parts = and_parts (is_even p) (list_all is_even ps) evens in
    let fresh = and_parts (not (list_any (λ q. eqb q p) ps)) (are_distinct ps) distinct in
    let away = apart p ps parts.0 parts.1 (not_true (list_any (λ q. eqb q p) ps) fresh.0) in
    let next : eqb (p + 1) p ≡ false = differ (p + 1) p (λ h. omega arith) in
    rw (next, away.0, away.1, distinct_pairs ps parts.1 fresh.1) refl

pub rows_lead : (OX SX OY SY : Description) → list_all is_even (pairs_named OX SX OY SY) ≡ true → are_distinct (pairs_named OX SX OY SY) ≡ true → HasRows (table_of (rows_of OX SX OY SY)) OX SX OY SY
rows_lead OX SX OY SY evens distinct =
    distinct_lead OX SX OY SY (ap are_distinct (ports_of_pairs OX SY OX.media SX.media OY.media SY.media) ∙ distinct_pairs (pairs_named OX SX OY SY) evens distinct)

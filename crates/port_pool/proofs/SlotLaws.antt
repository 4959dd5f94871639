-- The slots as a finite map: what it has at a port is what the slot of the port has.
use Rattle.std.proofs.Common.{◌≡◌, ℕ, zero, suc, ◌+◌, ◌<◌, ◌≢◌, List, [], ◌∷◌, length, get_or, set, sym, refl, ap, ◌∙◌, arith, eq-eqb, ne_eqb, Option, Some, None, true, false}
use Rattle.std.specs.Prelude.{replicate}
use Rattle.std.specs.Ordering.{nat_cmp, eq_by_cmp}
use Rattle.std.specs.Cmp.{nat_cmp_total, unsigned_tied}
use Rattle.std.specs.FinMap.{find, get, insert, remove, empty, from_entries, get-from_entries, get-insert, get-remove, same_map, nat_cmp-IsAntisymmetric}
use Rattle.std.proofs.lemmas.List.{get_or-set_same, get_or-set_other}
use Rattle.port_pool.specs.declared.hop.Hop.{Hop}
use Rattle.port_pool.specs.RelayTable.{Rows, rows_from}

tied : (q : ℕ) → eq_by_cmp nat_cmp q q ≡ true
tied q = unsigned_tied q q ∙ eq-eqb q q refl

apart : (q k : ℕ) → q ≢ k → eq_by_cmp nat_cmp q k ≡ false
apart q k ne = unsigned_tied q k ∙ ne_eqb q k ne

-- no row is below the first
find_below : (slots : List (Option Hop)) (k q : ℕ) → q < k → find nat_cmp q (rows_from k slots) ≡ None
find_below [] k q low = refl
find_below (None ∷ slots) k q low = find_below slots (k + 1) q (omega arith)
find_below (Some hop ∷ slots) k q low = rw (apart q k (λ e. omega arith)) (find_below slots (k + 1) q (omega arith))

pub find-rows_from : (slots : List (Option Hop)) (k i q : ℕ) → q ≡ k + i → find nat_cmp q (rows_from k slots) ≡ get_or slots i None
find-rows_from [] k i q is = refl
find-rows_from (None ∷ slots) k zero q is = find_below slots (k + 1) q (omega arith)
find-rows_from (None ∷ slots) k (suc i) q is = find-rows_from slots (k + 1) i q (omega arith)
find-rows_from (Some hop ∷ slots) k zero q is = let here : q ≡ k = omega arith in rw (ap (λ (n : ℕ). eq_by_cmp nat_cmp q n) (sym here) ∙ tied q) refl
find-rows_from (Some hop ∷ slots) k (suc i) q is = rw (apart q k (λ e. omega arith)) (find-rows_from slots (k + 1) i q (omega arith))

abbrev pub rows_of : List (Option Hop) → Rows
rows_of slots = from_entries (rows_from 0 slots)

pub get-rows_of : (slots : List (Option Hop)) (q : ℕ) → get (rows_of slots) q ≡ get_or slots q None
get-rows_of slots q = get-from_entries nat_cmp_total (rows_from 0 slots) q ∙ find-rows_from slots 0 q q (omega arith)

same : (m n : Rows) → ((q : ℕ) → get m q ≡ get n q) → m ≡ n
same = same_map nat_cmp_total nat_cmp-IsAntisymmetric

pub rows_of-put : (slots : List (Option Hop)) (port : ℕ) (hop : Hop) → port < length slots → rows_of (set slots port (Some hop)) ≡ insert (rows_of slots) port hop
rows_of-put slots port hop low = same _ _ (λ q. grind (arith, get-rows_of, get-insert {X = Hop} nat_cmp_total, unsigned_tied, get_or-set_same, get_or-set_other))

pub rows_of-remove : (slots : List (Option Hop)) (port : ℕ) → port < length slots → rows_of (set slots port None) ≡ remove (rows_of slots) port
rows_of-remove slots port low = same _ _ (λ q. grind (arith, get-rows_of, get-remove {X = Hop} nat_cmp_total, unsigned_tied, get_or-set_same, get_or-set_other))

rows_from-none : (n k : ℕ) → rows_from k (replicate n None) ≡ []
rows_from-none zero k = refl
rows_from-none (suc n) k = rows_from-none n (k + 1)

pub rows_of-none : (n : ℕ) → rows_of (replicate n None) ≡ empty
rows_of-none n = ap (λ (es : List (ℕ × Hop)). from_entries es) (rows_from-none n 0)

pub ruleset slots_as_rows = (get-rows_of, rows_of-put, rows_of-remove, rows_of-none)

-- The table of a session's rows has these rows, where the session names no port twice.
use Rattle.std.proofs.Common.{◌≡◌, ◌∙◌, ◌<◌, ◌||◌, not, ℕ, Bool, true, false, eqb, List, [], ◌∷◌, length, get_or, map, Option, Some, None, refl, arith}
use Prim.Native.Nat.{zero, suc}
use Rattle.std.specs.List.{filter_map, list_any}
use Rattle.std.proofs.lemmas.Bool.{and_parts, eq-eqb}
use Rattle.std.proofs.lemmas.Bool.Decides.{nat_tests}
use Rattle.sip_uri.specs.declared.uri.Addr.{Addr}
use Rattle.sdp.specs.declared.description.Description.{Description}
use Rattle.offer_answer.specs.Rows.{Named, Row, row_to, rows_of, table_of, ports_named, LeadsAll, HasRows, are_distinct}

abbrev rows_at : List Named → List Row
rows_at ns = filter_map (λ n. row_to n.port n.to n.from) ns

abbrev pub names : ℕ → List Named → Bool
names port ns = list_any (λ q. eqb q port) (map (λ n. n.port) ns)

pub either_false : (a b : Bool) → (a || b) ≡ false → (a ≡ false) × (b ≡ false)
either_false true b e = absurd cc
either_false false b e = (refl, e)

-- a port that is not named leads nowhere
unnamed : (ns : List Named) (port : ℕ) → names port ns ≡ false → table_of (rows_at ns) port ≡ None
unnamed [] port e = refl
unnamed (n ∷ ns) port e = step n.to (unnamed ns port both.1) where
  both : (eqb n.port port ≡ false) × (names port ns ≡ false)
  both = either_false (eqb n.port port) (names port ns) e

  step : (to : Option Addr) → table_of (rows_at ns) port ≡ None → table_of (rows_at (record { port = n.port; to = to; from = n.from } ∷ ns)) port ≡ None
  step None rest = rest
  step (Some a) rest = rw both.0 rest

here : (n : Named) (ns : List Named) → names n.port ns ≡ false → table_of (rows_at (n ∷ ns)) n.port ≡ n.to
here n ns e = step n.to where
  step : (to : Option Addr) → table_of (rows_at (record { port = n.port; to = to; from = n.from } ∷ ns)) n.port ≡ to
  step None = unnamed ns n.port e
  step (Some a) = rw (eq-eqb n.port n.port refl) refl

-- another port leads where it leads without the first
behind : (n : Named) (ns : List Named) (port : ℕ) → eqb n.port port ≡ false → table_of (rows_at (n ∷ ns)) port ≡ table_of (rows_at ns) port
behind n ns port e = step n.to where
  step : (to : Option Addr) → table_of (rows_at (record { port = n.port; to = to; from = n.from } ∷ ns)) port ≡ table_of (rows_at ns) port
  step None = refl
  step (Some a) = rw e refl

pub other : (port : ℕ) (ns : List Named) (k : ℕ) (d : Named) → names port ns ≡ false → k < length ns → eqb port (get_or ns k d).port ≡ false
other port [] k d e below = absurd (omega arith)
other port (n ∷ ns) zero d e below = same port n.port (either_false (eqb n.port port) (names port ns) e).0 where
  same : (p q : ℕ) → eqb q p ≡ false → eqb p q ≡ false
  same p q h = grind (arith, nat_tests, h)
other port (n ∷ ns) (suc k) d e below = other port ns k d (either_false (eqb n.port port) (names port ns) e).1 (omega arith)

pub not_true : (b : Bool) → not b ≡ true → b ≡ false
not_true true e = absurd cc
not_true false e = refl

all_lead : (ns : List Named) → are_distinct (map (λ n. n.port) ns) ≡ true → LeadsAll (table_of (rows_at ns)) ns
all_lead [] e k d below = absurd (omega arith)
all_lead (n ∷ ns) e zero d below = here n ns (not_true (names n.port ns) (and_parts (not (names n.port ns)) (are_distinct (map (λ m. m.port) ns)) e).0)
all_lead (n ∷ ns) e (suc k) d below =
    let parts = and_parts (not (names n.port ns)) (are_distinct (map (λ m. m.port) ns)) e in
    behind n ns (get_or ns k d).port (other n.port ns k d (not_true (names n.port ns) parts.0) (omega arith))
    ∙ all_lead ns parts.1 k d (omega arith)

pub distinct_lead : (OX SX OY SY : Description) → are_distinct (map (λ n. n.port) (ports_named OX SX OY SY)) ≡ true → HasRows (table_of (rows_of OX SX OY SY)) OX SX OY SY
distinct_lead OX SX OY SY e = all_lead (ports_named OX SX OY SY) e

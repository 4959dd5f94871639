-- Lemmas on changes: they lead from the one table to the other.
use Rattle.std.proofs.Common.{◌≡◌, ◌==◌, ◌&&◌, ◌||◌, ◌+◌, ◌<◌, ◌∙◌, ◌++◌, ℕ, Bool, true, false, cond, List, [], ◌∷◌, All, Option, Some, None, nat_eq, refl, sym, ap, subst, append-nil, arith}
use Prim.Native.Nat.{suc}
use Rattle.std.specs.List.{flat_map, list_any, AllPairs}
use Rattle.std.specs.Cmp.Lexicographic.{pointwise, bytes_decides}
use Rattle.std.specs.Cmp.{unsigned_tied}
use Rattle.std.specs.Cmp.{nat_cmp_total}
use Rattle.std.specs.FinMap.{get, get-insert, get-remove}
use Rattle.std.proofs.lemmas.Bool.Decides.{nat_tests}
use Rattle.std.proofs.lemmas.Bool.{eqb-true}
use Rattle.std.proofs.lemmas.List.Elements.{All-cons, All-nil, filter-append}
use Rattle.std.proofs.lemmas.List.Kept.{AllPairs-cons}
use Rattle.std.proofs.lemmas.List.Sums.{fold-append}
use Rattle.port_pool.specs.declared.hop.Hop.{Hop}
use Rattle.port_pool.specs.declared.changes.Change.{Change}
use Rattle.port_pool.specs.declared.relay_line.RelayLine.{RelayLine}
use Rattle.port_pool.specs.RelayTable.{Rows, changed, changed_by}
use Rattle.port_pool.specs.Changes.{same_hop, same_row, port_of, change_to, changes_between, changes_at}
use Rattle.port_pool.specs.Pool.{hop_of, changes_of_port}
use Rattle.port_pool.proofs.PortLaws.{PortsFrom, absent}

-- ---- rows that are the same

and_left : (s t : Bool) → (s && t) ≡ true → s ≡ true
and_left true t h = refl
and_left false t h = h

and_right : (s t : Bool) → (s && t) ≡ true → t ≡ true
and_right true t h = h
and_right false t h = cc h

pub own : (a : ℕ) → (a == a) ≡ true
own a = grind (arith, nat_tests)

same_hop_is : (a b : Hop) → same_hop a b ≡ true → a ≡ b
same_hop_is a b e =
    let place = and_left (pointwise nat_eq a.to.ip b.to.ip && a.to.port == b.to.port) (a.from == b.from) e in
    let from : a.from ≡ b.from = eqb-true a.from b.from (and_right (pointwise nat_eq a.to.ip b.to.ip && a.to.port == b.to.port) (a.from == b.from) e) in
    let port : a.to.port ≡ b.to.port = eqb-true a.to.port b.to.port (and_right (pointwise nat_eq a.to.ip b.to.ip) (a.to.port == b.to.port) place) in
    let ip : a.to.ip ≡ b.to.ip = (bytes_decides a.to.ip b.to.ip).0 (and_left (pointwise nat_eq a.to.ip b.to.ip) (a.to.port == b.to.port) place) in
    λ i. record { to = record { ip = ip i; port = port i }; from = from i }

same_hop_own : (a : Hop) → same_hop a a ≡ true
same_hop_own a = rw ((bytes_decides a.to.ip a.to.ip).1 refl, own a.to.port, own a.from) refl

same_row_is : (a b : Option Hop) → same_row a b ≡ true → a ≡ b
same_row_is None None e = refl
same_row_is None (Some b) e = cc e
same_row_is (Some a) None e = cc e
same_row_is (Some a) (Some b) e = ap (λ h. Some h) (same_hop_is a b e)

same_row_own : (a : Option Hop) → same_row a a ≡ true
same_row_own None = refl
same_row_own (Some a) = same_hop_own a

settled : (a b : Option Hop) → cond (same_row a b) a b ≡ b
settled a b =
    (elim (same_row a b) as (λ s. same_row a b ≡ s → cond s a b ≡ b) [
      | true ↦ λ is. same_row_is a b is
      | false ↦ λ is. refl
    ]) refl

-- nothing leads from a row to itself
pub between_own : (port : ℕ) (a : Option Hop) → changes_between port a a ≡ []
between_own port a = ap (λ b. cond b [] (change_to port a ∷ [])) (same_row_own a)

-- ---- the rows after changes

flipped : (a b : ℕ) → (a == b) ≡ (b == a)
flipped a b = grind (arith, nat_tests)

pub get-change_to : (t : Rows) (p : ℕ) (o : Option Hop) (q : ℕ) → get (changed t (change_to p o)) q ≡ cond (p == q) o (get t q)
get-change_to t p None q = get-remove nat_cmp_total t p q ∙ ap (λ b. cond b None (get t q)) (unsigned_tied q p ∙ flipped q p)
get-change_to t p (Some h) q = get-insert nat_cmp_total t p h q ∙ ap (λ b. cond b (Some h) (get t q)) (unsigned_tied q p ∙ flipped q p)

-- at the port itself
get_own : (rows t : Rows) (lines : List RelayLine) (q : ℕ)
    → get (changed_by t (changes_of_port rows lines q)) q ≡ cond (same_row (get rows q) (hop_of lines q)) (get t q) (hop_of lines q)
get_own rows t lines q =
    elim (same_row (get rows q) (hop_of lines q)) as (λ b. get (changed_by t (cond b [] (change_to q (hop_of lines q) ∷ []))) q ≡ cond b (get t q) (hop_of lines q)) [
      | true ↦ refl
      | false ↦ get-change_to t q (hop_of lines q) q ∙ ap (λ b. cond b (hop_of lines q) (get t q)) (own q)
    ]

-- at another port
get_other : (rows t : Rows) (lines : List RelayLine) (p q : ℕ) → (p == q) ≡ false → get (changed_by t (changes_of_port rows lines p)) q ≡ get t q
get_other rows t lines p q is =
    elim (same_row (get rows p) (hop_of lines p)) as (λ b. get (changed_by t (cond b [] (change_to p (hop_of lines p) ∷ []))) q ≡ get t q) [
      | true ↦ refl
      | false ↦ get-change_to t p (hop_of lines p) q ∙ ap (λ b. cond b (hop_of lines p) (get t q)) is
    ]

get_step : (rows t : Rows) (lines : List RelayLine) (p q : ℕ)
    → get (changed_by t (changes_of_port rows lines p)) q ≡ cond (p == q) (cond (same_row (get rows q) (hop_of lines q)) (get t q) (hop_of lines q)) (get t q)
get_step rows t lines p q =
    (elim (p == q) as (λ d. (p == q) ≡ d → get (changed_by t (changes_of_port rows lines p)) q
    ≡ cond d (cond (same_row (get rows q) (hop_of lines q)) (get t q) (hop_of lines q)) (get t q)) [
      | true ↦ λ is. ap (λ r. get (changed_by t (changes_of_port rows lines r)) q) (eqb-true p q is) ∙ get_own rows t lines q
      | false ↦ λ is. get_other rows t lines p q is
    ]) refl

mixes : (a b s : Bool) (g h : Option Hop) → cond b (cond s (cond a (cond s g h) g) h) (cond a (cond s g h) g) ≡ cond (a || b) (cond s g h) g
mixes true true true g h = refl
mixes true true false g h = refl
mixes true false true g h = refl
mixes true false false g h = refl
mixes false true true g h = refl
mixes false true false g h = refl
mixes false false true g h = refl
mixes false false false g h = refl

get_all : (rows t : Rows) (lines : List RelayLine) (ps : List ℕ) (q : ℕ)
    → get (changed_by t (flat_map (changes_of_port rows lines) ps)) q
    ≡ cond (list_any (λ p. p == q) ps) (cond (same_row (get rows q) (hop_of lines q)) (get t q) (hop_of lines q)) (get t q)
get_all rows t lines [] q = refl
get_all rows t lines (p ∷ ps) q =
    let same = same_row (get rows q) (hop_of lines q) in
    let next = changed_by t (changes_of_port rows lines p) in
    ap (λ m. get m q) (fold-append changed t (changes_of_port rows lines p) (flat_map (changes_of_port rows lines) ps))
    ∙ get_all rows next lines ps q
    ∙ ap (λ g. cond (list_any (λ r. r == q) ps) (cond same g (hop_of lines q)) g) (get_step rows t lines p q)
    ∙ mixes (p == q) (list_any (λ r. r == q) ps) same (get t q) (hop_of lines q)

-- each of these ports has what the lines say, any other its old row
pub get_after : (rows : Rows) (lines : List RelayLine) (ps : List ℕ) (q : ℕ)
    → get (changed_by rows (flat_map (changes_of_port rows lines) ps)) q ≡ cond (list_any (λ p. p == q) ps) (hop_of lines q) (get rows q)
get_after rows lines ps q =
    get_all rows rows lines ps q ∙ ap (λ o. cond (list_any (λ p. p == q) ps) o (get rows q)) (settled (get rows q) (hop_of lines q))

-- ---- the changes of one port

port_of-change_to : (p : ℕ) (o : Option Hop) → port_of (change_to p o) ≡ p
port_of-change_to p None = refl
port_of-change_to p (Some h) = refl

kept : (p q : ℕ) (b : Bool) (o : Option Hop) → (p == q) ≡ true → changes_at q (cond b [] (change_to p o ∷ [])) ≡ cond b [] (change_to p o ∷ [])
kept p q true o is = refl
kept p q false o is = rw (port_of-change_to p o, is) refl

gone : (p q : ℕ) (b : Bool) (o : Option Hop) → (p == q) ≡ false → changes_at q (cond b [] (change_to p o ∷ [])) ≡ []
gone p q true o is = refl
gone p q false o is = rw (port_of-change_to p o, is) refl

pub changes_each : (rows : Rows) (lines : List RelayLine) (q n : ℕ) (ps : List ℕ) → PortsFrom n ps
    → changes_at q (flat_map (changes_of_port rows lines) ps) ≡ cond (list_any (λ p. p == q) ps) (changes_of_port rows lines q) []
changes_each rows lines q n [] h = refl
changes_each rows lines q n (p ∷ ps) h =
    let here = changes_of_port rows lines in
    let rest = changes_each rows lines q (p + 1) ps h.1 in
    filter-append (λ c. port_of c == q) (here p) (flat_map here ps)
    ∙ (elim (p == q) as (λ d. (p == q) ≡ d → (changes_at q (here p) ++ changes_at q (flat_map here ps)) ≡ cond (d || list_any (λ r. r == q) ps) (here q) []) [
      | true ↦ λ is. let at : p ≡ q = eqb-true p q is in
          ap (λ xs. xs ++ changes_at q (flat_map here ps)) (kept p q (same_row (get rows p) (hop_of lines p)) (hop_of lines p) is)
          ∙ ap (λ xs. here p ++ xs) (rest ∙ ap (λ b. cond b (here q) []) (absent (p + 1) q ps h.1 (omega arith)))
          ∙ append-nil (here p) ∙ ap here at
      | false ↦ λ is. ap (λ xs. xs ++ changes_at q (flat_map here ps)) (gone p q (same_row (get rows p) (hop_of lines p)) (hop_of lines p) is) ∙ rest
    ]) refl

-- what holds of these ports holds of the ports that change
pub changes_within : (P : ℕ → Type 0) (rows : Rows) (lines : List RelayLine) (ps : List ℕ) → All P ps → All (λ c. P (port_of c)) (flat_map (changes_of_port rows lines) ps)
changes_within P rows lines [] all = All-nil (λ c. P (port_of c))
changes_within P rows lines (p ∷ ps) all =
    let rest = changes_within P rows lines ps (λ k d within. all (suc k) d (omega arith)) in
    let here : P p = all 0 p (omega arith) in
    elim (same_row (get rows p) (hop_of lines p)) as (λ b. All (λ c. P (port_of c)) (cond b [] (change_to p (hop_of lines p) ∷ []) ++ flat_map (changes_of_port rows lines) ps)) [
      | true ↦ rest
      | false ↦ All-cons (λ c. P (port_of c)) (change_to p (hop_of lines p)) (flat_map (changes_of_port rows lines) ps) (subst P (sym (port_of-change_to p (hop_of lines p))) here) rest
    ]

-- ---- changes rise

all_later : (m : ℕ) (rows : Rows) (lines : List RelayLine) (n : ℕ) (ps : List ℕ) → m < n → PortsFrom n ps → All (λ c. m < port_of c) (flat_map (changes_of_port rows lines) ps)
all_later m rows lines n [] below h = All-nil (λ c. m < port_of c)
all_later m rows lines n (p ∷ ps) below h =
    let rest = all_later m rows lines (p + 1) ps (omega arith) h.1 in
    let above : m < p = omega arith in
    elim (same_row (get rows p) (hop_of lines p)) as (λ b. All (λ c. m < port_of c) (cond b [] (change_to p (hop_of lines p) ∷ []) ++ flat_map (changes_of_port rows lines) ps)) [
      | true ↦ rest
      | false ↦ All-cons (λ c. m < port_of c) (change_to p (hop_of lines p)) (flat_map (changes_of_port rows lines) ps) (rw (port_of-change_to p (hop_of lines p)) above) rest
    ]

pub changes_rise : (rows : Rows) (lines : List RelayLine) (n : ℕ) (ps : List ℕ) → PortsFrom n ps → AllPairs (λ a b. port_of a < port_of b) (flat_map (changes_of_port rows lines) ps)
changes_rise rows lines n [] h = λ i j d below within. absurd (omega arith)
changes_rise rows lines n (p ∷ ps) h =
    let rest = changes_rise rows lines (p + 1) ps h.1 in
    let all = flat_map (changes_of_port rows lines) ps in
    let P : ℕ → Type 0 = λ m. All (λ (c : Change). m < port_of c) all in
    elim (same_row (get rows p) (hop_of lines p)) as (λ b. AllPairs (λ x y. port_of x < port_of y) (cond b [] (change_to p (hop_of lines p) ∷ []) ++ all)) [
      | true ↦ rest
      | false ↦ AllPairs-cons (λ x y. port_of x < port_of y) (change_to p (hop_of lines p)) all
          (subst P (sym (port_of-change_to p (hop_of lines p))) (all_later p rows lines (p + 1) ps (omega arith) h.1)) rest
    ]

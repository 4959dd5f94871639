-- The lines of a session: whose ports they are of, that none occurs twice, and what a table that has them leads to.
use Rattle.std.proofs.Common.{◌≡◌, ◌≢◌, ◌==◌, ◌||◌, ◌∙◌, ◌+◌, ◌-◌, ◌%◌, ◌≤◌, not, ℕ, Bool, true, false, cond, length, take, drop, List, [], ◌∷◌, ◌++◌, All, get_or, map, Option, Some, None, option_map, refl, sym, ap, subst, arith}
use Prim.Native.Nat.{suc}
use Rattle.std.proofs.Math.Seq.{take-length}
use Rattle.std.specs.List.{list_all}
use Rattle.std.specs.FinMap.{get}
use Rattle.std.proofs.lemmas.Bool.{and_parts, eqb-true}
use Rattle.std.proofs.lemmas.List.Elements.{All-cons, All-nil, All-map}
use Rattle.std.proofs.lemmas.List.Kept.{AllPairs-cons}
use Rattle.sip_uri.specs.declared.uri.Addr.{Addr}
use Rattle.sdp.specs.declared.description.Media.{Media}
use Rattle.sdp.specs.declared.description.Description.{Description}
use Rattle.port_pool.specs.RelayTable.{Rows}
use Rattle.port_pool.specs.Holdings.{LeadsPair, holder_of, holder_at}
use Rattle.port_pool.specs.Pool.{Contents, AreOwn, StandOnce}
use Rattle.offer_answer.specs.Rows.{Named, LeadsAll, HasRows, are_distinct, is_even, media_pairs, pairs_named, ports_named}
use Rattle.offer_answer.specs.Session.{HasAbove, HoldsPairs, leads_by, line_of, session_lines}
use Rattle.offer_answer.proofs.RowLaws.{names, other, not_true}
use Rattle.offer_answer.proofs.PairLaws.{both_ports, ports_of_pairs, distinct_pairs, equal}

-- ---- whose ports

tail : {A : Type 0} (P : A → Type 0) (x : A) (xs : List A) → All P (x ∷ xs) → All P xs
tail P x xs all k d within = all (suc k) d (omega arith)

even_port : (pool : Contents) (call e : ℕ) → e % 2 ≡ 0 → holder_of pool.holdings e ≡ Some call → holder_at pool.holdings e ≡ Some call
even_port pool call e even held = let same : e - e % 2 ≡ e = omega arith in ap (holder_of pool.holdings) same ∙ held

odd_port : (pool : Contents) (call e : ℕ) → e % 2 ≡ 0 → holder_of pool.holdings e ≡ Some call → holder_at pool.holdings (e + 1) ≡ Some call
odd_port pool call e even held = let same : e + 1 - (e + 1) % 2 ≡ e = omega arith in ap (holder_of pool.holdings) same ∙ held

both_held : (pool : Contents) (call : ℕ) (ps : List ℕ) → list_all is_even ps ≡ true → All (λ e. holder_of pool.holdings e ≡ Some call) ps → All (λ q. holder_at pool.holdings q ≡ Some call) (both_ports ps)
unfolding both_ports
both_held pool call [] evens held = All-nil (λ q. holder_at pool.holdings q ≡ Some call)
both_held pool call (p ∷ ps) evens held =
    let parts = and_parts (is_even p) (list_all is_even ps) evens in
    let even : p % 2 ≡ 0 = eqb-true (p % 2) 0 parts.0 in
    let here : holder_of pool.holdings p ≡ Some call = held 0 p (omega arith) in
    let P : ℕ → Type 0 = λ q. holder_at pool.holdings q ≡ Some call in
    All-cons P p ((p + 1) ∷ both_ports ps) (even_port pool call p even here)
    (All-cons P (p + 1) (both_ports ps) (odd_port pool call p even here)
    (both_held pool call ps parts.1 (tail (λ e. holder_of pool.holdings e ≡ Some call) p ps held)))

by_ports : (P : ℕ → Type 0) (ns : List Named) → All P (map (λ n. n.port) ns) → All (λ n. P n.port) ns
by_ports P [] all = All-nil (λ n. P n.port)
by_ports P (n ∷ ns) all = All-cons (λ m. P m.port) n ns (all 0 n.port (omega arith)) (by_ports P ns (tail P n.port (map (λ m. m.port) ns) all))

pub own_lines : (pool : Contents) (call : ℕ) (OX SX OY SY : Description) → list_all is_even (pairs_named OX SX OY SY) ≡ true → HoldsPairs pool call OX SX OY SY → AreOwn pool call (session_lines OX SX OY SY)
own_lines pool call OX SX OY SY evens held =
    let P : ℕ → Type 0 = λ q. holder_at pool.holdings q ≡ Some call in
    let all = both_held pool call (pairs_named OX SX OY SY) evens held in
    All-map (λ l. P l.port) line_of (ports_named OX SX OY SY)
    (by_ports P (ports_named OX SX OY SY) (subst (λ (ps : List ℕ). All P ps) (sym (ports_of_pairs OX SY OX.media SX.media OY.media SY.media)) all))

-- ---- each port once

others : (port : ℕ) (ns : List Named) → names port ns ≡ false → All (λ n. port ≢ n.port) ns
others port ns e k d below same = equal port (get_or ns k d).port (other port ns k d e below) same

once_each : (ns : List Named) → are_distinct (map (λ n. n.port) ns) ≡ true → StandOnce (map line_of ns)
once_each [] e = λ i j d below within. absurd (omega arith)
once_each (n ∷ ns) e =
    let parts = and_parts (not (names n.port ns)) (are_distinct (map (λ m. m.port) ns)) e in
    AllPairs-cons (λ a b. a.port ≢ b.port) (line_of n) (map line_of ns)
    (All-map (λ l. n.port ≢ l.port) line_of ns (others n.port ns (not_true (names n.port ns) parts.0))) (once_each ns parts.1)

pub once_lines : (OX SX OY SY : Description) → list_all is_even (pairs_named OX SX OY SY) ≡ true → are_distinct (pairs_named OX SX OY SY) ≡ true → StandOnce (session_lines OX SX OY SY)
once_lines OX SX OY SY evens distinct =
    once_each (ports_named OX SX OY SY) (ap are_distinct (ports_of_pairs OX SY OX.media SX.media OY.media SY.media) ∙ distinct_pairs (pairs_named OX SX OY SY) evens distinct)

-- ---- where the ports lead

back : (to : Option Addr) (from : ℕ) → option_map (λ h. h.to) (line_of (record { port = 0; to = to; from = from })).hop ≡ to
back None from = refl
back (Some a) from = refl

lead : (rows : Rows) (ns : List Named) → All (λ l. get rows l.port ≡ l.hop) (map line_of ns) → LeadsAll (leads_by rows) ns
lead rows [] all = All-nil (λ n. leads_by rows n.port ≡ n.to)
lead rows (n ∷ ns) all =
    All-cons (λ m. leads_by rows m.port ≡ m.to) n ns (ap (option_map (λ h. h.to)) (all 0 (line_of n) (omega arith)) ∙ back n.to n.from)
    (lead rows ns (tail (λ l. get rows l.port ≡ l.hop) (line_of n) (map line_of ns) all))

pub lead_lines : (rows : Rows) (OX SX OY SY : Description) → All (λ l. get rows l.port ≡ l.hop) (session_lines OX SX OY SY) → HasRows (leads_by rows) OX SX OY SY
lead_lines rows OX SX OY SY all = lead rows (ports_named OX SX OY SY) all

-- ---- pairs that are held

above_each : (ps : List ℕ) → All LeadsPair ps → All HasAbove ps
above_each ps all k d within = (all k d within).2

even_each : (ps : List ℕ) → All LeadsPair ps → list_all is_even ps ≡ true
even_each [] all = refl
even_each (p ∷ ps) all =
    let here : p % 2 ≡ 0 = (all 0 p (omega arith)).1 in
    rw here (even_each ps (tail LeadsPair p ps all))

leading : (pool : Contents) (call : ℕ) → ((even other : ℕ) → holder_of pool.holdings even ≡ Some other → LeadsPair even) → (ps : List ℕ) → All (λ e. holder_of pool.holdings e ≡ Some call) ps → All LeadsPair ps
leading pool call leads ps held k d within = leads (get_or ps k d) call (held k d within)

pub held_above : (pool : Contents) (call : ℕ) (OX SX OY SY : Description) → ((even other : ℕ) → holder_of pool.holdings even ≡ Some other → LeadsPair even) → HoldsPairs pool call OX SX OY SY
    → All HasAbove (pairs_named OX SX OY SY)
held_above pool call OX SX OY SY leads held = above_each (pairs_named OX SX OY SY) (leading pool call leads (pairs_named OX SX OY SY) held)

pub held_even : (pool : Contents) (call : ℕ) (OX SX OY SY : Description) → ((even other : ℕ) → holder_of pool.holdings even ≡ Some other → LeadsPair even) → HoldsPairs pool call OX SX OY SY
    → list_all is_even (pairs_named OX SX OY SY) ≡ true
held_even pool call OX SX OY SY leads held = even_each (pairs_named OX SX OY SY) (leading pool call leads (pairs_named OX SX OY SY) held)

-- ---- the media after the first

behind : {A : Type 0} (x : A) (xs : List A) → take (length (x ∷ xs) - 1) (drop 1 (x ∷ xs)) ≡ xs
behind x xs = let same : length (x ∷ xs) - 1 ≡ length xs = omega arith in rw same (take-length xs)

rest_of : (b : Bool) (p q : ℕ) (ps : List ℕ) → All HasAbove (cond b [] (p ∷ q ∷ []) ++ ps) → All HasAbove ps
rest_of true p q ps all = all
rest_of false p q ps all = tail HasAbove q ps (tail HasAbove p (q ∷ ps) all)

pub above_behind : (oxs sxs oys sys : List Media) → 1 ≤ length oxs → 1 ≤ length sxs → 1 ≤ length oys → 1 ≤ length sys → All HasAbove (media_pairs oxs sxs oys sys)
    → All HasAbove (media_pairs (take (length oxs - 1) (drop 1 oxs)) (take (length sxs - 1) (drop 1 sxs)) (take (length oys - 1) (drop 1 oys)) (take (length sys - 1) (drop 1 sys)))
above_behind [] sxs oys sys a b c d = absurd (omega arith)
above_behind (ox ∷ oxs) [] oys sys a b c d = absurd (omega arith)
above_behind (ox ∷ oxs) (sx ∷ sxs) [] sys a b c d = absurd (omega arith)
above_behind (ox ∷ oxs) (sx ∷ sxs) (oy ∷ oys) [] a b c d = absurd (omega arith)
above_behind (ox ∷ oxs) (sx ∷ sxs) (oy ∷ oys) (sy ∷ sys) a b c d = λ all.
    rw (behind ox oxs, behind sx sxs, behind oy oys, behind sy sys)
    (rest_of (ox.port == 0 || sy.port == 0) sx.port oy.port (media_pairs oxs sxs oys sys) all)

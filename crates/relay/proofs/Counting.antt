-- Each step keeps the rule of the counts.
use Rattle.std.proofs.Common.{◌≡◌, ◌≢◌, ℕ, zero, suc, ◌+◌, ◌%◌, ◌^◌, ◌<◌, eqb, List, [], ◌∷◌, ◌++◌, length, get_or, set, refl, sym, ap, ◌∙◌, subst, ⊎_elim, append_assoc, arith, length-set, get_or-set_same, get_or-set_other, eq-eqb, ne_eqb, if◌then◌else◌}
use Rattle.std.proofs.lemmas.List.{append-nil, get_or-replicate, length-replicate, set-get_or}
use Rattle.std.specs.Prelude.{replicate}
use mathlib.Core.Logic.{dite}
use mathlib.Core.Option.{none, some, some-injective, some-ne-none}
use native.Mathlib.Decide.{ℕ_discrete}
use lib.ListN.{get_elem?}
use Rattle.atomic_table.specs.Table.{State, Me, step, keeps, stepped, Allows, Enters, opening}
use Rattle.atomic_table.proofs.Lists.{at_set, at_snoc, at_longer}
use Rattle.relay.specs.Counts.{Adds, AreNumbers, Begin, GoOn, Keeps, Reads, ReadsOwn, Sits, number_of, port_count, times}

abbrev St : Type 0
St = State (Unit {0}) (List ℕ)

times_more : (port q : ℕ) (ports : List ℕ) → times port (ports ++ q ∷ []) ≡ times port ports + (if eqb q port then 1 else 0)
times_more port q [] = omega arith
times_more port q (p ∷ ports) = let more = times_more port q ports in omega (arith, more)

times_same : (port : ℕ) (ports : List ℕ) → times port (ports ++ port ∷ []) ≡ times port ports + 1
times_same port ports = times_more port port ports ∙ ap (λ b. times port ports + (if b then 1 else 0)) (eq-eqb port port refl)

times_other : (port q : ℕ) (ports : List ℕ) → port ≢ q → times port (ports ++ q ∷ []) ≡ times port ports
times_other port q ports apart = times_more port q ports ∙ ap (λ b. times port ports + (if b then 1 else 0)) (ne_eqb q port (λ e. apart (sym e))) ∙ omega arith

-- ---- what is known begins the ports

go_on_same : (ports : List ℕ) → GoOn ports ports
go_on_same ports = ([], sym (append-nil ports))

go_on_longer : (ports known more : List ℕ) → GoOn ports known → GoOn (ports ++ more) known
go_on_longer ports known more h = (h.0 ++ more, ap (λ (l : List ℕ). l ++ more) h.1 ∙ append_assoc known h.0 more)

begin_set : (views : List (List ℕ)) (seat : ℕ) (w ports : List ℕ) → Begin views ports → GoOn ports w → Begin (set views seat w) ports
begin_set views seat w ports h more j known at =
    ⊎_elim (λ (t : (j ≡ seat) × (w ≡ known)). subst (GoOn ports) t.1 more) (λ (t : (j ≢ seat) × (get_elem? views j ≡ some known)). h j known t.1) (at_set views seat j w known at)

begin_snoc : (views : List (List ℕ)) (w ports : List ℕ) → Begin views ports → GoOn ports w → Begin (views ++ w ∷ []) ports
begin_snoc views w ports h more j known at = ⊎_elim (h j known) (λ (same : w ≡ known). subst (GoOn ports) same more) (at_snoc views w known j at)

set_first : (views : List (List ℕ)) (v w : List ℕ) → get_elem? views 0 ≡ some v → get_elem? (set views 0 w) 0 ≡ some w
set_first [] v w at = absurd (some-ne-none v (sym at))
set_first (x ∷ views) v w at = refl

-- the first view is the ports, and stays so where a view becomes the ports
first_stays : (views : List (List ℕ)) (seat : ℕ) (ports : List ℕ) → get_elem? views 0 ≡ some ports → get_elem? (set views seat ports) 0 ≡ some ports
first_stays [] seat ports at = absurd (some-ne-none ports (sym at))
first_stays (x ∷ views) zero ports at = refl
first_stays (x ∷ views) (suc seat) ports at = at

-- ---- the words

numbers_more : (words ports : List ℕ) (q : ℕ) → AreNumbers words ports → q < length words → AreNumbers (set words q ((get_or words q 0 + 1) % 2 ^ 64)) (ports ++ q ∷ [])
numbers_more words ports q h inside port below = dite (ℕ_discrete port q)
    (λ (same : port ≡ q).
    let at_q : get_or words q 0 ≡ times q ports % 2 ^ 64 = h q inside in
    let sum : times q (ports ++ q ∷ []) ≡ times q ports + 1 = times_same q ports in
    let now : get_or (set words q ((get_or words q 0 + 1) % 2 ^ 64)) q 0 ≡ (get_or words q 0 + 1) % 2 ^ 64 = get_or-set_same words q _ 0 inside in
    let whole : get_or (set words q ((get_or words q 0 + 1) % 2 ^ 64)) q 0 ≡ number_of q (ports ++ q ∷ []) = omega (arith, now, at_q, sum) in
    subst (λ (p : ℕ). get_or (set words q ((get_or words q 0 + 1) % 2 ^ 64)) p 0 ≡ number_of p (ports ++ q ∷ [])) (sym same) whole)
    (λ (apart : port ≢ q).
    get_or-set_other words q port _ 0 apart ∙ h port (subst (λ (n : ℕ). port < n) (length-set words q _) below) ∙ ap (λ (n : ℕ). n % 2 ^ 64) (sym (times_other port q ports apart)))

zeros_count : (port : ℕ) → port < port_count → get_or {A = ℕ} (replicate port_count zero) port zero ≡ zero
zeros_count port below = get_or-replicate port_count port zero zero below

-- ---- the steps

pub starts : (words : List ℕ) → words ≡ replicate {A = ℕ} port_count zero → Keeps (opening words [] [])
starts words zeros = (
  [],
  ap length zeros ∙ length-replicate {A = ℕ} port_count zero,
  (λ port below. ap (λ (ws : List ℕ). get_or ws port 0) zeros ∙ zeros_count port (subst (λ (n : ℕ). port < n) (ap length zeros ∙ length-replicate {A = ℕ} port_count zero) below)),
  refl,
  first,
)
  where
    first : Begin ([] ∷ []) []
    first zero known at = subst (GoOn []) (some-injective _ _ at) (go_on_same [])
    first (suc seat) known at = absurd (some-ne-none known (sym at))

pub adds : (slots seat : ℕ) (me : Me (Unit {0}) (List ℕ)) (q : ℕ) → seat ≡ 0 → q < port_count → Allows Keeps slots seat me q (λ n. (n + 1) % 2 ^ 64) (Adds (step slots q 1 0 none) me)
adds slots seat me q is_first below s h _ at _ =
    let at_first : get_elem? s.views 0 ≡ some me.0 = subst (λ (n : ℕ). get_elem? s.views n ≡ some me.0) is_first at in
    let same : h.0 ≡ me.0 = some-injective _ _ (sym h.3 ∙ at_first) in
    let w : List ℕ = me.0 ++ q ∷ [] in
    let inside : q < length s.words = subst (λ (n : ℕ). q < n) (sym h.1) below in
    let numbers : AreNumbers s.words me.0 = subst (AreNumbers s.words) same h.2 in
    let begin : Begin s.views w = λ j known a. go_on_longer me.0 known (q ∷ []) (subst (λ (l : List ℕ). GoOn l known) same (h.4 j known a)) in
    let views : get_elem? (set s.views seat w) 0 ≡ some w = subst (λ (n : ℕ). get_elem? (set s.views n w) 0 ≡ some w) (sym is_first) (set_first s.views me.0 w at_first) in
    (w, keeps, tt, (w, length-set s.words q _ ∙ h.1, numbers_more s.words me.0 q numbers inside, views, begin_set s.views seat w w begin (go_on_same w)), refl)

pub reads : (slots seat : ℕ) (me : Me (Unit {0}) (List ℕ)) (q : ℕ) → q < port_count → Allows Keeps slots seat me q (λ n. n) (Reads (step slots q 0 0 none) me)
reads slots seat me q below s h _ at _ =
    let inside : q < length s.words = subst (λ (n : ℕ). q < n) (sym h.1) below in
    let words : set s.words q (get_or s.words q 0) ≡ s.words = set-get_or s.words q 0 in (
      h.0,
      keeps,
      tt,
      (
        h.0,
        ap length words ∙ h.1,
        subst (λ (ws : List ℕ). AreNumbers ws h.0) (sym words) h.2,
        first_stays s.views seat h.0 h.3,
        begin_set s.views seat h.0 h.0 h.4 (go_on_same h.0),
      ),
      (h.2 q inside, h.4 seat me.0 at),
    )

pub reads_own : (slots seat : ℕ) (me : Me (Unit {0}) (List ℕ)) (q : ℕ) → seat ≡ 0 → q < port_count → Allows Keeps slots seat me q (λ n. n) (ReadsOwn (step slots q 0 0 none) me)
unfolding reads
reads_own slots seat me q is_first below s h homes at small =
    let at_first : get_elem? s.views 0 ≡ some me.0 = subst (λ (n : ℕ). get_elem? s.views n ≡ some me.0) is_first at in
    let same : h.0 ≡ me.0 = some-injective _ _ (sym h.3 ∙ at_first) in
    let r = reads slots seat me q below s h homes at small in (
      me.0,
      keeps,
      tt,
      subst (λ (w : List ℕ). Keeps (stepped s q (get_or s.words q 0) seat me.1 w keeps)) same r.3,
      (r.4.0 ∙ ap (number_of q) same, refl),
    )

pub sits : (slots q : ℕ) → Enters Keeps slots q (λ n w. Sits (step slots q 0 0 none) ([], []) n (w, []))
sits slots q s h _ _ = ([], (h.0, h.1, h.2, at_longer s.views ([] ∷ []) 0 h.0 h.3, begin_snoc s.views [] h.0 h.4 (h.0, refl)), refl)

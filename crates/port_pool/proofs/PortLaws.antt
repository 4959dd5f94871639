-- Lemmas on the ports of a call's pairs.
use Rattle.std.proofs.Common.{◌≡◌, ◌==◌, ◌&&◌, ◌||◌, ◌+◌, ◌%◌, ◌-◌, ◌<◌, ◌≤◌, ◌∙◌, ◌++◌, ℕ, Bool, true, false, cond, List, [], ◌∷◌, All, get_or, find, Some, option_and_then, refl, ap, arith}
use Rattle.std.specs.List.{list_any}
use Rattle.std.proofs.lemmas.Bool.Decides.{nat_tests}
use Rattle.std.proofs.lemmas.Bool.{eqb-true}
use Rattle.std.proofs.lemmas.List.Elements.{All-cons, All-nil}
use Rattle.std.proofs.lemmas.List.Folds.{list_any-append}
use Rattle.port_pool.specs.declared.holdings.Holding.{Holding}
use Rattle.port_pool.specs.Holdings.{is_call, holds, has_even, even_of, holder_at, PairsFrom}
use Rattle.port_pool.specs.Pool.{ports_of, ports_of_holding}
use Rattle.port_pool.proofs.HoldingLaws.{differ, same_even}

-- the ports rise, none below n
abbrev pub PortsFrom : ℕ → List ℕ → Type 0
PortsFrom n [] = Unit {0}
PortsFrom n (p ∷ ps) = (n ≤ p) × PortsFrom (p + 1) ps

PortsFrom-weaker : (m n : ℕ) (ps : List ℕ) → m ≤ n → PortsFrom n ps → PortsFrom m ps
PortsFrom-weaker m n [] le h = tt
PortsFrom-weaker m n (p ∷ ps) le h = (omega arith, h.1)

pub PortsFrom-pairs : (call n : ℕ) (holdings : List Holding) → PairsFrom n holdings → PortsFrom n (ports_of call holdings)
PortsFrom-pairs call n [] h = tt
PortsFrom-pairs call n (s ∷ ss) h =
    let rest : PortsFrom (s.even + 2) (ports_of call ss) = PortsFrom-pairs call (s.even + 2) ss h.3 in
    elim (holds call s) as (λ b. PortsFrom n (cond b (s.even ∷ (s.even + 1) ∷ []) [] ++ ports_of call ss)) [
      | true ↦ (h.0, (omega arith, PortsFrom-weaker (s.even + 1 + 1) (s.even + 2) (ports_of call ss) (omega arith) rest))
      | false ↦ PortsFrom-weaker n (s.even + 2) (ports_of call ss) (omega arith) rest
    ]

pub absent : (n q : ℕ) (ps : List ℕ) → PortsFrom n ps → q < n → list_any (λ p. p == q) ps ≡ false
absent n q [] h below = refl
absent n q (p ∷ ps) h below = ap (λ b. b || list_any (λ r. r == q) ps) (differ p q (omega arith)) ∙ absent (p + 1) q ps h.1 (omega arith)

either_port : (q e : ℕ) → e % 2 ≡ 0 → ((e == q) || ((e + 1 == q) || false)) ≡ (e == q - q % 2)
either_port q e even = grind (arith, nat_tests)

ports_in : (call q : ℕ) (s : Holding) → s.even % 2 ≡ 0 → list_any (λ p. p == q) (ports_of_holding call s) ≡ (holds call s && (s.even == even_of q))
ports_in call q s even =
    elim (holds call s) as (λ b. list_any (λ p. p == q) (cond b (s.even ∷ (s.even + 1) ∷ []) []) ≡ (b && (s.even == even_of q))) [
      | true ↦ either_port q s.even even
      | false ↦ refl
    ]

and_none : (b : Bool) → (b && false) ≡ false
and_none true = refl
and_none false = refl

keeps : (b : Bool) → ((b && true) || false) ≡ b
keeps true = refl
keeps false = refl

-- a port is among those of a call exactly if the call holds its pair
pub port_in : (call n : ℕ) (holdings : List Holding) (q : ℕ) → PairsFrom n holdings → list_any (λ p. p == q) (ports_of call holdings) ≡ is_call call (holder_at holdings q)
port_in call n [] q h = refl
port_in call n (s ∷ ss) q h =
    list_any-append (λ p. p == q) (ports_of_holding call s) (ports_of call ss)
    ∙ ap (λ b. b || list_any (λ p. p == q) (ports_of call ss)) (ports_in call q s h.1)
    ∙ (elim (s.even == even_of q) as (λ d. (s.even == even_of q) ≡ d → ((holds call s && d) || list_any (λ p. p == q) (ports_of call ss))
    ≡ is_call call (option_and_then (λ (t : Holding). t.holder) (cond d (Some s) (find (has_even (even_of q)) ss)))) [
      | true ↦ λ is. let at : s.even ≡ q - q % 2 = eqb-true s.even (even_of q) is in
          ap (λ r. (holds call s && true) || r) (absent (s.even + 2) q (ports_of call ss) (PortsFrom-pairs call (s.even + 2) ss h.3) (omega arith)) ∙ keeps (holds call s)
      | false ↦ λ is. ap (λ r. r || list_any (λ p. p == q) (ports_of call ss)) (and_none (holds call s)) ∙ port_in call (s.even + 2) ss q h.3
    ]) refl

-- each port is among its own list
pub ports_own : (ps : List ℕ) → All (λ q. list_any (λ p. p == q) ps ≡ true) ps
ports_own [] = All-nil (λ q. list_any (λ p. p == q) [] ≡ true)
ports_own (p ∷ ps) =
    All-cons (λ q. list_any (λ r. r == q) (p ∷ ps) ≡ true) p ps (ap (λ b. b || list_any (λ r. r == p) ps) (same_even p))
    (λ k d within. later p (get_or ps k d) ps (ports_own ps k d within))
  where
    later : (p q : ℕ) (ps : List ℕ) → list_any (λ r. r == q) ps ≡ true → list_any (λ r. r == q) (p ∷ ps) ≡ true
    later p q ps h =
        elim (p == q) as (λ d. (d || list_any (λ r. r == q) ps) ≡ true) [
          | true ↦ refl
          | false ↦ h
        ]

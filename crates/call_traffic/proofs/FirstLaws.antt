-- The first call that passes a test becomes another.
use Rattle.std.proofs.Common.{◌≡◌, ℕ, Bool, true, false, cond, List, [], ◌∷◌, get_or, set, Some, None, position, MatchOption, sym, ap, ◌∙◌, subst, arith}
use Prim.Native.Nat.{suc, zero}
use Rattle.std.specs.Prelude.{Result, Ok, Err, OnErr}
use Rattle.std.proofs.lemmas.Bool.{cond-true, cond-false}
use Rattle.call_traffic.specs.declared.call_traffic.CallTraffic.{CallTraffic}
use Rattle.call_traffic.specs.MediaLogs.{FirstBecomes, with_first}
use Rattle.call_traffic.proofs.CallLaws.{IsFirst, behind, first_at, found, not_found}

puts : (p : CallTraffic → Bool) (other : CallTraffic) (calls : List CallTraffic) (at : ℕ) (d : CallTraffic) → IsFirst p calls at d → with_first p other calls ≡ set calls at other
puts p other [] at d first = absurd (omega (arith, first.within))
puts p other (call ∷ calls) zero d first = cond-true (p call) _ _ first.passes
puts p other (call ∷ calls) (suc at) d first =
    cond-false (p call) _ _ (first.before zero (omega arith)) ∙ ap (λ cs. call ∷ cs) (puts p other calls at d (behind p call calls at d first))

pub becomes : (p : CallTraffic → Bool) (Becomes : CallTraffic → CallTraffic → Type 0) (Else : Type 0) (before after : List CallTraffic) (at : ℕ) (was other : CallTraffic) →
    position p before ≡ Some at → was ≡ get_or before at was → Becomes was other → after ≡ set before at other → FirstBecomes p Becomes Else before after
becomes p Becomes Else before after at was other place is here set_is =
    subst (λ o. MatchOption o (Else × (after ≡ before)) (λ call. (other : CallTraffic) × Becomes call other × (after ≡ with_first p other before)))
    (sym (found p before at was place ∙ ap Some (sym is)))
    (other, here, set_is ∙ sym (puts p other before at was (first_at p before at was place)))

pub stays : (p : CallTraffic → Bool) (Becomes : CallTraffic → CallTraffic → Type 0) (Else : Type 0) (before after : List CallTraffic) →
    position p before ≡ None → Else → after ≡ before → FirstBecomes p Becomes Else before after
stays p Becomes Else before after none otherwise same =
    subst (λ o. MatchOption o (Else × (after ≡ before)) (λ call. (other : CallTraffic) × Becomes call other × (after ≡ with_first p other before)))
    (sym (not_found p before none)) (otherwise, same)

-- a fact that holds whatever was returned
pub on_err : {T E : Type 0} (r : Result T E) (P : Type 0) → P → OnErr r P
on_err (Ok x) P p = tt
on_err (Err e) P p = p

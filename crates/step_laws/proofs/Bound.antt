-- What a REGISTER is answered by the registrar that some REGISTERs leave, from their list alone: and what its user is
-- bound to then.
use Rattle.std.proofs.Common.{◌≡◌, ◌∙◌, ◌++◌, ◌&&◌, ℕ, Bool, true, false, List, [], ◌∷◌, Option, Some, None, Ok, Err, cond, ap, refl, subst}
use Rattle.std.proofs.lemmas.Bool.{and_from, cond-true}
use Rattle.registrar.specs.Bound.{Event, answer_after, bindings_after, bound, names, or_as_before, rules_after, step}
use Rattle.registrar.specs.Registering.{Rules, answer_by, answer_for, bindings_after_one, is_known, present}
use Rattle.registrar.specs.Registrar.{Contents, StandsAfter, answer_of, bindings_of, event, rules_of}
use Rattle.registrar.specs.declared.binding.Binding.{Binding}
use Rattle.registrar.specs.declared.refusal.Refusal.TheVariants.{UnknownUser}
use Rattle.registrar.specs.declared.register.Register.{Register}
use Rattle.registrar.proofs.EntryLaws.{own_text}
use Rattle.registrar.proofs.FoldLaws.{fold_from-append}
use Rattle.step_laws.proofs.Lasting.{answer_lasts, lasting_present}

-- ---- the answer

same_for : (r : Contents) (register : Register) (now : ℕ) (rules : Rules) (history : List Event) → StandsAfter r rules history → (user : Option (List ℕ))
    → answer_for (rules_of r) (bindings_of r.entries) register now user ≡ answer_for (rules_after rules history) (λ u. bindings_after rules u history) register now user
same_for r register now rules history stands None = refl
same_for r register now rules history stands (Some user) =
    ap (λ bs. cond (is_known (rules_of r) user) (bindings_after_one (rules_of r) register now bs) (Err UnknownUser)) (stands.each user)
    ∙ ap (λ rs. cond (is_known rs user) (bindings_after_one rs register now (bindings_after rules user history)) (Err UnknownUser)) stands.rules_are

-- the registrar answers as the list of REGISTERs says
pub answer_same : (r : Contents) (register : Register) (now : ℕ) (rules : Rules) (history : List Event) → StandsAfter r rules history → answer_of r register now ≡ answer_after rules history register now
unfolding answer_of answer_after answer_by
answer_same r register now rules history stands = same_for r register now rules history stands register.user

-- ---- the bindings

-- a known user, whose REGISTER is not refused
record IsTaken (rules : Rules) (register : Register) (now : ℕ) (user : List ℕ) (before after : List Binding) : Type 0 where
  known : is_known rules user ≡ true
  answer : bindings_after_one rules register now before ≡ Ok after

taken_by : (rules : Rules) (register : Register) (now : ℕ) (user : List ℕ) (before after : List Binding) (known : Bool) → is_known rules user ≡ known
    → cond known (bindings_after_one rules register now before) (Err UnknownUser) ≡ Ok after → IsTaken rules register now user before after
taken_by rules register now user before after true known is = record { known = known; answer = is }
taken_by rules register now user before after false known is = cc

taken_for : (given rules : Rules) (history : List Event) (register : Register) (now : ℕ) (user : List ℕ) (named : Option (List ℕ)) (after : List Binding) → named ≡ Some user
    → answer_for given (λ u. bindings_after rules u history) register now named ≡ Ok after → IsTaken given register now user (bindings_after rules user history) after
taken_for given rules history register now user named after named_is is =
    taken_by given register now user (bindings_after rules user history) after (is_known given user) refl
    (subst (λ n. answer_for given (λ u. bindings_after rules u history) register now n ≡ Ok after) named_is is)

step_is : (rules : Rules) (register : Register) (now : ℕ) (user : List ℕ) (before after : List Binding) → register.user ≡ Some user
    → IsTaken rules register now user before after → step rules user before (event register now) ≡ after
step_is rules register now user before after is taken =
    let named = ap (λ o. names o user) is ∙ own_text user in
    cond-true (names register.user user && is_known rules user) (or_as_before before (bindings_after_one rules register now before)) before
    (and_from (names register.user user) (is_known rules user) named taken.known)
    ∙ ap (or_as_before before) taken.answer

-- the bindings that are answered are those that the user is bound to at that moment, the REGISTER counted
pub bound_is : (rules : Rules) (history : List Event) (register : Register) (now : ℕ) (user : List ℕ) (after : List Binding) → register.user ≡ Some user
    → answer_after rules history register now ≡ Ok after → bound rules user (history ++ event register now ∷ []) now ≡ after
unfolding answer_after answer_by bound
bound_is rules history register now user after named is =
    let given = rules_after rules history in
    let taken = taken_for given rules history register now user register.user after named is in
    ap (present now) (fold_from-append rules user [] history (event register now) ∙ step_is given register now user (bindings_after rules user history) after named taken)
    ∙ lasting_present now after (answer_lasts given register now (bindings_after rules user history) after taken.answer)

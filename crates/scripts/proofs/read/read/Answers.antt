use Rattle.std.proofs.Common.{◌≡◌, ◌<◌, ℕ, List, [], ◌∷◌, ◌++◌, length, Some, sym, subst, ◌∙◌}
use Rattle.events.specs.declared.event.Event.{Event}
use Rattle.scripts.specs.Reading.{next_of}
use Rattle.scripts.proofs.ScriptLaws.{Leads, leads_none, leads_on, nothing, something, whole, alone, refused, shorter}
use Rattle.scripts.proofs.read.read.Goals as goal

pub loop-rest-init : goal.loop-rest-init
loop-rest-init c = subst (λ (es : List Event). Leads c.args.text.now es c.args.text.now) (sym c.new-events.ensures.items) (leads_none c.args.text.now)

pub loop-rest-preserved : goal.loop-rest-preserved
loop-rest-preserved c =
    let text = c.args.text.now in
    let so_far = c.loop-rest.events.items in
    let entry = c.in-Some.entry in
    let next : next_of c.loop-rest.rest.now ≡ Some entry = sym c.next_of.ensures ∙ c.in-Some.is in
    let on = leads_on text so_far c.loop-rest.rest.now entry c.loop-rest.invariant next in
    let items : c.push.new.self.items ≡ so_far ++ entry.event ∷ [] = subst (λ (e : Event). c.push.new.self.items ≡ so_far ++ e ∷ []) c.in_ok-event.ensures c.in_ok-push.ensures.items in
    subst (λ (es : List Event). Leads text es c.rest-rest.result.now) (sym items)
    (subst (λ (rest : List ℕ). Leads text (so_far ++ entry.event ∷ []) rest) (sym c.rest-rest.ensures) on)

pub loop-rest-smaller : goal.loop-rest-smaller
loop-rest-smaller c =
    subst (λ (rest : List ℕ). length rest < length c.loop-rest.rest.now) (sym c.rest-rest.ensures)
    (shorter c.loop-rest.rest.now c.in-Some.entry (sym c.next_of.ensures ∙ c.in-Some.is))

pub returns-in_default-clause-refused : goal.returns-in_default-clause-refused
returns-in_default-clause-refused c =
    refused c.args.text.now c.loop-rest.events.items c.loop-rest.rest.now c.loop-rest.invariant
    (something c.loop-rest.rest.now (sym c.is_empty.ensures ∙ c.loop-rest-test.true)) (sym c.next_of.ensures ∙ c.in_default.is)

pub returns-in_default-clause-only : goal.returns-in_default-clause-only
returns-in_default-clause-only c = λ es h. absurd (returns-in_default-clause-refused c es h)

pub returns-clause-found : goal.returns-clause-found
returns-clause-found c =
    whole c.args.text.now c.loop-rest.events.items c.loop-rest.rest.now c.loop-rest.invariant
    (nothing c.loop-rest.rest.now (sym c.is_empty.ensures ∙ c.loop-rest-test.false))

pub returns-clause-only : goal.returns-clause-only
returns-clause-only c =
    alone c.args.text.now c.loop-rest.events.items c.loop-rest.rest.now c.loop-rest.invariant
    (nothing c.loop-rest.rest.now (sym c.is_empty.ensures ∙ c.loop-rest-test.false))

use Rattle.std.proofs.Common.{◌≡◌, ◌-◌, ◌∙◌, List, ℕ, drop, length, Some, ap, sym, subst, arith}
use Rattle.events.specs.declared.event.Event.{Event}
use Rattle.scripts.specs.Values.{Entry}
use Rattle.scripts.specs.Grammar.{Begins}
use Rattle.scripts.proofs.ScriptLaws.{shorter}
use Rattle.scripts.proofs.MoreLaws.{behind_it, it_alone, needs_more, never_begins, none_begins, some_there}
use Rattle.scripts.proofs.first.first_event.Goals as goal

pub returns-then-is_cut_off-clause-more : goal.returns-then-is_cut_off-clause-more
returns-then-is_cut_off-clause-more c = needs_more c.args.text.now (sym c.next_of.ensures ∙ c.in_default.is) (sym c.is_cut_off.ensures ∙ c.if-is_cut_off.true)

pub returns-then-is_cut_off-clause-only : goal.returns-then-is_cut_off-clause-only
returns-then-is_cut_off-clause-only c = λ e rest begins. absurd (none_begins c.args.text.now (sym c.next_of.ensures ∙ c.in_default.is) e rest begins)

pub returns-in_default-clause-only : goal.returns-in_default-clause-only
returns-in_default-clause-only c = λ e rest begins. absurd (none_begins c.args.text.now (sym c.next_of.ensures ∙ c.in_default.is) e rest begins)

pub returns-in_default-clause-refused : goal.returns-in_default-clause-refused
returns-in_default-clause-refused c =
    let whole = sym c.is_cut_off.ensures ∙ c.if-is_cut_off.false in
    (some_there c.args.text.now whole, never_begins c.args.text.now (sym c.next_of.ensures ∙ c.in_default.is) whole)

pub overflow_sub-length : goal.overflow_sub-length
overflow_sub-length c = omega (arith, shorter c.args.text.now c.in-Some.entry (sym c.next_of.ensures ∙ c.in-Some.is), ap length c.rest.ensures)

pub returns-clause-found : goal.returns-clause-found
returns-clause-found c =
    let text = c.args.text.now in
    subst (λ (e : Event). Begins text e (drop (length text - length c.rest.result.now) text)) (sym c.in_ok-event.ensures)
    (subst (λ (rest : List ℕ). Begins text c.in-Some.entry.event (drop (length text - length rest) text)) (sym c.rest.ensures)
    (behind_it text c.in-Some.entry (sym c.next_of.ensures ∙ c.in-Some.is)))

pub returns-clause-only : goal.returns-clause-only
returns-clause-only c = λ e rest begins.
    let text = c.args.text.now in
    let one = it_alone text c.in-Some.entry (sym c.next_of.ensures ∙ c.in-Some.is) e rest begins in
    let event_is : c.in_ok-event.field-0 ≡ e = c.in_ok-event.ensures ∙ ap (λ (n : Entry). n.event) one in
    let rest_is : c.rest.result.now ≡ rest = c.rest.ensures ∙ ap (λ (n : Entry). n.rest) one in
    ap (λ (x : Event). Some (x, length text - length c.rest.result.now)) event_is ∙ ap (λ (t : List ℕ). Some (e, length text - length t)) rest_is

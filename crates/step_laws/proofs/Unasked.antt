-- Nothing is dropped unasked: the cases of an event, where each timer that is set does something.
use Rattle.std.proofs.Common.{◌≡◌, ◌∙◌, ℕ, Bool, true, false, nat_le, List, [], ◌∷◌, Some, None, cond, is_some, ap, refl, subst, sym}
use Rattle.std.specs.Prelude.{◌==◌}
use Rattle.std.proofs.lemmas.Bool.{and_from, eq-eqb, false≢true}
use Rattle.std.proofs.lemmas.Option.{none-some, same_Some}
use Rattle.transaction_machines.specs.Inputs.{place_of}
use Rattle.timers.specs.Queue.{first_due, moment}
use Rattle.timers.specs.declared.timers.Timer.{Timer}
use Rattle.transactions.specs.Contents.{fired_of, has_come}
use Rattle.transactions.specs.Fireable.{IsFireable}
use Rattle.transactions.specs.Slots.{at}
use Rattle.transactions.specs.Timing.{same_timer}
use Rattle.transactions.specs.declared.transaction.TimerId.{TimerId}
use Rattle.transactions.proofs.FireLaws.{due_fires}
use Rattle.events.specs.declared.event.Event.{Event}
use Rattle.plans.specs.Effect.{Effect}
use Rattle.event_rows.specs.Rows.{row}
use Rattle.event_rows.specs.State.{Contents, moment_at}
use Rattle.step_laws.specs.Dropping.{IsAnsweredFor}
use Rattle.step_laws.proofs.CallRows.{registers_taken}
use Rattle.step_laws.proofs.EventCases.{EventCase, event_case, ignored, listed, registered, unfired, went}

same_itself : (timer : TimerId) → same_timer timer timer ≡ true
same_itself timer = and_from (timer.id == timer.id) (place_of timer.kind == place_of timer.kind) (eq-eqb timer.id timer.id refl) (eq-eqb (place_of timer.kind) (place_of timer.kind) refl)

head_is_due : (now : ℕ) (t timer : Timer TimerId) (ts : List (Timer TimerId)) (come : Bool) → nat_le t.at now ≡ come → cond come (Some t) None ≡ Some timer
    → has_come now (moment same_timer (t ∷ ts) timer.key) ≡ true
head_is_due now t timer ts true come is =
    subst (λ (y : Timer TimerId). has_come now (moment same_timer (t ∷ ts) y.key) ≡ true) (same_Some t timer is) (rw (same_itself t.key) come)
head_is_due now t timer ts false come is = absurd (none-some timer is)

-- the timer that is due first is due
first_is_due : (now : ℕ) (timer : Timer TimerId) (timers : List (Timer TimerId)) → first_due timers now ≡ Some timer → has_come now (moment same_timer timers timer.key) ≡ true
first_is_due now timer [] is = absurd (none-some timer is)
first_is_due now timer (t ∷ ts) is = head_is_due now t timer ts (nat_le t.at now) refl is

does_something : (s : Contents) (event : Event) (timer : Timer TimerId) → IsFireable s.table.slots s.table.timers → first_due s.table.timers (moment_at s event.now) ≡ Some timer
    → fired_of (at s.table.slots timer.key.id) timer.key.kind ≡ None → ⊥
does_something s event timer fireable due none =
    false≢true (sym (ap is_some none) ∙ due_fires s.table timer.key (moment_at s event.now) fireable (first_is_due (moment_at s event.now) timer s.table.timers due))

case_answers : (s : Contents) (event : Event) (x : Effect) → IsFireable s.table.slots s.table.timers → EventCase s event x → IsAnsweredFor s event x.plan.taken
case_answers s event x fireable (ignored taken why is) = subst (λ (y : Effect). IsAnsweredFor s event y.plan.taken) (sym is) why
case_answers s event x fireable (unfired timer due none is) = absurd (does_something s event timer fireable due none)
case_answers s event x fireable (went is) = subst (IsAnsweredFor s event) (sym is.taken) tt
case_answers s event x fireable (listed users brings is) = subst (IsAnsweredFor s event) (sym (ap (λ (y : Effect). y.plan.taken) is)) tt
case_answers s event x fireable (registered source r id registers is) =
    subst (IsAnsweredFor s event) (sym (ap (λ (y : Effect). y.plan.taken) is ∙ registers_taken _ _ r _ id)) tt

pub nothing_unasked : (s : Contents) → IsFireable s.table.slots s.table.timers → (event : Event) → IsAnsweredFor s event (row s event).plan.taken
nothing_unasked s fireable event = case_answers s event (row s event) fireable (event_case s event)

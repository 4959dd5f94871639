-- In the table of every agent each timer that is set does something when it fires.
use Rattle.std.proofs.Common.{◌≡◌, true, All, List, [], ◌∷◌, Option, Some, None, subst, sym}
use Rattle.std.proofs.lemmas.List.Elements.{All-nil}
use Rattle.configuration.specs.declared.config.Config.{Config}
use Rattle.sip_message.specs.declared.message.Message.TheVariants as Kinds
use Rattle.transactions.specs.Changes.{change_of}
use Rattle.transactions.specs.Fireable.{has_line_at, has_sent}
use Rattle.transactions.specs.Slots.{at}
use Rattle.events.specs.declared.event.Event.{Event}
use Rattle.plans.specs.Effect.{Effect}
use Rattle.plans.specs.declared.taken.Taken.{Taken}
use Rattle.event_rows.specs.Rows.{after, moment_after, row, setting}
use Rattle.event_rows.specs.State.{Contents, IsNew, after_event, moment_at, office}
use Rattle.event_rows.specs.Trace.{AreEntries, Entry, after_answer, after_entries, after_entry}
use Rattle.step_laws.proofs.CallRows.{registers_ready}
use Rattle.step_laws.proofs.EventCases.{EventCase, event_case, ignored, listed, registered, unfired, went}
use Rattle.step_laws.proofs.Ready.{Fires, all_fire, change_ready}
use Rattle.step_laws.proofs.ReadySteps.{AllReady, none_ready, one_ready}

case_ready : (s : Contents) (event : Event) (x : Effect) → EventCase s event x → AllReady x.plan.changes
case_ready s event x (ignored taken why is) = subst (λ (y : Effect). AllReady y.plan.changes) (sym is) none_ready
case_ready s event x (listed users brings is) = subst (λ (y : Effect). AllReady y.plan.changes) (sym is) none_ready
case_ready s event x (unfired timer due none is) = subst (λ (y : Effect). AllReady y.plan.changes) (sym is) none_ready
case_ready s event x (went is) = is.changes
case_ready s event x (registered source r id registers is) =
    let change = change_of s.table (Kinds.Request r) source in
    subst (λ (y : Effect). AllReady y.plan.changes) (sym is)
    (registers_ready (office s) (setting (moment_at s event.now) event.salt source) r (change ∷ []) id (one_ready change (change_ready s.table (Kinds.Request r) source)))

fires_after : (s : Contents) (event : Event) → Fires s.table → Fires (after s event).table
unfolding after_event
fires_after s event fires = all_fire (moment_after s event) s.table (row s event).plan.changes fires (case_ready s event (row s event) (event_case s event))

answer_fires : (s : Contents) (event : Event) (answer : Option Taken) → Fires s.table → Fires (after_answer s event answer).table
answer_fires s event None fires = fires
answer_fires s event (Some taken) fires = fires_after s event fires

entries_fire : (xs : List Entry) (s : Contents) → Fires s.table → Fires (after_entries s xs).table
entries_fire [] s fires = fires
entries_fire (x ∷ xs) s fires = entries_fire xs (after_entry s x) (answer_fires s x.event x.answer fires)

new_fires : (c : Config) (s : Contents) → IsNew c s → Fires s.table
new_fires c s new = record {
  lines = subst (All (λ timer. has_line_at (at s.table.slots timer.key.id) timer.key.kind ≡ true)) (sym new.timers) (All-nil _);
  sent = subst (All (λ slot. has_sent slot ≡ true)) (sym new.slots) (All-nil _);
}

pub agents_fire : (config : Config) (s : Contents) (entries : List Entry) → IsNew config s → AreEntries s entries → Fires (after_entries s entries).table
agents_fire config s entries new are = entries_fire entries s (new_fires config s new)

-- An event: what it took and sent is a move of the trace's calls, after which these show the server's.
use Rattle.std.proofs.Common.{◌∷◌, Bool, List, None, Option, Some, [], ap, cond, false, refl, subst, sym, true, ℕ, ◌++◌, ◌∙◌, ◌≡◌}
use Rattle.std.specs.Prelude.{slice_get}
use Rattle.std.proofs.lemmas.Option.{none-some, same_Some}
use Rattle.events.specs.declared.sent.Sent.{Sent}
use Rattle.transactions.specs.declared.change.Entry.{Entry}
use Rattle.transactions.specs.declared.transaction.Transaction.{Transaction}
use Rattle.event_rows.specs.Rows.{no_source, setting}
use Rattle.call_core.specs.declared.input.Input.{Input}
use Rattle.call_core.specs.declared.input.Input.TheVariants as inputs
use Rattle.call_core.specs.declared.signal.Signal.TheVariants as signals
use Rattle.call_steps.specs.Rows.{takes_by, takes_row}
use Rattle.calls.specs.declared.standing_call.StandingCall.{StandingCall}
use Rattle.plans.specs.CallRows.{occasion, takes}
use Rattle.plans.specs.Effect.{Effect}
use Rattle.plans.specs.Office.{Office}
use Rattle.plans.specs.declared.setting.Setting.{Setting}
use Rattle.call_trace.specs.declared.call.Call.{Call}
use Rattle.call_trace.specs.declared.datagram.Datagram.{Datagram}
use Rattle.call_trace.specs.declared.datagram.Message.{Message}
use Rattle.call_trace.specs.Events.{passed}
use Rattle.call_trace.specs.Messages.{offering}
use Rattle.call_trace.specs.Moves.{Move}
use Rattle.message_laws.specs.Messages.{AreMessages}
use Rattle.media_laws.specs.Shows.{ShowsCall}
use Rattle.media_laws.specs.Steps.{GoOn, IsAfter, due_signal}
use Rattle.events.specs.declared.event.What.{What}
use Rattle.events.specs.declared.event.What.TheVariants as whats
use Rattle.plans.specs.declared.taken.Taken.{Taken}
use Rattle.message_laws.specs.Datagrams.{ComesFromSource}
use Rattle.message_laws.proofs.Messages.Views.{DueRow}
use Rattle.message_laws.proofs.Messages.Views as views
use Rattle.message_laws.specs.Traces.{IsTaken}
use Rattle.media_laws.proofs.EventKinds.EventCases.{DatagramCase, EventCase, IsNotDone, MessageCase, ResponseCase}
use Rattle.media_laws.proofs.EventKinds.EventCases as cases
use Rattle.call_core.specs.declared.signal.Signal.{Signal}
use Rattle.media_laws.specs.Known.{IsTied}
use Rattle.media_laws.proofs.EventKinds.Laws.{Laws}
use Rattle.media_laws.proofs.EventKinds.Puts.{none_goes_on}
use Rattle.media_laws.proofs.Copies.TransactionMoves.{nothing_move}
use Rattle.call_steps.specs.Rows.{takes_by}
use Rattle.event_rows.specs.State.{Contents, after_event, moment_at, office}
use Rattle.event_rows.specs.Rows.{after as after_step, only_counts, row, row_by, what_counts}
use Rattle.events.specs.declared.event.Event.{Event}
use Rattle.events.specs.declared.event.What.{What}
use Rattle.events.specs.declared.event.What.TheVariants as whats
use Rattle.calls.specs.declared.timer_id.CallTimerId.{CallTimerId}
use Rattle.media_laws.specs.Known.{IsMoved}
use Rattle.message_laws.specs.Askers.{KnowsAskers}
use Rattle.message_laws.specs.Numbers.{begun_of}
use Rattle.plans.specs.declared.taken.Taken.{Taken}
use Rattle.plans.specs.declared.taken.Taken.TheVariants.{Done}
use Rattle.plans.specs.CallRows.{timer_input, without_call_timer}
use Rattle.media_laws.proofs.EventKinds.CaseMoves.{NoneTakes, NoneTakesDue, event_move, none_with, nothing_taken}
use Rattle.media_laws.proofs.EventKinds.EventCases.{IsNotDone, event_case}
use Rattle.media_laws.proofs.Copies.TransactionMoves.{nothing_move}
use Rattle.message_laws.specs.Traces.{IsPassed, IsTaken}
use Rattle.media_laws.proofs.EventKinds.Dues.{due_goes}
use Rattle.media_laws.proofs.EventKinds.CallInputs.{shown, ties}
use Rattle.call_core.specs.declared.action.CallTimer.{CallTimer}
use Rattle.call_core.specs.declared.action.CallTimer.TheVariants as timers
use Rattle.call_core.specs.declared.signal.Signal.{Signal}
use Rattle.event_rows.specs.State.{moments_end, max_tokens}
use Rattle.plans.specs.declared.taken.Taken.TheVariants.{Dropped, Idle}
use Rattle.plans.specs.declared.taken.Why.TheVariants.{Clock, Spent, Unread}
use Rattle.sip_message.specs.declared.error.MessageError.TheVariants.{TooLong}
use Rattle.std.specs.Prelude.{nat_le}
use Rattle.transactions.specs.Changes.{fire_of}
use Rattle.call_steps.specs.Rows.{takes_by}
use Rattle.media_laws.proofs.EventKinds.Datagrams.{datagram_goes}

-- ---- a timer of a call

timer_signal : (timer : CallTimer) → (signal : Signal) × (due_signal (timer_input timer) ≡ Some signal)
timer_signal timers.Limit = (signals.Limit, refl)
timer_signal timers.Repeat = (signals.Repeat, refl)
timer_signal timers.Wait = (signals.Wait, refl)
timer_signal timers.Lifetime = (signals.Lifetime, refl)

-- the calls are the same once it is no longer set
same_by : (s : Office) (timer : CallTimerId) (e : Setting) (place : ℕ) (input : Input) (c : Option StandingCall)
    → ((takes_by (without_call_timer timer s).calls s.table (occasion s e) place input None None c).dressed ≡ (takes_by s.calls s.table (occasion s e) place input None None c).dressed)
    × ((takes_by (without_call_timer timer s).calls s.table (occasion s e) place input None None c).outcome.standing.calls ≡ (takes_by s.calls s.table (occasion s e) place input None None c).outcome.standing.calls)
same_by s timer e place input None = (refl, refl)
same_by s timer e place input (Some c) = (refl, refl)

same_takes : (s : Office) (timer : CallTimerId) (e : Setting) (place : ℕ) (input : Input)
    → ((takes (without_call_timer timer s) e [] None None place input None).plan.sends ≡ (takes s e [] None None place input None).plan.sends)
    × ((takes (without_call_timer timer s) e [] None None place input None).calls.standing.calls ≡ (takes s e [] None None place input None).calls.standing.calls)
unfolding takes_row
same_takes s timer e place input = let h = same_by s timer e place input (slice_get s.calls.calls place) in (ap (λ d. d.sends) h.0, h.1)

-- ---- what is only counted

not_done_if : (b : Bool) (one answer : Taken) (rest : Option Taken) → IsNotDone one → (rest ≡ Some answer → IsNotDone answer) → cond b (Some one) rest ≡ Some answer → IsNotDone answer
not_done_if true one answer rest first next is = subst IsNotDone (same_Some one answer is) first
not_done_if false one answer rest first next is = next is

idle_unless : (b : Bool) (answer : Taken) → cond b None (Some Idle) ≡ Some answer → IsNotDone answer
idle_unless true answer is = absurd (none-some answer is)
idle_unless false answer is = subst IsNotDone (same_Some Idle answer is) tt

counted_so : (s : Contents) (now : ℕ) (what : What) (answer : Taken) → what_counts s now what ≡ Some answer → IsNotDone answer
counted_so s now (whats.Datagram source bytes) answer is = not_done_if _ (Dropped (Unread TooLong)) answer None tt (λ none. absurd (none-some answer none)) is
counted_so s now whats.Due answer is = idle_unless _ answer is
counted_so s now (whats.Silent number) answer is = idle_unless _ answer is
counted_so s now (whats.Users users) answer is = idle_unless _ answer is

only_counted : (s : Contents) (event : Event) (answer : Taken) → only_counts s event ≡ Some answer → IsNotDone answer
unfolding only_counts
only_counted s event answer is =
    not_done_if (nat_le moments_end event.now) (Dropped Clock) answer _ tt
    (λ early. not_done_if (nat_le max_tokens s.tokens) (Dropped Spent) answer (what_counts s (moment_at s event.now) event.what) tt (λ looked. counted_so s (moment_at s event.now) event.what answer looked) early) is

module _ (laws : Laws) (s : Contents) (event : Event) (begun : List Transaction) (sent : List Sent) (t : List Datagram) (old : List Call) (k : ℕ) (tied : IsTied (office s) begun sent t old k) (later : IsAfter (office s) (office (after_step s event)) (begun ++ begun_of (row s event).plan.changes)) (askers : KnowsAskers (office (after_step s event))) (from : ComesFromSource event.what) (taken : Option Message) (ms : List Message) where
  abbrev more : List Transaction
  more = begun_of (row s event).plan.changes

  abbrev before : Office
  before = office s

  abbrev behind : Office
  behind = office (after_step s event)

  abbrev Goes : Type 0
  Goes = IsMoved s event begun t old k taken ms

  abbrev now : ℕ
  now = moment_at s event.now

  module _ (x : Effect) (is_row : row s event ≡ x) (took : IsTaken event.what x.plan.taken taken) (are : AreMessages x.plan.sends ms) where
    calls : behind.calls.calls ≡ x.calls.standing.calls
    unfolding after_event
    calls = ap (λ (y : Effect). y.calls.standing.calls) is_row

    stays : Move offering t old taken ms old → x.calls.standing.calls ≡ s.calls.calls → Goes
    stays move same = none_goes_on laws.keep before behind begun more t old k (shown laws before behind begun more sent t old k tied later taken ms) later taken ms move (calls ∙ same)

    quiet_move : (row : EventCase before now event.salt event.what x) → NoneTakes before now event.salt event.what x row → Move offering t old taken ms old
    quiet_move row none =
        event_move laws.reads laws.names laws.describes before begun sent t old (ties laws before behind begun more sent t old k tied later taken ms) tied.known.legs.callees tied.late taken ms now event.salt event.what from x row none took are

    -- nothing is taken with a timer
    due_by : taken ≡ None → (e : Setting) (entries : List Entry) (place : ℕ) (input : Input) (signal : Signal) → due_signal input ≡ Some signal → (y : Effect) → y ≡ takes before e entries None None place input None → AreMessages y.plan.sends ms
        → behind.calls.calls ≡ y.calls.standing.calls → Goes
    due_by none e entries place input signal is y eq sends after_calls =
        subst (λ o. GoOn (ShowsCall behind.table.slots (begun ++ more) (t ++ passed k o ms)) behind.calls.calls t old o ms) (sym none)
        (due_goes laws before behind begun more sent t old k tied later ms e entries place input signal is y eq sends after_calls)

    call_due : taken ≡ None → (e : Setting) (timer : CallTimerId) (place : ℕ) → x ≡ takes (without_call_timer timer before) e [] None None place (timer_input timer.timer) None → Goes
    call_due none e timer place is =
        let signal = timer_signal timer.timer in
        let same = same_takes before timer e place (timer_input timer.timer) in
        due_by none e [] place (timer_input timer.timer) signal.0 signal.1 (takes before e [] None None place (timer_input timer.timer) None) refl
        (subst (λ (l : List Sent). AreMessages l ms) (ap (λ (y : Effect). y.plan.sends) is ∙ same.0) are) (calls ∙ (ap (λ (y : Effect). y.calls.standing.calls) is ∙ same.1))

    due_event : taken ≡ None → (e : Setting) (row : DueRow before e x) → (NoneTakesDue before e x row → Move offering t old taken ms old) → Goes
    due_event none e (views.idle is) alone = stays (alone tt) (ap (λ (y : Effect). y.calls.standing.calls) is)
    due_event none e (views.listed users is) alone = stays (alone tt) (ap (λ (y : Effect). y.calls.standing.calls) is)
    due_event none e (views.sent_again timer out fired is) alone = stays (alone tt) (ap (λ (y : Effect). y.calls.standing.calls) is)
    due_event none e (views.fired_alone timer fired is) alone = stays (alone tt) (ap (λ (y : Effect). y.calls.standing.calls) is)
    due_event none e (views.timed timer y place fired times there found is) alone = due_by none e (fire_of timer ∷ []) place inputs.TimedOut signals.TimedOut refl x is are calls
    due_event none e (views.ended timer fired is) alone = stays (alone tt) (ap (λ (y : Effect). y.calls.standing.calls) is)
    due_event none e (views.stopped timer is) alone = stays (alone tt) (ap (λ (y : Effect). y.calls.standing.calls) is)
    due_event none e (views.call_fired timer place found is) alone = call_due none e timer place is

    case_goes : (row : EventCase before now event.salt event.what x) → (NoneTakes before now event.salt event.what x row → Move offering t old taken ms old) → Goes
    case_goes (cases.came source bytes is row) alone =
        datagram_goes laws s event begun more sent t old k tied later taken ms askers x is_row (ap (λ (y : Effect). begun_of y.plan.changes) is_row) are (setting now event.salt source) (subst ComesFromSource is from) bytes
        (λ done. subst (λ w. IsTaken w Done taken) is (subst (λ answer. IsTaken event.what answer taken) done took)) row alone
    case_goes (cases.due quiet row) alone = due_event (none_with event.what x.plan.taken taken quiet took) (setting now event.salt no_source) row alone

    looked_at : EventCase before now event.salt event.what x → Goes
    looked_at row = case_goes row (quiet_move row)

  by_counting : (counts : Option Taken) → only_counts s event ≡ counts → (x : Effect) → x ≡ row_by s event counts → row s event ≡ x → IsTaken event.what x.plan.taken taken → AreMessages x.plan.sends ms → Goes
  by_counting None is x eq is_row took are = looked_at x is_row took are (subst (EventCase before now event.salt event.what) (sym eq) (event_case before now event.salt event.what))
  by_counting (Some answer) is x eq is_row took are =
      let none = nothing_taken event.what answer taken (only_counted s event answer is) (subst (λ (y : Effect). IsTaken event.what y.plan.taken taken) eq took) in
      stays x is_row took are (subst (λ o. Move offering t old o ms old) (sym none) (nothing_move t old ms (subst (λ (y : Effect). AreMessages y.plan.sends ms) eq are))) (ap (λ (y : Effect). y.calls.standing.calls) eq)

  pub event_goes : IsPassed event.what (row s event).plan.taken (row s event).plan.sends taken ms → Goes
  unfolding row
  event_goes h = by_counting (only_counts s event) refl (row s event) refl refl h.took h.went

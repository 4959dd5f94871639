-- An event, as a list of cases: each row of the agent for it, with why it is that one.
use Rattle.std.proofs.Common.{◌≡◌, ℕ, true, false, nat_le, List, [], ◌∷◌, codes, Option, Some, None, Result, Ok, Err, refl}
use Rattle.sip_uri.specs.declared.uri.Addr.{Addr}
use Rattle.sip_message.specs.declared.error.MessageError.{MessageError}
use Rattle.sip_message.specs.declared.error.MessageError.TheVariants as faults
use Rattle.sip_message.specs.declared.message.Message.{Message}
use Rattle.sip_message.specs.declared.message.Message.TheVariants as Kinds
use Rattle.sip_message.specs.declared.message.Parts.{Parts}
use Rattle.sip_message.specs.declared.message.Request.{Request}
use Rattle.sip_message.specs.AnswerableParts.{answerable_of}
use Rattle.sip_message.specs.Read.{message_of}
use Rattle.timers.specs.declared.timers.Timer.{Timer}
use Rattle.timers.specs.Queue.{first_due}
use Rattle.transactions.specs.declared.outcome.Fired.{Fired}
use Rattle.transactions.specs.declared.outcome.Fired.TheVariants as fires
use Rattle.transactions.specs.declared.outcome.Outgoing.{Outgoing}
use Rattle.transactions.specs.declared.transaction.TimerId.{TimerId}
use Rattle.transactions.specs.declared.transaction.Transaction.{Transaction}
use Rattle.transactions.specs.Changes.{fire_of}
use Rattle.transactions.specs.Contents.{fired_of}
use Rattle.transactions.specs.Slots.{at}
use Rattle.call_media.specs.Ends.{other}
use Rattle.call_core.specs.declared.input.Input.TheVariants as inputs
use Rattle.call_core.specs.declared.action.CallTimer.TheVariants.{Lifetime}
use Rattle.calls.specs.Finding.{place_by_number}
use Rattle.calls.specs.Timing.{id}
use Rattle.calls.specs.declared.timer_id.CallTimerId.{CallTimerId}
use Rattle.call_rules.specs.Responses.{timeout_rule}
use Rattle.events.specs.declared.event.What.{What}
use Rattle.events.specs.declared.event.What.TheVariants as whats
use Rattle.plans.specs.Office.{Office}
use Rattle.plans.specs.declared.setting.Setting.{Setting}
use Rattle.plans.specs.declared.taken.Taken.{Taken}
use Rattle.plans.specs.declared.taken.Taken.TheVariants.{Dropped, Idle}
use Rattle.plans.specs.declared.taken.Why.TheVariants.{NoBranch, Stray, Unread}
use Rattle.plans.specs.CallRows.{call_timer_at, call_timer_row, of_plan, takes, timed_out, timed_out_at, timeout_row, timer_input, times_responses, without_call_timer}
use Rattle.plans.specs.Effect.{Effect}
use Rattle.plans.specs.Plan.{lists, moves, nothing}
use Rattle.registrar.specs.Changes.{listing_of}
use Rattle.plans.specs.declared.reason.Reason.TheVariants as reasons
use Rattle.event_rows.specs.Rows.{by_reading, datagram_row, due_row, ends, fires_by, fit_row, is_unreachable_message, no_source, parts_of, read_row, received, refuses_alone, setting, timer_row, unfit_branch, unread_by, unread_row, what_row}
use Rattle.responses.specs.Words.{has_fit_branch, is_method as request_method}
use Rattle.message_laws.specs.Datagrams.{IsNoDatagram}
use Rattle.message_laws.proofs.Messages.RequestViews.{by_if}
use Rattle.message_laws.proofs.Messages.MessageViews.{ReceivedRow, received_view}

-- ---- a datagram

pub data DatagramRow (s : Office) (e : Setting) (bytes : List ℕ) (x : Effect) : Type 0 where
  -- what can't be read, or has another branch, gets nothing, or a response that no transaction sends
  ignored : (taken : Taken) → x ≡ of_plan s (nothing taken) → DatagramRow s e bytes x
  unreadable : (fault : MessageError) (parts : Parts) → message_of bytes ≡ Err fault → answerable_of bytes ≡ Some parts → x ≡ of_plan s (refuses_alone e parts (reasons.Unread fault)) → DatagramRow s e bytes x
  unfit_branched : (r : Request) → message_of bytes ≡ Ok (Kinds.Request r) → x ≡ of_plan s (refuses_alone e r.parts reasons.NoBranch) → DatagramRow s e bytes x
  was_received : (m : Message) → message_of bytes ≡ Ok m → has_fit_branch (parts_of m).vias ≡ true → is_unreachable_message m ≡ false → ReceivedRow s e m x → DatagramRow s e bytes x

unfit_view : (s : Office) (e : Setting) (bytes : List ℕ) (m : Message) → message_of bytes ≡ Ok m → DatagramRow s e bytes (of_plan s (unfit_branch e m))
unfit_view s e bytes (Kinds.Request r) read =
    by_if (λ p. DatagramRow s e bytes (of_plan s p)) (request_method (codes "ACK") r) (nothing (Dropped NoBranch))
    (refuses_alone e r.parts reasons.NoBranch) (λ b. ignored (Dropped NoBranch) refl) (λ b. unfit_branched r read refl)
unfit_view s e bytes (Kinds.Response r) read = ignored (Dropped NoBranch) refl

unread_by_view : (s : Office) (e : Setting) (bytes : List ℕ) (fault : MessageError) (parts : Option Parts) → message_of bytes ≡ Err fault → answerable_of bytes ≡ parts → DatagramRow s e bytes (of_plan s (unread_by e fault parts))
unread_by_view s e bytes fault None unread can = ignored (Dropped (Unread fault)) refl
unread_by_view s e bytes fault (Some parts) unread can = unreadable fault parts unread can refl

unread_view : (s : Office) (e : Setting) (bytes : List ℕ) (fault : MessageError) → message_of bytes ≡ Err fault → DatagramRow s e bytes (of_plan s (unread_row e bytes fault))
unfolding unread_row
unread_view s e bytes faults.TooLong unread = ignored (Dropped (Unread faults.TooLong)) refl
unread_view s e bytes fault unread = unread_by_view s e bytes fault (answerable_of bytes) unread refl

read_view : (s : Office) (e : Setting) (bytes : List ℕ) (m : Message) → message_of bytes ≡ Ok m → DatagramRow s e bytes (read_row s e m)
unfolding read_row
read_view s e bytes m read =
    by_if (DatagramRow s e bytes) (has_fit_branch (parts_of m).vias) (fit_row s e m) (of_plan s (unfit_branch e m))
    (λ branch. by_if (DatagramRow s e bytes) (is_unreachable_message m) (of_plan s (nothing (Dropped Stray))) (received s e m) (λ b. ignored (Dropped Stray) refl)
    (λ reached. was_received m read branch reached (received_view s e m)))
    (λ b. unfit_view s e bytes m read)

reading_view : (s : Office) (e : Setting) (bytes : List ℕ) (m : Result Message MessageError) → message_of bytes ≡ m → DatagramRow s e bytes (by_reading s e bytes m)
reading_view s e bytes (Ok m) read = read_view s e bytes m read
reading_view s e bytes (Err fault) unread = unread_view s e bytes fault unread

datagram_view : (s : Office) (e : Setting) (bytes : List ℕ) → DatagramRow s e bytes (datagram_row s e bytes)
unfolding datagram_row
datagram_view s e bytes = reading_view s e bytes (message_of bytes) refl

-- ---- what is due

pub data DueRow (s : Office) (e : Setting) (x : Effect) : Type 0 where
  idle : x ≡ of_plan s (nothing Idle) → DueRow s e x
  -- a timer of a transaction
  sent_again : (timer : TimerId) (out : Outgoing) → fired_of (at s.table.slots timer.id) timer.kind ≡ Some (fires.Send out) → x ≡ of_plan s (moves (fire_of timer ∷ []) (Some out)) → DueRow s e x
  fired_alone : (timer : TimerId) → fired_of (at s.table.slots timer.id) timer.kind ≡ Some fires.TimedOut → x ≡ of_plan s (moves (fire_of timer ∷ []) None) → DueRow s e x
  timed : (timer : TimerId) (t : Transaction) (place : ℕ) → fired_of (at s.table.slots timer.id) timer.kind ≡ Some fires.TimedOut → times_responses timer.kind ≡ true → at s.table.slots timer.id ≡ Some t
      → timeout_rule s.calls.calls t.parts ≡ Some place → x ≡ takes s e (fire_of timer ∷ []) None None place inputs.TimedOut None → DueRow s e x
  ended : (timer : TimerId) → fired_of (at s.table.slots timer.id) timer.kind ≡ Some fires.Ended → x ≡ ends s timer → DueRow s e x
  -- a timer of a call
  stopped : (timer : CallTimerId) → x ≡ of_plan (without_call_timer timer s) (moves [] None) → DueRow s e x
  call_fired : (timer : CallTimerId) (place : ℕ) → place_by_number timer.number s.calls.calls ≡ Some place
      → x ≡ takes (without_call_timer timer s) e [] None None place (timer_input timer.timer) None → DueRow s e x
  -- these are the office's users from now on
  listed : (users : List (List ℕ)) → x ≡ of_plan s (lists (listing_of s.registrar users)) → DueRow s e x

timed_at_view : (s : Office) (e : Setting) (timer : TimerId) (t : Transaction) (place : Option ℕ) → fired_of (at s.table.slots timer.id) timer.kind ≡ Some fires.TimedOut → times_responses timer.kind ≡ true
    → at s.table.slots timer.id ≡ Some t → timeout_rule s.calls.calls t.parts ≡ place → DueRow s e (timed_out_at s e (fire_of timer ∷ []) place)
timed_at_view s e timer t None fired times there found = fired_alone timer fired refl
timed_at_view s e timer t (Some place) fired times there found = timed timer t place fired times there found refl

timed_view : (s : Office) (e : Setting) (timer : TimerId) (asked : Option Transaction) → fired_of (at s.table.slots timer.id) timer.kind ≡ Some fires.TimedOut → times_responses timer.kind ≡ true
    → at s.table.slots timer.id ≡ asked → DueRow s e (timed_out s e (fire_of timer ∷ []) asked)
timed_view s e timer None fired times there = fired_alone timer fired refl
timed_view s e timer (Some t) fired times there = timed_at_view s e timer t (timeout_rule s.calls.calls t.parts) fired times there refl

timeout_view : (s : Office) (e : Setting) (timer : TimerId) → fired_of (at s.table.slots timer.id) timer.kind ≡ Some fires.TimedOut → DueRow s e (timeout_row s e timer)
unfolding timeout_row
timeout_view s e timer fired =
    by_if (DueRow s e) (times_responses timer.kind) (timed_out s e (fire_of timer ∷ []) (at s.table.slots timer.id)) (of_plan s (moves (fire_of timer ∷ []) None))
    (λ b. timed_view s e timer (at s.table.slots timer.id) fired b refl) (λ b. fired_alone timer fired refl)

fires_view : (s : Office) (e : Setting) (timer : TimerId) (fired : Option Fired) → fired_of (at s.table.slots timer.id) timer.kind ≡ fired → DueRow s e (fires_by s e timer fired)
fires_view s e timer None is = idle refl
fires_view s e timer (Some (fires.Send out)) is = sent_again timer out is refl
fires_view s e timer (Some fires.TimedOut) is = timeout_view s e timer is
fires_view s e timer (Some fires.Ended) is = ended timer is refl

timer_view : (s : Office) (e : Setting) (timer : TimerId) → DueRow s e (timer_row s e timer)
unfolding timer_row
timer_view s e timer = fires_view s e timer (fired_of (at s.table.slots timer.id) timer.kind) refl

call_timer_at_view : (s : Office) (e : Setting) (timer : CallTimerId) (place : Option ℕ) → place_by_number timer.number s.calls.calls ≡ place
    → DueRow s e (call_timer_at (without_call_timer timer s) e timer.timer place)
call_timer_at_view s e timer None found = stopped timer refl
call_timer_at_view s e timer (Some place) found = call_fired timer place found refl

call_timer_view : (s : Office) (e : Setting) (timer : CallTimerId) → DueRow s e (call_timer_row s e timer)
unfolding call_timer_row
call_timer_view s e timer = call_timer_at_view s e timer (place_by_number timer.number s.calls.calls) refl

due_view : (s : Office) (e : Setting) (one : Option (Timer TimerId)) (other : Option (Timer CallTimerId)) → DueRow s e (due_row s e one other)
due_view s e None None = idle refl
due_view s e (Some timer) None = timer_view s e timer.key
due_view s e None (Some other) = call_timer_view s e other.key
due_view s e (Some timer) (Some other) =
    by_if (DueRow s e) (nat_le timer.at other.at) (timer_row s e timer.key) (call_timer_row s e other.key) (λ b. timer_view s e timer.key) (λ b. call_timer_view s e other.key)

-- ---- an event

pub data WhatRow (s : Office) (now salt : ℕ) (what : What) (x : Effect) : Type 0 where
  came : (source : Addr) (bytes : List ℕ) → what ≡ whats.Datagram source bytes → DatagramRow s (setting now salt source) bytes x → WhatRow s now salt what x
  due : IsNoDatagram what → DueRow s (setting now salt no_source) x → WhatRow s now salt what x

pub due_what_view : (s : Office) (now salt : ℕ) (what : What) → IsNoDatagram what → DueRow s (setting now salt no_source) (what_row s now salt what)
unfolding what_row
due_what_view s now salt (whats.Datagram source bytes) h = absurd h
due_what_view s now salt whats.Due h = due_view s (setting now salt no_source) (first_due s.table.timers now) (first_due s.calls.timers now)
due_what_view s now salt (whats.Silent number) h = call_timer_view s (setting now salt no_source) (id number Lifetime)
due_what_view s now salt (whats.Users users) h = listed users refl

pub what_view : (s : Office) (now salt : ℕ) (what : What) → WhatRow s now salt what (what_row s now salt what)
unfolding what_row
what_view s now salt (whats.Datagram source bytes) = came source bytes refl (datagram_view s (setting now salt source) bytes)
what_view s now salt whats.Due = due tt (due_what_view s now salt whats.Due tt)
what_view s now salt (whats.Silent number) = due tt (due_what_view s now salt (whats.Silent number) tt)
what_view s now salt (whats.Users users) = due tt (due_what_view s now salt (whats.Users users) tt)

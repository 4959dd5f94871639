-- A timer that is due: what the call does for it is a move, and the trace's calls show the server's afterwards.
use Rattle.std.proofs.Common.{◌≡◌, ◌∙◌, ℕ, true, List, [], ◌++◌, Option, Some, None, refl, ap, subst}
use Rattle.std.proofs.lemmas.Option.{none-some, same_Some}
use Rattle.std.specs.Prelude.{slice_get}
use Rattle.events.specs.declared.sent.Sent.{Sent}
use Rattle.transactions.specs.declared.change.Entry.{Entry}
use Rattle.transactions.specs.declared.transaction.Transaction.{Transaction}
use Rattle.call_core.specs.CallRows.{call_row}
use Rattle.call_core.specs.declared.call.Call.{Call as ServerCall}
use Rattle.call_core.specs.declared.input.Input.{Input}
use Rattle.call_core.specs.declared.input.Input.TheVariants as inputs
use Rattle.call_core.specs.declared.signal.Signal.{Signal}
use Rattle.call_core.specs.declared.signal.Signal.TheVariants as signals
use Rattle.call_core.specs.declared.stage.Standing.{Standing}
use Rattle.calls.specs.declared.standing_call.StandingCall.{StandingCall}
use Rattle.plans.specs.CallRows.{takes}
use Rattle.plans.specs.Effect.{Effect}
use Rattle.plans.specs.Office.{Office}
use Rattle.plans.specs.declared.setting.Setting.{Setting}
use Rattle.call_trace.specs.declared.call.Call.{Call}
use Rattle.call_trace.specs.declared.datagram.Datagram.{Datagram}
use Rattle.call_trace.specs.declared.datagram.Message.{Message}
use Rattle.call_trace.specs.Events.{passed}
use Rattle.call_trace.specs.Lives.{Stands}
use Rattle.call_trace.specs.Messages.{offering}
use Rattle.call_trace.specs.Moves.{Move}
use Rattle.call_trace.specs.Stands.{AllApart}
use Rattle.message_laws.specs.Sending.{KnowsSent}
use Rattle.message_laws.proofs.QuietEvents.Describing.{BodiesDescribe}
use Rattle.message_laws.proofs.Messages.ReadBack.{SentIsRead}
use Rattle.message_laws.specs.Comings.{CanCome}
use Rattle.message_laws.proofs.Traces.Comings.{alone_comes}
use Rattle.call_steps.specs.Values.{without_offer}
use Rattle.media_laws.specs.Taking.{KnowsLegs, is_due_signal}
use Rattle.media_laws.proofs.Scenes.Comings.{due_signals}
use Rattle.message_laws.specs.KnownTrace.{KnowsTrace}
use Rattle.message_laws.specs.Messages.{AreMessages}
use Rattle.media_laws.specs.Listing.{is_listed}
use Rattle.media_laws.specs.Shows.{ShowsCall}
use Rattle.media_laws.proofs.Scenes.Reading.{Reading}
use Rattle.media_laws.specs.Steps.{GoOn, IsAfter, IsSignalOf, StandsShown, due_signal}
use Rattle.media_laws.proofs.CallLines.Again.{again_none}
use Rattle.media_laws.proofs.EndTags.Takes.{takes_go_on}

-- ---- the signal of a timer

pub record IsDue (c : ServerCall) (input : Input) (signal : Signal) : Type 0 where
  pub of : IsSignalOf c input signal
  pub can : CanCome input (without_offer None None)
  pub due : is_due_signal signal ≡ true

pub due_input : (c : ServerCall) (input : Input) (signal : Signal) → due_signal input ≡ Some signal → IsDue c input signal
due_input c (inputs.Offer end method offer) signal is = absurd (none-some signal is)
due_input c (inputs.Provisional status) signal is = absurd (none-some signal is)
due_input c (inputs.Answer answer) signal is = absurd (none-some signal is)
due_input c (inputs.Refusal status) signal is = absurd (none-some signal is)
due_input c inputs.TimedOut signal is = subst (IsDue c inputs.TimedOut) (same_Some signals.TimedOut signal is) (record { of = refl; can = alone_comes inputs.TimedOut tt refl tt; due = refl })
due_input c inputs.Ack signal is = absurd (none-some signal is)
due_input c inputs.Cancel signal is = absurd (none-some signal is)
due_input c (inputs.Bye end) signal is = absurd (none-some signal is)
due_input c inputs.Limit signal is = subst (IsDue c inputs.Limit) (same_Some signals.Limit signal is) (record { of = refl; can = alone_comes inputs.Limit tt refl tt; due = refl })
due_input c inputs.Repeat signal is = subst (IsDue c inputs.Repeat) (same_Some signals.Repeat signal is) (record { of = refl; can = alone_comes inputs.Repeat tt refl tt; due = refl })
due_input c inputs.Wait signal is = subst (IsDue c inputs.Wait) (same_Some signals.Wait signal is) (record { of = refl; can = alone_comes inputs.Wait tt refl tt; due = refl })
due_input c inputs.Lifetime signal is = subst (IsDue c inputs.Lifetime) (same_Some signals.Lifetime signal is) (record { of = refl; can = alone_comes inputs.Lifetime tt refl tt; due = refl })

-- ---- the event

module _ (reads : Reading) (describes : BodiesDescribe) (law : SentIsRead) (keep : (k : ℕ) (t : List Datagram) (old new : List Call) (taken : Option Message) (sent : List Message) → Move offering t old taken sent new → Stands offering old k t → AllApart new) (s after : Office) (begun more : List Transaction) (sent : List Sent) (t : List Datagram) (old : List Call) (k : ℕ) (before : StandsShown s begun t old k) (later : IsAfter s after (begun ++ more)) (known : KnowsTrace s begun sent t) (was : KnowsSent s sent) (knows : KnowsLegs s) (e : Setting) (place : ℕ) (c : StandingCall) (n : Standing) (entries : List Entry) (there : slice_get s.calls.calls place ≡ Some c) (stands : c.call.standing ≡ Some n) (listed : is_listed c ≡ true) where
  abbrev GoesOn : Input → Type 0
  GoesOn input = (x : Effect) → x ≡ takes s e entries None None place input None → (ms : List Message) → AreMessages x.plan.sends ms → after.calls.calls ≡ x.calls.standing.calls
      → GoOn (ShowsCall after.table.slots (begun ++ more) (t ++ passed k None ms)) after.calls.calls t old None ms

  pub timer_goes_on : (input : Input) (signal : Signal) → due_signal input ≡ Some signal → GoesOn input
  timer_goes_on input signal is x eq ms are calls =
      let due = due_input c.call input signal is in
      takes_go_on reads describes law keep s after begun more t old k before later e place c n input signal None None there stands listed due.of due.can None [] ms tt (λ bye. refl)
      (again_none reads s begun sent t None known was (λ m none. absurd (none-some m none)) e (without_offer None None) place c (call_row c.call input s.calls.pool e.now).description n.offerer there)
      (λ d j at shows. due_signals s e place c (call_row c.call input s.calls.pool e.now).description begun t n d signal knows (record { there = there; stands = stands; shows = shows }) due.due) tt
      (subst (λ (y : Effect). AreMessages y.plan.sends ms) eq are) (calls ∙ ap (λ (y : Effect). y.calls.standing.calls) eq)

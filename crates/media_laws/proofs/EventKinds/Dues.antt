-- A timer that is due: a call takes it, or what the transactions do by themselves moves none.
use Rattle.std.proofs.Common.{List, None, Some, [], ap, subst, ℕ, ◌++◌, ◌∙◌, ◌≡◌}
use Rattle.events.specs.declared.sent.Sent.{Sent}
use Rattle.transactions.specs.declared.change.Entry.{Entry}
use Rattle.transactions.specs.declared.transaction.Transaction.{Transaction}
use Rattle.call_core.specs.declared.input.Input.{Input}
use Rattle.plans.specs.CallRows.{takes}
use Rattle.plans.specs.Effect.{Effect}
use Rattle.plans.specs.Office.{Office}
use Rattle.plans.specs.declared.setting.Setting.{Setting}
use Rattle.call_trace.specs.declared.call.Call.{Call}
use Rattle.call_trace.specs.declared.datagram.Datagram.{Datagram}
use Rattle.call_trace.specs.declared.datagram.Message.{Message}
use Rattle.call_trace.specs.Events.{passed}
use Rattle.message_laws.specs.Messages.{AreMessages}
use Rattle.media_laws.specs.Shows.{ShowsCall}
use Rattle.media_laws.specs.Steps.{GoOn, IsAfter, StandsShown, due_signal}
use Rattle.media_laws.proofs.EndTags.Timers.{due_input}
use Rattle.call_core.specs.declared.signal.Signal.{Signal}
use Rattle.media_laws.specs.Known.{IsTied}
use Rattle.media_laws.proofs.EventKinds.Laws.{Laws}
use Rattle.media_laws.proofs.EventKinds.HiddenInputs.{hidden_times}
use Rattle.media_laws.proofs.EndTags.Timers.{due_input, timer_goes_on}
use Rattle.media_laws.proofs.Copies.TransactionMoves.{nothing_move}
use Rattle.media_laws.proofs.EventKinds.CallInputs.{shown, takes_goes, ties}

module _ (laws : Laws) (s after : Office) (begun more : List Transaction) (sent : List Sent) (t : List Datagram) (old : List Call) (k : ℕ) (tied : IsTied s begun sent t old k) (later : IsAfter s after (begun ++ more)) (ms : List Message) where
  abbrev pub Goes : Type 0
  Goes = GoOn (ShowsCall after.table.slots (begun ++ more) (t ++ passed k None ms)) after.calls.calls t old None ms

  abbrev shows : StandsShown s begun t old k
  shows = shown laws s after begun more sent t old k tied later None ms

  pub due_goes : (e : Setting) (entries : List Entry) (place : ℕ) (input : Input) (signal : Signal) → due_signal input ≡ Some signal → (x : Effect) → x ≡ takes s e entries None None place input None → AreMessages x.plan.sends ms
      → after.calls.calls ≡ x.calls.standing.calls → Goes
  due_goes e entries place input signal is x eq are calls =
      takes_goes laws s after begun more sent t old k tied later None ms e place input None None (λ c there. (due_input c.call input signal is).can) (nothing_move t old [] tt)
      (λ c n there stands listed. timer_goes_on laws.reads laws.describes laws.sent laws.keep s after begun more sent t old k shows later tied.known.trace tied.known.again tied.known.legs e place c n entries there stands listed input signal is x eq ms are calls)
      (λ c n there stands unlisted. hidden_times laws.reads laws.names laws.describes laws.sent laws.keep s after begun more sent t old k shows later (ties laws s after begun more sent t old k tied later None ms) tied.known.legs e place c n entries there stands unlisted input signal is x eq ms are calls)
      (subst (λ (y : Effect). AreMessages y.plan.sends ms) eq are) (calls ∙ ap (λ (y : Effect). y.calls.standing.calls) eq)

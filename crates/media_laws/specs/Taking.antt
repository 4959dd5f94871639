-- A call of the server's that takes a signal, next to the call of the trace that shows it: what a line of its table
-- asks for.
use Rattle.std.specs.Prelude.{◌≡◌, ℕ, Bool, true, false, List, Option, Some, slice_get}
use Rattle.transactions.specs.declared.transaction.Transaction.{Transaction}
use Rattle.call_core.specs.declared.signal.Signal.{Signal}
use Rattle.call_core.specs.declared.signal.Signal.TheVariants as signals
use Rattle.call_core.specs.declared.stage.Standing.{Standing}
use Rattle.calls.specs.declared.standing_call.StandingCall.{StandingCall}
use Rattle.call_messages.specs.declared.scene.Scene.{Scene}
use Rattle.plans.specs.Office.{Office}
use Rattle.call_trace.specs.declared.call.Call.{Call}
use Rattle.call_trace.specs.declared.datagram.Datagram.{Datagram}
use Rattle.call_trace.specs.declared.datagram.Message.{Message}
use Rattle.message_laws.specs.CalleeDialogs.{KnowsCallees}
use Rattle.message_laws.specs.Sound.{KnowsDialogs}
use Rattle.media_laws.specs.Inputs.{IsAwaitedBy, Took}
use Rattle.media_laws.specs.Lines.{HasLegs, IsAt}
use Rattle.media_laws.specs.Shows.{ShowsCall}
use Rattle.media_laws.specs.Coming.{KnowsNumbersLeft}

-- ---- the call

-- it is at this place, and the trace lists it
pub record IsShownAt (s : Office) (begun : List Transaction) (t : List Datagram) (place : ℕ) (c : StandingCall) (n : Standing) (d : Call) : Type 0 where
  pub there : slice_get s.calls.calls place ≡ Some c
  pub stands : c.call.standing ≡ Some n
  pub shows : ShowsCall s.table.slots begun t c d

-- what is known of the dialogs of the calls: each leads to an address and has a number left for a BYE, and who was
-- answered has both (RFC 3261 sections 12.1 and 12.2.1.1)
pub record KnowsLegs (s : Office) : Type 0 where
  pub dialogs : KnowsDialogs s
  pub callees : KnowsCallees s
  pub left : KnowsNumbersLeft s

-- ---- the signal

-- a line of the table can take it
pub record TakesSignal (n : Standing) (scene : Scene) (d : Call) (taken : Option Message) (signal : Signal) : Type 0 where
  pub at : IsAt n.offerer n.stage d
  pub legs : HasLegs n.stage scene d signal
  pub took : Took taken scene d signal
  pub awaited : IsAwaitedBy n.stage signal

-- one of a timer: of the call's own, or of a request that has no final response in time (section 17.1)
abbrev pub is_due_signal : Signal → Bool
is_due_signal (signals.Offer end method) = false
is_due_signal (signals.Provisional status) = false
is_due_signal signals.FitAnswer = false
is_due_signal signals.UnfitAnswer = false
is_due_signal (signals.Refusal status) = false
is_due_signal signals.TimedOut = true
is_due_signal signals.Ack = false
is_due_signal signals.Cancel = false
is_due_signal (signals.Bye end) = false
is_due_signal signals.Limit = true
is_due_signal signals.Repeat = true
is_due_signal signals.Wait = true
is_due_signal signals.Lifetime = true

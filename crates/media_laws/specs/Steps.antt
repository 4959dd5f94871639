-- How a call goes on in a step that takes no offer and no fit answer, in what a trace shows of it.
use Rattle.std.specs.Prelude.{◌≡◌, ◌⊎◌, true, false, Option, Some, None, ℕ, List, remove, slice_set}
use Rattle.sip_message.specs.declared.message.Parts.{Parts}
use Rattle.call_core.specs.Calls.{awaits_answer}
use Rattle.call_core.specs.CallRows.{is_fit}
use Rattle.call_core.specs.Plans.{Step}
use Rattle.call_core.specs.Table.{row_of}
use Rattle.call_core.specs.declared.call.Call.{Call as ServerCall}
use Rattle.call_core.specs.declared.input.Input.{Input}
use Rattle.call_core.specs.declared.input.Input.TheVariants as inputs
use Rattle.call_core.specs.declared.signal.Signal.{Signal}
use Rattle.call_core.specs.declared.signal.Signal.TheVariants as signals
use Rattle.call_core.specs.declared.stage.Standing.{Standing}
use Rattle.call_rules.specs.Responses.{is_open}
use Rattle.calls.specs.declared.standing_call.StandingCall.{StandingCall}
use Rattle.media_laws.specs.Going.{KeepsDialogs}
use Rattle.call_trace.specs.declared.call.Call.{Call}
use Rattle.call_trace.specs.declared.datagram.Datagram.{Datagram}
use Rattle.call_trace.specs.declared.datagram.Message.{Message}
use Rattle.call_trace.specs.Messages.{offering}
use Rattle.call_trace.specs.Moves.{Move}
use Rattle.media_laws.specs.Lines.{actions_in, next_in}
use Rattle.media_laws.specs.Listing.{Listed}
use Rattle.media_laws.specs.Shows.{ShowsCall}
use Rattle.std.specs.List.{All}
use Rattle.transactions.specs.declared.transaction.Transaction.{Transaction}
use Rattle.plans.specs.Office.{Office}
use Rattle.call_trace.specs.Lives.{Stands}
use Rattle.message_laws.specs.Askers.{KeepsAsked}
use Rattle.message_laws.specs.Numbers.{KnowsNumbers}
use Rattle.message_laws.specs.OpenRequests.{HasAsked}
use Rattle.message_laws.specs.Comings.{KnowsScenes}
use Rattle.message_laws.specs.Serving.{AreStaged}

-- the signal that the call sees of an input; of an offer none, nor of an answer that is fit
abbrev pub IsSignalOf : ServerCall → Input → Signal → Type 0
IsSignalOf c (inputs.Offer end method offer) signal = ⊥
IsSignalOf c (inputs.Provisional status) signal = signal ≡ signals.Provisional status
IsSignalOf c (inputs.Answer answer) signal = (is_fit c c.media.offer answer ≡ false) × (signal ≡ signals.UnfitAnswer)
IsSignalOf c (inputs.Refusal status) signal = signal ≡ signals.Refusal status
IsSignalOf c inputs.TimedOut signal = signal ≡ signals.TimedOut
IsSignalOf c inputs.Ack signal = signal ≡ signals.Ack
IsSignalOf c inputs.Cancel signal = signal ≡ signals.Cancel
IsSignalOf c (inputs.Bye end) signal = signal ≡ signals.Bye end
IsSignalOf c inputs.Limit signal = signal ≡ signals.Limit
IsSignalOf c inputs.Repeat signal = signal ≡ signals.Repeat
IsSignalOf c inputs.Wait signal = signal ≡ signals.Wait
IsSignalOf c inputs.Lifetime signal = signal ≡ signals.Lifetime

-- that of a timer: of the call's own, or of its request that has no final response in time
abbrev pub due_signal : Input → Option Signal
due_signal inputs.TimedOut = Some signals.TimedOut
due_signal inputs.Limit = Some signals.Limit
due_signal inputs.Repeat = Some signals.Repeat
due_signal inputs.Wait = Some signals.Wait
due_signal inputs.Lifetime = Some signals.Lifetime
due_signal input = None

-- its session and its open offer are kept, or given up
pub record KeepsMedia (c new : ServerCall) : Type 0 where
  pub session : (new.media.session ≡ c.media.session) ⊎ (new.media.session ≡ None)
  pub offer : (new.media.offer ≡ c.media.offer) ⊎ (new.media.offer ≡ None)

-- the result: what the line of the signal says and leads to, in the earlier dialogs
pub record IsSignalStep (c : ServerCall) (n : Standing) (signal : Signal) (step : Step) : Type 0 where
  pub actions : step.actions ≡ actions_in (row_of n signal)
  pub next : step.call.standing ≡ next_in n (row_of n signal)
  pub media : KeepsMedia c step.call
  pub caller : step.call.caller ≡ c.caller
  pub callee : step.call.callee ≡ c.callee

-- the requests that carry its open offer are the earlier ones
abbrev pub OpensAlike : StandingCall → StandingCall → Type 0
OpensAlike c new = (parts : Parts) → is_open parts new ≡ is_open parts c

-- the call in its place, which goes on here
pub record GoesOnAt (c new : StandingCall) (next : Option Standing) : Type 0 where
  pub standing : new.call.standing ≡ next
  pub dialogs : KeepsDialogs c new
  pub media : KeepsMedia c.call new.call
  pub asked : new.asked ≡ c.asked
  pub opens : (n m : Standing) → c.call.standing ≡ Some n → next ≡ Some m → m.offerer ≡ n.offerer → awaits_answer n.stage ≡ true → awaits_answer m.stage ≡ true → OpensAlike c new

-- the calls afterwards: it is put in its place where it still has a stage, and otherwise it is gone
abbrev pub calls_after : List StandingCall → ℕ → StandingCall → Option Standing → List StandingCall
calls_after calls place new None = remove calls place
calls_after calls place new (Some next) = slice_set calls place new

-- the result for the calls of the trace: this move leads to calls that show the current ones afterwards
abbrev pub GoOn : (StandingCall → Call → Type 0) → List StandingCall → List Datagram → List Call → Option Message → List Message → Type 0
GoOn shows after t old taken sent = (calls : List Call) × Move offering t old taken sent calls × Listed shows after calls

-- ---- before an event, and after it

-- the trace's calls show the server's, which have begun the requests of their open offers, and whose media are as their
-- stages ask
pub record StandsShown (s : Office) (begun : List Transaction) (t : List Datagram) (old : List Call) (k : ℕ) : Type 0 where
  pub listed : Listed (ShowsCall s.table.slots begun t) s.calls.calls old
  pub asked : All (HasAsked begun) s.calls.calls
  pub stands : Stands offering old k t
  pub staged : AreStaged s
  pub scenes : KnowsScenes s

-- the requests of open offers were kept, and the numbers of what was begun rise
pub record IsAfter (s after : Office) (begun : List Transaction) : Type 0 where
  pub numbers : KnowsNumbers after begun
  pub keeps : All (KeepsAsked s.table.slots after.table.slots) after.calls.calls
  pub staged : AreStaged after

-- What is kept after any events of an agent: of the trace of them, and of the calls of that trace.
use Rattle.std.specs.FinMap.{get}
use Rattle.std.specs.Prelude.{◌≡◌, true, false, ℕ, List, Option, Some, option_map, ◌⊎◌}
use Rattle.call_trace.specs.declared.call.Call.{Call}
use Rattle.call_trace.specs.declared.datagram.Datagram.{Datagram}
use Rattle.call_trace.specs.declared.datagram.Dialog.{Dialog}
use Rattle.call_trace.specs.Calls.{Open}
use Rattle.call_trace.specs.Lives.{Stands}
use Rattle.call_trace.specs.Messages.{offering}
use Rattle.call_trace.specs.Listed.{AllOf, AnyOf}
use Rattle.call_trace.specs.Promise.{EachMeets, MediaPromise}
use Rattle.call_trace.specs.Promised.{Promised}
use Rattle.call_trace.specs.Serving.{Hop, IsLiveSession, IsPairOf, TablePromise, places_of}
use Rattle.call_trace.specs.declared.call.Session.{Session}
use Rattle.call_core.specs.Calls.{awaits_answer, holds_in}
use Rattle.call_media.specs.Sessions.{pairs_listed}
use Rattle.port_pool.specs.Holdings.{even_of, is_among}
use Rattle.port_pool.specs.RelayTable.{Rows}
use Rattle.calls.specs.declared.standing_call.StandingCall.{StandingCall}
use Rattle.plans.specs.Office.{Office}
use Rattle.message_laws.specs.Serving.{call_numbered, trace_table}
use Rattle.message_laws.specs.Traced.{holder_by}
use Rattle.media_laws.specs.Listing.{Listed}
use Rattle.media_laws.specs.Shows.{ShowsCall, ShowsCallee}
use Rattle.trace_reading.specs.Message.{dialog_named}
use Rattle.transactions.specs.declared.transaction.Transaction.{Transaction}

-- the dialog with the caller, as a trace names it
abbrev pub dialog_with_caller : StandingCall → Dialog
dialog_with_caller c = dialog_named c.call.caller.id

-- and the one with the callee, once there is one
abbrev pub dialog_with_callee : StandingCall → Option Dialog
dialog_with_callee c = option_map (λ d. dialog_named d.id) c.call.callee

-- The calls stand after the trace of this many events and show those of the agent, which began these transactions.
-- The whole media promise holds of them: with the agent's address, its relay table, and the holders of its ports.
pub record KeepsPromise (s : Office) (begun : List Transaction) (t : List Datagram) (calls : List Call) (k : ℕ) : Type 0 where
  pub stands : Stands offering calls k t
  pub shown : Listed (ShowsCall s.table.slots begun t) s.calls.calls calls
  pub promised : Promised offering s.range.ip (trace_table s.calls.pool) (holder_by dialog_with_caller s) calls t

-- some calls do
abbrev pub HasPromisedCalls : Office → List Datagram → ℕ → Type 0
HasPromisedCalls s t k = (begun : List Transaction) × (calls : List Call) × KeepsPromise s begun t calls k

-- ---- what the calls of an agent that stands after a trace give

-- the relay table, as a trace has it
abbrev pub table_of : Rows → ℕ → Option Hop
table_of rows port = option_map (λ h. record { to = h.to; from = h.from }) (get rows port)

-- The two legs of each live call mean, joined by these rows, what its ends said to each other mean directly, while no
-- offer is open and while one is; and the table has the rows of the live calls, and no other (RFC 3264).
pub record RelaysLive (server : List ℕ) (table : Rows) (t : List Datagram) : Type 0 where
  pub media : MediaPromise offering server (places_of (table_of table)) t
  pub each : EachMeets offering server (places_of (table_of table)) t
  pub rows : TablePromise offering (table_of table) t

-- the dialog is the call's with its caller, or with its callee; before the callee has a tag, that has the server's tag
-- and no other
abbrev pub IsDialogOf : Dialog → StandingCall → Type 0
IsDialogOf d c = (dialog_with_caller c ≡ d) ⊎ ShowsCallee c.callee_tag c.call.callee d

-- in none of its dialogs an offer is open
abbrev pub IsQuiet : List Datagram → StandingCall → Type 0
IsQuiet t c = (d : Dialog) → IsDialogOf d c → ¬ Open offering t d

-- The pair of a port is held by the call of this number, which is current; where a live call names the pair, it is
-- that one; and while no offer is open in the trace, in the dialogs of the call that holds it, or the call awaits no
-- answer, its session has the pair.
pub record HoldsFor (calls : List StandingCall) (t : List Datagram) (port : ℕ) (number : Option ℕ) : Type 0 where
  pub listed : (n : ℕ) → number ≡ Some n → AnyOf (λ c. c.call.number ≡ n) calls
  pub pairs : (caller callee : Dialog) (s : Session) → IsLiveSession offering t caller callee s → IsPairOf port s → option_map dialog_with_caller (call_numbered calls number) ≡ Some caller
  pub alone : AllOf (λ c. holds_in awaits_answer c.call.standing ≡ false → number ≡ Some c.call.number → is_among (pairs_listed c.call.media.session) (even_of port) ≡ true) calls
  pub quiet : AllOf (λ c. IsQuiet t c → number ≡ Some c.call.number → is_among (pairs_listed c.call.media.session) (even_of port) ≡ true) calls

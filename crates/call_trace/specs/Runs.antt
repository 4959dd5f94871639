-- Many events: the trace that they make, and what they do to the calls.
use Rattle.std.specs.Prelude.{◌≡◌, ℕ, suc, List, [], ◌∷◌, ◌++◌, Option}
use Rattle.call_trace.specs.declared.datagram.Message.{Message}
use Rattle.call_trace.specs.declared.datagram.Datagram.{Datagram}
use Rattle.call_trace.specs.declared.call.Call.{Call}
use Rattle.call_trace.specs.Exchanges.{At}
use Rattle.call_trace.specs.Events.{passed}
use Rattle.call_trace.specs.Moves.{Move}

-- what an event took, if it took a datagram, and what it sent
pub record Event : Type 0 where
  pub taken : Option Message
  pub sent : List Message

-- the datagrams of these events, the first of which is event n
abbrev pub trace_from : ℕ → List Event → List Datagram
trace_from n [] = []
trace_from n (e ∷ es) = passed n e.taken e.sent ++ trace_from (suc n) es

-- the messages of the trace are read from their bytes
abbrev pub AreRead : (List ℕ → Message) → List Datagram → Type 0
AreRead seen t = (i : ℕ) (p : Datagram) → At t i p → p.message ≡ seen p.message.bytes

-- each event is a move, after the trace of those before it
abbrev pub Moves : List (List ℕ) → ℕ → List Datagram → List Call → List Event → List Call → Type 0
Moves methods n t old [] new = old ≡ new
Moves methods n t old (e ∷ es) new = (next : List Call) × Move methods t old e.taken e.sent next × Moves methods (suc n) (t ++ passed n e.taken e.sent) next es new

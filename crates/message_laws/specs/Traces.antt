-- The trace of an agent's events: for each one what it took, and after it what it sent.
use Rattle.std.specs.Prelude.{◌≡◌, ℕ, suc, List, [], ◌∷◌, ◌++◌, Option, Some, None}
use Rattle.event_rows.specs.Trace.{Entry}
use Rattle.call_trace.specs.declared.datagram.Datagram.{Datagram}
use Rattle.call_trace.specs.declared.datagram.Message.{Message as TraceMessage}
use Rattle.call_trace.specs.Events.{passed}
use Rattle.events.specs.declared.event.What.{What}
use Rattle.events.specs.declared.event.What.TheVariants as whats
use Rattle.events.specs.declared.sent.Sent.{Sent}
use Rattle.plans.specs.declared.taken.Taken.{Taken}
use Rattle.plans.specs.declared.taken.Taken.TheVariants.{Done, Dropped, Idle, Shed}
use Rattle.message_laws.specs.Messages.{AreMessages, IsTakenOf}

-- What an event that is answered so took: of a datagram that the agent took up its message; of one that counts as not
-- come, of a timer, of silence and of a list of users, nothing.
abbrev pub IsTaken : What → Taken → Option TraceMessage → Type 0
IsTaken (whats.Datagram source bytes) Done taken = IsTakenOf bytes taken
IsTaken (whats.Datagram source bytes) (Dropped why) taken = taken ≡ None
IsTaken (whats.Datagram source bytes) Shed taken = taken ≡ None
IsTaken (whats.Datagram source bytes) Idle taken = taken ≡ None
IsTaken whats.Due answer taken = taken ≡ None
IsTaken (whats.Silent number) answer taken = taken ≡ None
IsTaken (whats.Users users) answer taken = taken ≡ None

-- what an event that had this answer took and sent
pub record IsPassed (what : What) (answer : Taken) (sends : List Sent) (taken : Option TraceMessage) (sent : List TraceMessage) : Type 0 where
  pub took : IsTaken what answer taken
  pub went : AreMessages sends sent

-- and one that was lost
pub record IsUnshown (taken : Option TraceMessage) (sent : List TraceMessage) : Type 0 where
  pub took : taken ≡ None
  pub went : sent ≡ []

abbrev pub IsShownWith : Option Taken → What → List Sent → Option TraceMessage → List TraceMessage → Type 0
IsShownWith None what sends taken sent = IsUnshown taken sent
IsShownWith (Some answer) what sends taken sent = IsPassed what answer sends taken sent

-- what an entry shows in the trace: what its event took, and what was sent
pub record IsShown (x : Entry) (taken : Option TraceMessage) (sent : List TraceMessage) : Type 0 where
  pub shown : IsShownWith x.answer x.event.what x.sends taken sent

-- what is first in the trace, event n, and after it the rest
pub record StandsFirst (n : ℕ) (x : Entry) (taken : Option TraceMessage) (sent : List TraceMessage) (t rest : List Datagram) : Type 0 where
  pub shown : IsShown x taken sent
  pub whole : t ≡ passed n taken sent ++ rest

-- the trace of these entries, of which the first is event n
abbrev pub AreTrace : ℕ → List Entry → List Datagram → Type 0
AreTrace n [] t = t ≡ []
AreTrace n (x ∷ xs) t = (taken : Option TraceMessage) × (sent : List TraceMessage) × (rest : List Datagram) × StandsFirst n x taken sent t rest × AreTrace (suc n) xs rest

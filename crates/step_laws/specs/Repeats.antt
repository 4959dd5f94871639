-- What a step sends for an event that no call takes: what went before, or nothing.
use Rattle.std.specs.Prelude.{◌≡◌, ◌⊎◌, ◌==◌, ◌≤◌, ℕ, true, List, [], find, Some, None, option_map}
use Rattle.sip_uri.specs.declared.uri.Addr.{Addr}
use Rattle.sip_message.specs.declared.message.Message.{Message}
use Rattle.sip_message.specs.declared.message.Request.{Request}
use Rattle.sip_message.specs.declared.message.Response.{Response}
use Rattle.timers.specs.Queue.{first_due}
use Rattle.timers.specs.declared.timers.Timer.{Timer}
use Rattle.transactions.specs.Contents.{reception_of}
use Rattle.transactions.specs.Slots.{at, is_answered, is_asked}
use Rattle.transactions.specs.Transactions.{outgoing}
use Rattle.transactions.specs.declared.outcome.Verdict.{Verdict}
use Rattle.transactions.specs.declared.transaction.TimerId.{TimerId}
use Rattle.transactions.specs.declared.transaction.Transaction.{Transaction}
use Rattle.events.specs.declared.event.Event.{Event}
use Rattle.events.specs.declared.event.What.TheVariants as whats
use Rattle.events.specs.declared.sent.Sent.{Sent}
use Rattle.calls.specs.declared.timer_id.CallTimerId.{CallTimerId}
use Rattle.event_rows.specs.Rows.{only_counts}
use Rattle.event_rows.specs.State.{Contents, moment_at}
use Rattle.plans.specs.CallRows.{again}
use Rattle.plans.specs.Effect.{Effect}
use Rattle.plans.specs.Plan.{goes}
use Rattle.plans.specs.declared.acks.KeptAck.{KeptAck}
use Rattle.plans.specs.declared.taken.Taken.TheVariants.{Done}
use Rattle.step_laws.specs.Coming.{Comes}

-- ---- what comes

-- a message of this kind, of which the transactions say this (RFC 3261 sections 17.1.3 and 17.2.3)
pub record Finds (s : Contents) (event : Event) (source : Addr) (bytes : List ℕ) (m : Message) (verdict : Verdict) : Type 0 where
  pub comes : Comes s event source bytes m
  pub says : (reception_of s.table m).verdict ≡ verdict

-- this timer of a transaction is due, and none before it
pub record TimerIsDue (s : Contents) (event : Event) (timer : Timer TimerId) : Type 0 where
  pub due : event.what ≡ whats.Due
  pub counts : only_counts s event ≡ None
  pub first : first_due s.table.timers (moment_at s event.now) ≡ Some timer
  pub before : (other : Timer CallTimerId) → first_due s.calls.timers (moment_at s event.now) ≡ Some other → timer.at ≤ other.at

-- ---- what goes

-- the event is done, and these datagrams go
pub record SendsJust (datagrams : List Sent) (x : Effect) : Type 0 where
  pub taken : x.plan.taken ≡ Done
  pub sends : x.plan.sends ≡ datagrams

-- the bytes that the transaction sent last, to the address where its messages go
abbrev pub last_of : Transaction → List Sent
last_of t = goes (option_map (outgoing t.place) t.last)

-- the transaction of the request is live, and sends that again (sections 17.2.1 and 17.2.2)
pub record RespondsAgain (s : Contents) (r : Request) (x : Effect) : Type 0 where
  pub id : ℕ
  pub first : Transaction
  pub stands : at s.table.slots id ≡ Some first
  pub copies : is_asked r.parts (Some first) ≡ true
  pub again : SendsJust (last_of first) x

-- the transaction whose request it responds to is live, and sends again what it sent last, or nothing (section
-- 17.1.1.2)
pub record GoesAgainOrNothing (s : Contents) (r : Response) (x : Effect) : Type 0 where
  pub id : ℕ
  pub asked : Transaction
  pub stands : at s.table.slots id ≡ Some asked
  pub responds : is_answered r.parts (Some asked) ≡ true
  pub again : SendsJust [] x ⊎ SendsJust (last_of asked) x

-- that of the timer does
pub record FiresAgain (s : Contents) (timer : Timer TimerId) (x : Effect) : Type 0 where
  pub asked : Transaction
  pub stands : at s.table.slots timer.key.id ≡ Some asked
  pub again : SendsJust (last_of asked) x

-- the ACK that is kept for the INVITE of this transaction (section 13.2.2.4)
abbrev pub ack_kept : Contents → ℕ → List Sent
ack_kept s id = again (find (λ (ack : KeptAck). ack.id == id) s.acks)

-- Changes of the table for which all is at hand that takes memory, and what they do together.
use Rattle.std.specs.Prelude.{◌≡◌, ℕ, ◌+◌, ◌==◌, Bool, false, not, IsTrue, List, [], ◌∷◌, codes, Option, Some, None, option_and_then, position, if◌then◌else◌}
use Rattle.sip_uri.specs.declared.uri.Addr.{Addr}
use Rattle.sip_message.specs.declared.message.Message.{Message}
use Rattle.sip_message.specs.declared.message.Message.TheVariants as Kinds
use Rattle.sip_message.specs.declared.message.Request.{Request}
use Rattle.sip_message.specs.declared.message.Response.{Response}
use Rattle.sip_writing.specs.Writing.{message_text}
use Rattle.transactions.specs.declared.change.Entry.{Entry}
use Rattle.transactions.specs.declared.change.Entry.TheVariants.{Opens, Tells, Answers, Leaves}
use Rattle.transaction_machines.specs.declared.input.Input.{Input}
use Rattle.transaction_machines.specs.declared.input.Input.TheVariants as inputs
use Rattle.transaction_machines.specs.declared.step.Starts.{Starts}
use Rattle.transaction_machines.specs.declared.step.Starts.TheVariants.{NoTimer, One, Two}
use Rattle.transaction_machines.specs.declared.step.Step.{Step}
use Rattle.transactions.specs.declared.transaction.TimerId.{TimerId}
use Rattle.transactions.specs.declared.transaction.Transaction.{Transaction}
use Rattle.transactions.specs.Contents.{Contents, table_at, opened, input_of, response_input, ack_at}
use Rattle.sip_message.specs.Words.{class_of, is_method}
use Rattle.transaction_machines.specs.Lines.{is_answer, starts_with_lines}
use Rattle.transactions.specs.Fireable.{has_sent}
use Rattle.transaction_machines.specs.Machines.{row_of}
use Rattle.transactions.specs.Slots.{at, free_number, is_asked, is_answered}
use Rattle.transaction_machines.specs.Steps.{IsShort}
use Rattle.transactions.specs.Transactions.{served, asking, asking_timers}

-- the table after a change. A transaction's input is looked up now: where it has no line, nothing is done
abbrev pub entered : ℕ → Contents → Entry → Contents
entered now table (Opens t starts) = opened table t starts now
entered now table (Tells id input fresh) = table_at table id (at table.slots id) input fresh now
entered now table (Answers id class bytes) = table_at table id (at table.slots id) (inputs.Answer class) (Some bytes) now
entered now table Leaves = table

-- the table after all of them, in order
abbrev pub entered_all : ℕ → Contents → List Entry → Contents
entered_all now table [] = table
entered_all now table (change ∷ changes) = entered_all now (entered now table change) changes

-- ---- what makes a change

-- a message: one of no transaction begins one, unless it is an ACK or a response
abbrev pub request_change : Request → Addr → Option ℕ → Entry
request_change r source None = if is_method (codes "ACK") r.parts then Leaves else Opens (served r source) NoTimer
request_change r source (Some id) = Tells id (input_of r.parts) None

abbrev pub response_change : Contents → Response → Option ℕ → Entry
response_change table r None = Leaves
response_change table r (Some id) = Tells id (response_input r) (ack_at (at table.slots id) r)

unfoldable pub change_of : Contents → Message → Addr → Entry
change_of table (Kinds.Request r) source = request_change r source (position (is_asked r.parts) table.slots)
change_of table (Kinds.Response r) source = response_change table r (position (is_answered r.parts) table.slots)

-- the table after a message
unfoldable pub after_message : Contents → Message → Addr → ℕ → Contents
after_message table message source now = entered now table (change_of table message source)

-- a request of the server's own, with its bytes. An ACK belongs to no transaction: it begins none (RFC 3261 section
-- 17.1.1.3)
abbrev pub start_with : Request → Addr → List ℕ → Entry
start_with r to bytes = if is_method (codes "ACK") r.parts then Leaves else Opens (asking r to bytes) (asking_timers r.parts)

abbrev pub start_of : Request → Addr → Entry
start_of r to = start_with r to (message_text (Kinds.Request r))

abbrev pub after_start : Contents → Request → Addr → ℕ → Contents
after_start table r to now = entered now table (start_of r to)

-- the number of the transaction that a request of the server's own begins
abbrev pub started_number : Contents → Request → Option ℕ
started_number table r = if is_method (codes "ACK") r.parts then None else Some (free_number table.slots)

abbrev pub answer_of : ℕ → Response → Entry
answer_of id r = Answers id (class_of r.status) (message_text (Kinds.Response r))

abbrev pub fire_of : TimerId → Entry
fire_of timer = Tells timer.id (inputs.Fires timer.kind) None

-- ---- what a change is to have

-- the timers of its state, and bytes where it repeats
pub record OpensReady (t : Transaction) (starts : Starts) : Type 0 where
  pub short : IsShort starts
  pub lines : IsTrue (starts_with_lines t.state starts)
  pub sent : IsTrue (has_sent (Some t))

abbrev pub IsReady : Entry → Type 0
IsReady (Opens t starts) = OpensReady t starts
IsReady (Tells id input fresh) = is_answer input ≡ false
IsReady (Answers id class bytes) = Unit {0}
IsReady Leaves = Unit {0}

-- ---- the room that a change takes

abbrev pub starts_count : Starts → ℕ
starts_count NoTimer = 0
starts_count (One s) = 1
starts_count (Two s t) = 2

abbrev pub step_timers : Option Step → ℕ
step_timers None = 0
step_timers (Some step) = starts_count step.starts

abbrev pub line_timers : List (Option Transaction) → ℕ → Input → ℕ
line_timers slots id input = step_timers (option_and_then (λ t. row_of t.state input) (at slots id))

abbrev pub timers_of : List (Option Transaction) → Entry → ℕ
timers_of slots (Opens t starts) = starts_count starts
timers_of slots (Tells id input fresh) = line_timers slots id input
timers_of slots (Answers id class bytes) = line_timers slots id (inputs.Answer class)
timers_of slots Leaves = 0

abbrev pub places_of : Entry → ℕ
places_of (Opens t starts) = 1
places_of (Tells id input fresh) = 0
places_of (Answers id class bytes) = 0
places_of Leaves = 0

-- the change takes room
abbrev pub needs_room : List (Option Transaction) → Entry → Bool
needs_room slots change = not (places_of change + timers_of slots change == 0)

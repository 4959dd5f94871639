-- The table of transactions, and what each call does to it.
use Rattle.std.specs.Prelude.{◌≡◌, ℕ, ◌≤◌, Bool, true, false, not, ◌&&◌, ◌||◌, List, [], ◌∷◌, ◌++◌, length, codes, Option, Some, None, option_map, option_and_then, is_some, position, slice_set, nat_lt, nat_le, if◌then◌else◌}
use Rattle.std.specs.List.{list_any}
use Rattle.index.specs.declared.print.PrintKey.{PrintKey}
use Rattle.timers.specs.declared.timers.Timer.{Timer}
use Rattle.timers.specs.Queue.{moment}
use Rattle.sip_message.specs.declared.message.Message.{Message}
use Rattle.sip_message.specs.declared.message.Message.TheVariants as Kinds
use Rattle.sip_message.specs.declared.message.Parts.{Parts}
use Rattle.sip_message.specs.declared.message.Request.{Request}
use Rattle.sip_message.specs.declared.message.Response.{Response}
use Rattle.sip_writing.specs.Writing.{message_text}
use Rattle.transactions.specs.declared.error.TableError.{TableError}
use Rattle.transactions.specs.declared.error.TableError.TheVariants.{OutOfMemory, Unknown, AfterFinal, Full}
use Rattle.transaction_machines.specs.declared.input.Input.{Input}
use Rattle.transaction_machines.specs.declared.input.Input.TheVariants as inputs
use Rattle.transaction_machines.specs.declared.input.TimerKind.{TimerKind}
use Rattle.transactions.specs.declared.outcome.Fired.{Fired}
use Rattle.transactions.specs.declared.outcome.Fired.TheVariants as fires
use Rattle.transactions.specs.declared.outcome.Outgoing.{Outgoing}
use Rattle.transactions.specs.declared.outcome.Reception.{Reception}
use Rattle.transactions.specs.declared.outcome.Verdict.{Verdict}
use Rattle.transactions.specs.declared.outcome.Verdict.TheVariants as verdicts
use Rattle.transaction_machines.specs.declared.step.Sending.{Sending}
use Rattle.transaction_machines.specs.declared.step.Sending.TheVariants.{Nothing, Again, Fresh}
use Rattle.transaction_machines.specs.declared.step.Starts.{Starts}
use Rattle.transaction_machines.specs.declared.step.Told.{Told}
use Rattle.transaction_machines.specs.declared.step.Told.TheVariants.{Silent, Up, TimedOut, Ended}
use Rattle.transaction_machines.specs.declared.step.Step.{Step}
use Rattle.transactions.specs.declared.rules.TableRules.{TableRules}
use Rattle.transactions.specs.declared.transaction.TimerId.{TimerId}
use Rattle.transactions.specs.declared.transaction.Transaction.{Transaction}
use Rattle.transactions.specs.SameBranch.{ack_of}
use Rattle.sip_message.specs.Words.{class_of, is_method, tag_value}
use Rattle.transaction_machines.specs.Lines.{starts_none}
use Rattle.transaction_machines.specs.Machines.{row_of}
use Rattle.transactions.specs.Slots.{at, free_number, is_asked, is_answered, is_merged, is_serving}
use Rattle.transactions.specs.Timing.{same_timer, stopped_by, started}
use Rattle.transactions.specs.Transactions.{went, sent, outgoing}
use Rattle.transactions.specs.Waiting.{starts_within}

-- Place i of the slots has the transaction with the number i. The timers are in the order in which they are due, each
-- key once: that is what `next`, `first_due` and `timer_count` say of every table. The key is that of the prints under
-- which transactions are looked up; it never changes.
pub record Contents : Type 0 where
  pub slots : List (Option Transaction)
  pub timers : List (Timer TimerId)
  pub rules : TableRules
  pub key : PrintKey

-- ---- a step, and a new transaction

-- the table after transaction id, which is t, took a step
abbrev pub stepped : Contents → ℕ → Transaction → Step → Option (List ℕ) → ℕ → Contents
stepped table id t step fresh now = record {
  slots = slice_set table.slots id (option_map (went t fresh) step.next);
  timers = started (stopped_by table.timers id step.stops) id step.starts now;
  rules = table.rules;
  key = table.key;
}

abbrev pub stepped_by : Contents → ℕ → Transaction → Option (List ℕ) → ℕ → Option Step → Contents
stepped_by table id t fresh now None = table
stepped_by table id t fresh now (Some step) = stepped table id t step fresh now

-- the table after an input to transaction id
abbrev pub table_at : Contents → ℕ → Option Transaction → Input → Option (List ℕ) → ℕ → Contents
table_at table id None input fresh now = table
table_at table id (Some t) input fresh now = stepped_by table id t fresh now (row_of t.state input)

-- what an input does to transaction id, where there is one
abbrev pub line_in : List (Option Transaction) → ℕ → Input → Option Step
line_in slots id input = option_and_then (λ t. row_of t.state input) (at slots id)

abbrev pub line_at : Contents → ℕ → Input → Option Step
line_at table id input = line_in table.slots id input

-- a line that sends something, or starts a timer, takes memory. No other does: so an ending timer is never refused
abbrev pub sends : Sending → Bool
sends Nothing = false
sends Again = true
sends Fresh = true

abbrev pub takes_memory : Option Step → Bool
takes_memory None = false
takes_memory (Some step) = sends step.send || not (starts_none step.starts)

-- the slots with a transaction at a place, which may be one past the last
abbrev pub placed : List (Option Transaction) → ℕ → Transaction → List (Option Transaction)
placed slots id t = if nat_lt id (length slots) then slice_set slots id (Some t) else slots ++ Some t ∷ []

-- the table with a new transaction, under the least number that is free, and with these timers of its own
abbrev pub placed_with : Contents → Transaction → Starts → ℕ → Contents
placed_with table t starts now = record {
  slots = placed table.slots (free_number table.slots) t;
  timers = started table.timers (free_number table.slots) starts now;
  rules = table.rules;
  key = table.key;
}

-- the same, where an INVITE that begins a dialog is given up sooner
abbrev pub opened : Contents → Transaction → Starts → ℕ → Contents
opened table t starts now = placed_with table t (starts_within table.rules.first_wait t.parts starts) now

-- ---- a message comes

-- a copy of a request that gets its response again
abbrev pub repeat_by : Input → Sending → Verdict
repeat_by inputs.Repeat Again = verdicts.Repeat
repeat_by input sending = verdicts.Swallowed

abbrev pub upward : ℕ → Told → Verdict → Verdict
upward id Up other = verdicts.Up id
upward id Silent other = other
upward id TimedOut other = other
upward id Ended other = other

abbrev pub verdict_by : ℕ → Input → Sending → Told → Verdict
verdict_by id input sending told = upward id told (repeat_by input sending)

abbrev pub stray : Reception
stray = record { verdict = verdicts.Stray; before = None; send = None }

-- a message that has no line is swallowed
abbrev pub reception_by : ℕ → Transaction → Input → Option (List ℕ) → Option Step → Reception
reception_by id t input fresh None = record { verdict = verdicts.Swallowed; before = Some t.state; send = None }
reception_by id t input fresh (Some step) =
    record { verdict = verdict_by id input step.send step.told; before = Some t.state; send = sent t fresh step.send }

abbrev pub reception_at : ℕ → Option Transaction → Input → Option (List ℕ) → Reception
reception_at id None input fresh = stray
reception_at id (Some t) input fresh = reception_by id t input fresh (row_of t.state input)

-- a request of a transaction comes again, or its ACK does
abbrev pub input_of : Parts → Input
input_of parts = if is_method (codes "ACK") parts then inputs.Ack else inputs.Repeat

-- a request that belongs to no transaction begins one, unless it is an ACK
abbrev pub begun : Contents → Parts → Reception
begun table parts =
    if is_method (codes "ACK") parts then stray
    else record { verdict = verdicts.New (free_number table.slots); before = None; send = None }

abbrev pub request_reception : Contents → Request → Option ℕ → Reception
request_reception table r None = begun table r.parts
request_reception table r (Some id) = reception_at id (at table.slots id) (input_of r.parts) None

-- the ACK to a response, where the line of the table sends one
abbrev pub ack_for : Transaction → Response → Sending → Option (List ℕ)
ack_for t r Nothing = None
ack_for t r Again = None
ack_for t r Fresh = option_map (λ ack. message_text (Kinds.Request ack)) (ack_of t.uri t.parts r.parts)

abbrev pub ack_by : Transaction → Response → Option Step → Option (List ℕ)
ack_by t r None = None
ack_by t r (Some step) = ack_for t r step.send

abbrev pub response_input : Response → Input
response_input r = inputs.Response (class_of r.status)

abbrev pub ack_at : Option Transaction → Response → Option (List ℕ)
ack_at None r = None
ack_at (Some t) r = ack_by t r (row_of t.state (response_input r))

abbrev pub response_reception : Contents → Response → Option ℕ → Reception
response_reception table r None = stray
response_reception table r (Some id) = reception_at id (at table.slots id) (response_input r) (ack_at (at table.slots id) r)

-- what a message is answered
unfoldable pub reception_of : Contents → Message → Reception
reception_of table (Kinds.Request r) = request_reception table r (position (is_asked r.parts) table.slots)
reception_of table (Kinds.Response r) = response_reception table r (position (is_answered r.parts) table.slots)

abbrev pub IsNew : Verdict → Type 0
IsNew (verdicts.New id) = Unit {0}
IsNew verdicts.Repeat = ⊥
IsNew verdicts.Swallowed = ⊥
IsNew (verdicts.Up id) = ⊥
IsNew verdicts.Stray = ⊥

-- a message takes memory where it begins a transaction, or where its line does
abbrev pub request_takes : Contents → Request → Option ℕ → Bool
request_takes table r None = not (is_method (codes "ACK") r.parts)
request_takes table r (Some id) = takes_memory (line_at table id (input_of r.parts))

abbrev pub response_takes : Contents → Response → Option ℕ → Bool
response_takes table r None = false
response_takes table r (Some id) = takes_memory (line_at table id (response_input r))

unfoldable pub message_takes : Contents → Message → Bool
message_takes table (Kinds.Request r) = request_takes table r (position (is_asked r.parts) table.slots)
message_takes table (Kinds.Response r) = response_takes table r (position (is_answered r.parts) table.slots)

-- ---- the core asks, answers and abandons

abbrev pub answer_input : Response → Input
answer_input r = inputs.Answer (class_of r.status)

abbrev pub after_answer : Contents → ℕ → Response → ℕ → Contents
after_answer table id r now = table_at table id (at table.slots id) (answer_input r) (Some (message_text (Kinds.Response r))) now

-- what is sent for a response
abbrev pub answer_sent : Contents → ℕ → Response → Option Outgoing
answer_sent table id r = option_map (λ t. outgoing t.place (message_text (Kinds.Response r))) (at table.slots id)

-- which response is refused, and why
abbrev pub RefusesAnswer : Contents → ℕ → Response → TableError → Type 0
RefusesAnswer table id r OutOfMemory = Unit {0}
RefusesAnswer table id r Unknown = is_serving (at table.slots id) ≡ false
RefusesAnswer table id r AfterFinal = (is_serving (at table.slots id) ≡ true) × (line_at table id (answer_input r) ≡ None)
RefusesAnswer table id r Full = ⊥

abbrev pub after_abandon : Contents → ℕ → ℕ → Contents
after_abandon table id now = table_at table id (at table.slots id) inputs.Abandon None now

-- only the client transaction of an INVITE before its final response is abandoned
abbrev pub RefusesAbandon : Contents → ℕ → TableError → Type 0
RefusesAbandon table id OutOfMemory = Unit {0}
RefusesAbandon table id Unknown = line_at table id inputs.Abandon ≡ None
RefusesAbandon table id AfterFinal = ⊥
RefusesAbandon table id Full = ⊥

-- ---- a timer fires

abbrev pub fired_by : Told → Option Outgoing → Option Fired
fired_by TimedOut send = Some fires.TimedOut
fired_by Ended send = Some fires.Ended
fired_by Silent send = option_map fires.Send send
fired_by Up send = option_map fires.Send send

abbrev pub fired_step : Transaction → Option Step → Option Fired
fired_step t None = None
fired_step t (Some step) = fired_by step.told (sent t None step.send)

-- what a timer of a transaction does
abbrev pub fired_of : Option Transaction → TimerKind → Option Fired
fired_of None kind = None
fired_of (Some t) kind = fired_step t (row_of t.state (inputs.Fires kind))

abbrev pub after_fire : Contents → TimerId → ℕ → Contents
after_fire table timer now = table_at table timer.id (at table.slots timer.id) (inputs.Fires timer.kind) None now

abbrev pub has_come : ℕ → Option ℕ → Bool
has_come now None = false
has_come now (Some at) = nat_le at now

-- the timer is set, and its moment has come
abbrev pub is_due : Contents → TimerId → ℕ → Bool
is_due table timer now = has_come now (moment same_timer table.timers timer)

-- which timer is refused, and why
abbrev pub RefusesFire : Contents → TimerId → ℕ → TableError → Type 0
RefusesFire table timer now OutOfMemory = takes_memory (line_at table timer.id (inputs.Fires timer.kind)) ≡ true
RefusesFire table timer now Unknown = is_due table timer now ≡ false
RefusesFire table timer now AfterFinal = ⊥
RefusesFire table timer now Full = ⊥

-- ---- questions

-- another server transaction, in any state, has the tag of From, Call-ID, number and method of a request without tag
-- in To
abbrev pub merged : Contents → Parts → Bool
merged table parts = not (is_some (tag_value parts.to.params)) && list_any (is_merged parts) table.slots

-- A change that takes room is of a message that takes memory.
use Rattle.std.proofs.Common.{◌≡◌, ◌+◌, ◌==◌, ◌||◌, ℕ, Bool, true, false, cond, not, List, codes, Option, Some, None, position, refl, subst, arith}
use Rattle.std.proofs.lemmas.Bool.{false≢true}
use Rattle.sip_uri.specs.declared.uri.Addr.{Addr}
use Rattle.sip_message.specs.declared.message.Message.{Message}
use Rattle.sip_message.specs.declared.message.Message.TheVariants as Kinds
use Rattle.sip_message.specs.declared.message.Request.{Request}
use Rattle.sip_message.specs.declared.message.Response.{Response}
use Rattle.sip_message.specs.Words.{is_method}
use Rattle.transaction_machines.specs.declared.step.Starts.{Starts}
use Rattle.transaction_machines.specs.declared.step.Starts.TheVariants.{NoTimer, One, Two}
use Rattle.transaction_machines.specs.declared.step.Step.{Step}
use Rattle.transaction_machines.specs.Lines.{starts_none}
use Rattle.transactions.specs.declared.change.Entry.TheVariants.{Opens, Leaves}
use Rattle.transactions.specs.declared.transaction.Transaction.{Transaction}
use Rattle.transactions.specs.Slots.{is_asked, is_answered}
use Rattle.transactions.specs.Transactions.{served}
use Rattle.transactions.specs.Contents.{Contents, line_at, input_of, response_input, sends, takes_memory, request_takes, response_takes, message_takes}
use Rattle.transactions.specs.Changes.{request_change, response_change, change_of, starts_count, step_timers, needs_room}

or_true : (b : Bool) → (b || true) ≡ true
or_true true = refl
or_true false = refl

by_starts : (b : Bool) (s : Starts) → not (starts_count s == 0) ≡ true → (b || not (starts_none s)) ≡ true
by_starts b NoTimer h = absurd (false≢true h)
by_starts b (One s) h = or_true b
by_starts b (Two s t) h = or_true b

line_takes : (line : Option Step) → not (step_timers line == 0) ≡ true → takes_memory line ≡ true
line_takes None h = absurd (false≢true h)
line_takes (Some step) h = by_starts (sends step.send) step.starts h

zero : (n : ℕ) → 0 + n ≡ n
zero n = omega arith

told_takes : (line : Option Step) → not (0 + step_timers line == 0) ≡ true → takes_memory line ≡ true
told_takes line h = line_takes line (subst (λ n. not (n == 0) ≡ true) (zero (step_timers line)) h)

begun_takes : (slots : List (Option Transaction)) (t : Transaction) (ack : Bool) → needs_room slots (cond ack Leaves (Opens t NoTimer)) ≡ true → not ack ≡ true
begun_takes slots t true h = absurd (false≢true h)
begun_takes slots t false h = refl

request_room : (table : Contents) (r : Request) (source : Addr) (number : Option ℕ) → needs_room table.slots (request_change r source number) ≡ true → request_takes table r number ≡ true
request_room table r source None h = begun_takes table.slots (served r source) (is_method (codes "ACK") r.parts) h
request_room table r source (Some id) h = told_takes (line_at table id (input_of r.parts)) h

response_room : (table : Contents) (r : Response) (number : Option ℕ) → needs_room table.slots (response_change table r number) ≡ true → response_takes table r number ≡ true
response_room table r None h = absurd (false≢true h)
response_room table r (Some id) h = told_takes (line_at table id (response_input r)) h

pub message_room : (table : Contents) (message : Message) (source : Addr) → needs_room table.slots (change_of table message source) ≡ true → message_takes table message ≡ true
unfolding change_of message_takes
message_room table (Kinds.Request r) source h = request_room table r source (position (is_asked r.parts) table.slots) h
message_room table (Kinds.Response r) source h = response_room table r (position (is_answered r.parts) table.slots) h

-- Lists of calls of the table.
use Rattle.std.specs.Prelude.{ℕ, ◌==◌, ◌&&◌, Bool, false, List, [], ◌∷◌, Option, Some, None, option_map, position, is_none}
use Rattle.sip_uri.specs.declared.uri.Addr.{Addr}
use Rattle.sip_message.specs.declared.message.Message.{Message}
use Rattle.sip_message.specs.declared.message.Message.TheVariants as Kinds
use Rattle.sip_message.specs.declared.message.Request.{Request}
use Rattle.sip_message.specs.declared.message.Response.{Response}
use Rattle.transaction_machines.specs.declared.input.Input.{Input}
use Rattle.transaction_machines.specs.declared.input.Input.TheVariants as inputs
use Rattle.transaction_machines.specs.declared.step.Step.{Step}
use Rattle.transactions.specs.declared.transaction.TimerId.{TimerId}
use Rattle.transactions.specs.declared.transaction.Transaction.{Transaction}
use Rattle.transaction_machines.specs.Machines.{row_of}
use Rattle.transactions.specs.Slots.{is_asked, is_answered}
use Rattle.transactions.specs.Contents.{Contents, after_answer, after_abandon, after_fire, input_of, response_input, answer_input}
use Rattle.transactions.specs.Changes.{after_message, after_start}

-- A call that was done. One that was refused, or that only asks, leaves the table.
pub data Call : Type 0 where
  Receive : Message → Addr → ℕ → Call
  Start : Request → Addr → ℕ → Call
  Answer : ℕ → Response → ℕ → Call
  Abandon : ℕ → ℕ → Call
  Fire : TimerId → ℕ → Call
  Leave : Call

-- the table after a call
abbrev pub after : Contents → Call → Contents
after table (Receive message source now) = after_message table message source now
after table (Start r to now) = after_start table r to now
after table (Answer id r now) = after_answer table id r now
after table (Abandon id now) = after_abandon table id now
after table (Fire timer now) = after_fire table timer now
after table Leave = table

abbrev pub after_all : Contents → List Call → Contents
after_all table [] = table
after_all table (call ∷ calls) = after_all (after table call) calls

-- the input that a transaction gets
pub record Notice : Type 0 where
  pub id : ℕ
  pub input : Input

abbrev pub tells : Input → ℕ → Notice
tells input id = record { id = id; input = input }

-- which transaction a call tells, and what
abbrev pub noticed : Contents → Call → Option Notice
noticed table (Receive (Kinds.Request r) source now) = option_map (tells (input_of r.parts)) (position (is_asked r.parts) table.slots)
noticed table (Receive (Kinds.Response r) source now) = option_map (tells (response_input r)) (position (is_answered r.parts) table.slots)
noticed table (Start r to now) = None
noticed table (Answer id r now) = Some (tells (answer_input r) id)
noticed table (Abandon id now) = Some (tells inputs.Abandon id)
noticed table (Fire timer now) = Some (tells (inputs.Fires timer.kind) timer.id)
noticed table Leave = None

abbrev pub is_end : Option Step → Bool
is_end None = false
is_end (Some step) = is_none step.next

-- the line of the input that a call gives ends transaction id
abbrev pub is_ended : Transaction → ℕ → Option Notice → Bool
is_ended t id None = false
is_ended t id (Some notice) = notice.id == id && is_end (row_of t.state notice.input)

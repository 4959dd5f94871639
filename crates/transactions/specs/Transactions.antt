-- One transaction: how it begins, goes on, and what it sends.
use Rattle.std.specs.Prelude.{ℕ, false, List, codes, Option, Some, None, option_map, if◌then◌else◌}
use Rattle.sip_uri.specs.declared.uri.Addr.{Addr}
use Rattle.sip_message.specs.declared.message.Parts.{Parts}
use Rattle.sip_message.specs.declared.message.Request.{Request}
use Rattle.sip_writing.specs.Reply.{response_address}
use Rattle.transaction_machines.specs.declared.input.TimerKind.TheVariants as letter
use Rattle.transaction_machines.specs.declared.invite_client.InviteClient.TheVariants.{Calling}
use Rattle.transaction_machines.specs.declared.invite_server.InviteServer.TheVariants as invite
use Rattle.transaction_machines.specs.declared.other_client.OtherClient.TheVariants as asked
use Rattle.transaction_machines.specs.declared.other_server.OtherServer.TheVariants as other
use Rattle.transactions.specs.declared.outcome.Outgoing.{Outgoing}
use Rattle.transaction_machines.specs.declared.state.State.{State}
use Rattle.transaction_machines.specs.declared.state.State.TheVariants as machine
use Rattle.transaction_machines.specs.declared.step.Sending.{Sending}
use Rattle.transaction_machines.specs.declared.step.Sending.TheVariants.{Nothing, Again, Fresh}
use Rattle.transaction_machines.specs.declared.step.Starts.{Starts}
use Rattle.transaction_machines.specs.declared.step.Starts.TheVariants.{Two}
use Rattle.transactions.specs.declared.transaction.Transaction.{Transaction}
use Rattle.sip_message.specs.Words.{is_method}
use Rattle.transaction_machines.specs.Steps.{timer, t1, timeout}

-- ---- a request of another

abbrev pub served_state : Parts → State
served_state parts = if is_method (codes "INVITE") parts then machine.InviteServer invite.Proceeding else machine.OtherServer other.Trying

-- its answers go where the answers to the first copy go
abbrev pub served : Request → Addr → Transaction
served r source = record { uri = r.uri; parts = r.parts; state = served_state r.parts; place = response_address r.parts.vias source; last = None }

-- ---- a request of the server's own

abbrev pub asking_state : Parts → State
asking_state parts = if is_method (codes "INVITE") parts then machine.InviteClient (Calling t1 false) else machine.OtherClient (asked.Trying t1)

abbrev pub asking : Request → Addr → List ℕ → Transaction
asking r to bytes = record { uri = r.uri; parts = r.parts; state = asking_state r.parts; place = to; last = Some bytes }

-- A before B, and E before F
abbrev pub asking_timers : Parts → Starts
asking_timers parts =
    if is_method (codes "INVITE") parts then Two (timer letter.A t1) (timer letter.B timeout) else Two (timer letter.E t1) (timer letter.F timeout)

-- ---- a step

abbrev pub latest : Option (List ℕ) → Option (List ℕ) → Option (List ℕ)
latest None last = last
latest (Some fresh) last = Some fresh

-- the transaction in its next state. What was new is what it sends again
abbrev pub went : Transaction → Option (List ℕ) → State → Transaction
went t fresh state = record { uri = t.uri; parts = t.parts; state = state; place = t.place; last = latest fresh t.last }

abbrev pub outgoing : Addr → List ℕ → Outgoing
outgoing place bytes = record { to = place; bytes = bytes }

-- what is sent: nothing, what was sent last, or what is fresh
abbrev pub sent : Transaction → Option (List ℕ) → Sending → Option Outgoing
sent t fresh Nothing = None
sent t fresh Again = option_map (outgoing t.place) t.last
sent t fresh Fresh = option_map (outgoing t.place) fresh

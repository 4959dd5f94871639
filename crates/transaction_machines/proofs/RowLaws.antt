-- What each line of the machines keeps.
use Rattle.std.proofs.Common.{◌≡◌, Bool, true, false, Option, refl}
use Rattle.std.specs.Prelude.{IfSome}
use Rattle.sip_message.specs.declared.words.Class.TheVariants.{Provisional, Success, Failure}
use Rattle.transaction_machines.specs.declared.input.Input.{Input}
use Rattle.transaction_machines.specs.declared.input.Input.TheVariants.{Repeat, Ack, Answer, Response, Abandon, Fires}
use Rattle.transaction_machines.specs.declared.input.TimerKind.{TimerKind}
use Rattle.transaction_machines.specs.declared.input.TimerKind.TheVariants.{A, B, D, E, F, G, H, I, J, K, L, M, N}
use Rattle.transaction_machines.specs.declared.invite_client.InviteClient.{InviteClient}
use Rattle.transaction_machines.specs.declared.invite_client.InviteClient.TheVariants as client
use Rattle.transaction_machines.specs.declared.invite_server.InviteServer.{InviteServer}
use Rattle.transaction_machines.specs.declared.invite_server.InviteServer.TheVariants as server
use Rattle.transaction_machines.specs.declared.other_client.OtherClient.{OtherClient}
use Rattle.transaction_machines.specs.declared.other_client.OtherClient.TheVariants as asked
use Rattle.transaction_machines.specs.declared.other_server.OtherServer.{OtherServer}
use Rattle.transaction_machines.specs.declared.other_server.OtherServer.TheVariants as served
use Rattle.transaction_machines.specs.declared.state.State.{State}
use Rattle.transaction_machines.specs.declared.state.State.TheVariants as machine
use Rattle.transaction_machines.specs.declared.step.Sending.{Sending}
use Rattle.transaction_machines.specs.declared.step.Sending.TheVariants.{Nothing, Again, Fresh}
use Rattle.transaction_machines.specs.declared.step.Step.{Step}
use Rattle.transaction_machines.specs.declared.step.Told.{Told}
use Rattle.transaction_machines.specs.declared.step.Told.TheVariants.{Silent, Up, TimedOut, Ended}
use Rattle.transaction_machines.specs.InviteClient.{invite_client_row}
use Rattle.transaction_machines.specs.InviteServer.{invite_server_row}
use Rattle.transaction_machines.specs.OtherClient.{other_client_row}
use Rattle.transaction_machines.specs.OtherServer.{other_server_row}
use Rattle.transaction_machines.specs.Machines.{row_of}
use Rattle.transaction_machines.specs.Lines.{follows, is_answer, repeats}

-- each line by itself. What has none has nothing to keep
pub invite_client_follows : (state : InviteClient) (input : Input)
    → IfSome (invite_client_row state input) (λ step. follows (machine.InviteClient state) (is_answer input) step ≡ true)
unfolding row_of invite_client_row follows
invite_client_follows (client.Calling interval false) (Fires A) = refl
invite_client_follows (client.Calling interval true) (Fires A) = refl
invite_client_follows (client.Calling interval false) (Fires B) = refl
invite_client_follows (client.Calling interval true) (Fires B) = refl
invite_client_follows (client.Calling interval false) (Response Provisional) = refl
invite_client_follows (client.Calling interval true) (Response Provisional) = refl
invite_client_follows client.Proceeding (Response Provisional) = refl
invite_client_follows (client.Calling interval false) (Response Success) = refl
invite_client_follows (client.Calling interval true) (Response Success) = refl
invite_client_follows client.Proceeding (Response Success) = refl
invite_client_follows client.Accepted (Response Success) = refl
invite_client_follows client.Accepted (Fires M) = refl
invite_client_follows (client.Calling interval false) (Response Failure) = refl
invite_client_follows (client.Calling interval true) (Response Failure) = refl
invite_client_follows client.Proceeding (Response Failure) = refl
invite_client_follows client.Completed (Response Failure) = refl
invite_client_follows client.Completed (Fires D) = refl
invite_client_follows (client.Calling interval false) Abandon = refl
invite_client_follows (client.Calling interval true) Abandon = refl
invite_client_follows client.Proceeding Abandon = refl
invite_client_follows (client.Calling interval false) (Fires N) = refl
invite_client_follows (client.Calling interval true) (Fires N) = refl
invite_client_follows client.Proceeding (Fires N) = refl
invite_client_follows state input = tt

pub invite_server_follows : (state : InviteServer) (input : Input)
    → IfSome (invite_server_row state input) (λ step. follows (machine.InviteServer state) (is_answer input) step ≡ true)
unfolding row_of invite_server_row follows
invite_server_follows server.Proceeding Repeat = refl
invite_server_follows server.Proceeding (Answer Provisional) = refl
invite_server_follows server.Proceeding (Answer Success) = refl
invite_server_follows server.Accepted (Answer Success) = refl
invite_server_follows server.Accepted Ack = refl
invite_server_follows server.Accepted (Fires L) = refl
invite_server_follows server.Proceeding (Answer Failure) = refl
invite_server_follows (server.Completed interval) Repeat = refl
invite_server_follows (server.Completed interval) (Fires G) = refl
invite_server_follows (server.Completed interval) (Fires H) = refl
invite_server_follows (server.Completed interval) Ack = refl
invite_server_follows server.Confirmed (Fires I) = refl
invite_server_follows state input = tt

pub other_client_follows : (state : OtherClient) (input : Input)
    → IfSome (other_client_row state input) (λ step. follows (machine.OtherClient state) (is_answer input) step ≡ true)
unfolding row_of other_client_row follows
other_client_follows (asked.Trying interval) (Fires E) = refl
other_client_follows (asked.Trying interval) (Fires F) = refl
other_client_follows (asked.Trying interval) (Response Provisional) = refl
other_client_follows asked.Proceeding (Response Provisional) = refl
other_client_follows asked.Proceeding (Fires E) = refl
other_client_follows asked.Proceeding (Fires F) = refl
other_client_follows (asked.Trying interval) (Response Success) = refl
other_client_follows (asked.Trying interval) (Response Failure) = refl
other_client_follows asked.Proceeding (Response Success) = refl
other_client_follows asked.Proceeding (Response Failure) = refl
other_client_follows asked.Completed (Fires K) = refl
other_client_follows state input = tt

pub other_server_follows : (state : OtherServer) (input : Input)
    → IfSome (other_server_row state input) (λ step. follows (machine.OtherServer state) (is_answer input) step ≡ true)
unfolding row_of other_server_row follows
other_server_follows served.Trying (Answer Provisional) = refl
other_server_follows served.Trying (Answer Success) = refl
other_server_follows served.Trying (Answer Failure) = refl
other_server_follows served.Proceeding Repeat = refl
other_server_follows served.Proceeding (Answer Provisional) = refl
other_server_follows served.Proceeding (Answer Success) = refl
other_server_follows served.Proceeding (Answer Failure) = refl
other_server_follows served.Completed Repeat = refl
other_server_follows served.Completed (Fires J) = refl
other_server_follows state input = tt

pub row_follows : (state : State) (input : Input) → IfSome (row_of state input) (λ step. follows state (is_answer input) step ≡ true)
unfolding row_of
row_follows (machine.InviteClient state) input = invite_client_follows state input
row_follows (machine.InviteServer state) input = invite_server_follows state input
row_follows (machine.OtherClient state) input = other_client_follows state input
row_follows (machine.OtherServer state) input = other_server_follows state input

-- ---- a timer with a line does something

-- what a line of a timer does: it ends the transaction, or sends again where something was sent
abbrev pub fires_by : State → Told → Sending → Bool
fires_by state TimedOut send = true
fires_by state Ended send = true
fires_by state Up send = false
fires_by state Silent Nothing = false
fires_by state Silent Fresh = false
fires_by state Silent Again = repeats state

abbrev FiresWell : State → Option Step → Type 0
FiresWell state line = IfSome line (λ step. fires_by state step.told step.send ≡ true)

invite_client_fires : (state : InviteClient) (kind : TimerKind) → FiresWell (machine.InviteClient state) (invite_client_row state (Fires kind))
unfolding invite_client_row
invite_client_fires (client.Calling interval abandoned) A = refl
invite_client_fires (client.Calling interval false) B = refl
invite_client_fires (client.Calling interval true) B = refl
invite_client_fires (client.Calling interval abandoned) N = refl
invite_client_fires client.Proceeding N = refl
invite_client_fires client.Completed D = refl
invite_client_fires client.Accepted M = refl
invite_client_fires state kind = tt

invite_server_fires : (state : InviteServer) (kind : TimerKind) → FiresWell (machine.InviteServer state) (invite_server_row state (Fires kind))
unfolding invite_server_row
invite_server_fires (server.Completed interval) G = refl
invite_server_fires (server.Completed interval) H = refl
invite_server_fires server.Confirmed I = refl
invite_server_fires server.Accepted L = refl
invite_server_fires state kind = tt

other_client_fires : (state : OtherClient) (kind : TimerKind) → FiresWell (machine.OtherClient state) (other_client_row state (Fires kind))
unfolding other_client_row
other_client_fires (asked.Trying interval) E = refl
other_client_fires (asked.Trying interval) F = refl
other_client_fires asked.Proceeding E = refl
other_client_fires asked.Proceeding F = refl
other_client_fires asked.Completed K = refl
other_client_fires state kind = tt

other_server_fires : (state : OtherServer) (kind : TimerKind) → FiresWell (machine.OtherServer state) (other_server_row state (Fires kind))
unfolding other_server_row
other_server_fires served.Completed J = refl
other_server_fires state kind = tt

pub row_fires : (state : State) (kind : TimerKind) → FiresWell state (row_of state (Fires kind))
unfolding row_of
row_fires (machine.InviteClient state) kind = invite_client_fires state kind
row_fires (machine.InviteServer state) kind = invite_server_fires state kind
row_fires (machine.OtherClient state) kind = other_client_fires state kind
row_fires (machine.OtherServer state) kind = other_server_fires state kind

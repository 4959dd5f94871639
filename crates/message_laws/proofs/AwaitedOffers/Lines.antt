-- What a line of a machine does to a transaction that waits.
use Rattle.std.proofs.Common.{◌≡◌, Bool, true, false, not, ◌||◌, Option, Some, None, is_none, refl}
use Rattle.sip_message.specs.declared.words.Class.TheVariants.{Provisional, Success, Failure}
use Rattle.transaction_machines.specs.declared.input.Input.{Input}
use Rattle.transaction_machines.specs.declared.input.Input.TheVariants.{Response, Abandon, Fires, Repeat, Ack, Answer}
use Rattle.transaction_machines.specs.declared.input.TimerKind.TheVariants.{A, B, D, E, F, G, H, I, J, K, L, M, N}
use Rattle.transaction_machines.specs.declared.invite_client.InviteClient.{InviteClient}
use Rattle.transaction_machines.specs.declared.invite_client.InviteClient.TheVariants as clients
use Rattle.transaction_machines.specs.declared.invite_server.InviteServer.{InviteServer}
use Rattle.transaction_machines.specs.declared.invite_server.InviteServer.TheVariants as servers
use Rattle.transaction_machines.specs.declared.other_client.OtherClient.{OtherClient}
use Rattle.transaction_machines.specs.declared.other_client.OtherClient.TheVariants as others
use Rattle.transaction_machines.specs.declared.other_server.OtherServer.{OtherServer}
use Rattle.transaction_machines.specs.declared.other_server.OtherServer.TheVariants as served
use Rattle.transaction_machines.specs.declared.state.State.{State}
use Rattle.transaction_machines.specs.declared.state.State.TheVariants as machine
use Rattle.transaction_machines.specs.declared.step.Step.{Step}
use Rattle.transaction_machines.specs.declared.step.Told.{Told}
use Rattle.transaction_machines.specs.declared.step.Told.TheVariants.{Silent, Up, TimedOut, Ended}
use Rattle.transaction_machines.specs.InviteClient.{invite_client_row}
use Rattle.transaction_machines.specs.InviteServer.{invite_server_row}
use Rattle.transaction_machines.specs.OtherClient.{other_client_row}
use Rattle.transaction_machines.specs.OtherServer.{other_server_row}
use Rattle.transaction_machines.specs.Machines.{row_of}
use Rattle.message_laws.specs.Waiting.{waits}

abbrev pub is_timed_out : Told → Bool
is_timed_out Silent = false
is_timed_out Up = false
is_timed_out TimedOut = true
is_timed_out Ended = false

abbrev pub waits_next : Option State → Bool
waits_next None = false
waits_next (Some state) = waits state

-- what waits afterwards waited before; and where time has run out, the transaction ends
pub record GoesOn (state : State) (step : Step) : Type 0 where
  pub waited : (not (waits_next step.next) || waits state) ≡ true
  pub ends : (not (is_timed_out step.told) || is_none step.next) ≡ true

abbrev pub GoesOnIf : State → Option Step → Type 0
GoesOnIf state None = Unit {0}
GoesOnIf state (Some step) = GoesOn state step

invite_on : (state : InviteClient) (input : Input) → GoesOnIf (machine.InviteClient state) (invite_client_row state input)
unfolding invite_client_row
invite_on (clients.Calling interval false) (Fires A) = record { waited = refl; ends = refl }
invite_on (clients.Calling interval true) (Fires A) = record { waited = refl; ends = refl }
invite_on (clients.Calling interval false) (Fires B) = record { waited = refl; ends = refl }
invite_on (clients.Calling interval true) (Fires B) = record { waited = refl; ends = refl }
invite_on (clients.Calling interval false) (Response Provisional) = record { waited = refl; ends = refl }
invite_on (clients.Calling interval true) (Response Provisional) = record { waited = refl; ends = refl }
invite_on clients.Proceeding (Response Provisional) = record { waited = refl; ends = refl }
invite_on (clients.Calling interval false) (Response Success) = record { waited = refl; ends = refl }
invite_on (clients.Calling interval true) (Response Success) = record { waited = refl; ends = refl }
invite_on clients.Proceeding (Response Success) = record { waited = refl; ends = refl }
invite_on clients.Accepted (Response Success) = record { waited = refl; ends = refl }
invite_on clients.Accepted (Fires M) = record { waited = refl; ends = refl }
invite_on (clients.Calling interval false) (Response Failure) = record { waited = refl; ends = refl }
invite_on (clients.Calling interval true) (Response Failure) = record { waited = refl; ends = refl }
invite_on clients.Proceeding (Response Failure) = record { waited = refl; ends = refl }
invite_on clients.Completed (Response Failure) = record { waited = refl; ends = refl }
invite_on clients.Completed (Fires D) = record { waited = refl; ends = refl }
invite_on (clients.Calling interval false) Abandon = record { waited = refl; ends = refl }
invite_on (clients.Calling interval true) Abandon = record { waited = refl; ends = refl }
invite_on clients.Proceeding Abandon = record { waited = refl; ends = refl }
invite_on (clients.Calling interval false) (Fires N) = record { waited = refl; ends = refl }
invite_on (clients.Calling interval true) (Fires N) = record { waited = refl; ends = refl }
invite_on clients.Proceeding (Fires N) = record { waited = refl; ends = refl }
invite_on state input = tt

server_on : (state : InviteServer) (input : Input) → GoesOnIf (machine.InviteServer state) (invite_server_row state input)
unfolding invite_server_row
server_on servers.Proceeding Repeat = record { waited = refl; ends = refl }
server_on servers.Proceeding (Answer Provisional) = record { waited = refl; ends = refl }
server_on servers.Proceeding (Answer Success) = record { waited = refl; ends = refl }
server_on servers.Accepted (Answer Success) = record { waited = refl; ends = refl }
server_on servers.Accepted Ack = record { waited = refl; ends = refl }
server_on servers.Accepted (Fires L) = record { waited = refl; ends = refl }
server_on servers.Proceeding (Answer Failure) = record { waited = refl; ends = refl }
server_on (servers.Completed interval) Repeat = record { waited = refl; ends = refl }
server_on (servers.Completed interval) (Fires G) = record { waited = refl; ends = refl }
server_on (servers.Completed interval) (Fires H) = record { waited = refl; ends = refl }
server_on (servers.Completed interval) Ack = record { waited = refl; ends = refl }
server_on servers.Confirmed (Fires I) = record { waited = refl; ends = refl }
server_on state input = tt

other_on : (state : OtherClient) (input : Input) → GoesOnIf (machine.OtherClient state) (other_client_row state input)
unfolding other_client_row
other_on (others.Trying interval) (Fires E) = record { waited = refl; ends = refl }
other_on (others.Trying interval) (Fires F) = record { waited = refl; ends = refl }
other_on (others.Trying interval) (Response Provisional) = record { waited = refl; ends = refl }
other_on others.Proceeding (Response Provisional) = record { waited = refl; ends = refl }
other_on others.Proceeding (Fires E) = record { waited = refl; ends = refl }
other_on others.Proceeding (Fires F) = record { waited = refl; ends = refl }
other_on (others.Trying interval) (Response Success) = record { waited = refl; ends = refl }
other_on (others.Trying interval) (Response Failure) = record { waited = refl; ends = refl }
other_on others.Proceeding (Response Success) = record { waited = refl; ends = refl }
other_on others.Proceeding (Response Failure) = record { waited = refl; ends = refl }
other_on others.Completed (Fires K) = record { waited = refl; ends = refl }
other_on state input = tt

served_on : (state : OtherServer) (input : Input) → GoesOnIf (machine.OtherServer state) (other_server_row state input)
unfolding other_server_row
served_on served.Trying (Answer Provisional) = record { waited = refl; ends = refl }
served_on served.Trying (Answer Success) = record { waited = refl; ends = refl }
served_on served.Trying (Answer Failure) = record { waited = refl; ends = refl }
served_on served.Proceeding Repeat = record { waited = refl; ends = refl }
served_on served.Proceeding (Answer Provisional) = record { waited = refl; ends = refl }
served_on served.Proceeding (Answer Success) = record { waited = refl; ends = refl }
served_on served.Proceeding (Answer Failure) = record { waited = refl; ends = refl }
served_on served.Completed Repeat = record { waited = refl; ends = refl }
served_on served.Completed (Fires J) = record { waited = refl; ends = refl }
served_on state input = tt

pub goes_on : (state : State) (input : Input) → GoesOnIf state (row_of state input)
unfolding row_of
goes_on (machine.InviteClient state) input = invite_on state input
goes_on (machine.InviteServer state) input = server_on state input
goes_on (machine.OtherClient state) input = other_on state input
goes_on (machine.OtherServer state) input = served_on state input

-- ---- a final response: what it answered no longer waits

abbrev pub waits_after : State → Option Step → Bool
waits_after state None = waits state
waits_after state (Some step) = waits_next step.next

success_invite : (state : InviteClient) → waits_after (machine.InviteClient state) (invite_client_row state (Response Success)) ≡ false
unfolding invite_client_row
success_invite (clients.Calling interval abandoned) = refl
success_invite clients.Proceeding = refl
success_invite clients.Completed = refl
success_invite clients.Accepted = refl

failure_invite : (state : InviteClient) → waits_after (machine.InviteClient state) (invite_client_row state (Response Failure)) ≡ false
unfolding invite_client_row
failure_invite (clients.Calling interval abandoned) = refl
failure_invite clients.Proceeding = refl
failure_invite clients.Completed = refl
failure_invite clients.Accepted = refl

success_other : (state : OtherClient) → waits_after (machine.OtherClient state) (other_client_row state (Response Success)) ≡ false
unfolding other_client_row
success_other (others.Trying interval) = refl
success_other others.Proceeding = refl
success_other others.Completed = refl

failure_other : (state : OtherClient) → waits_after (machine.OtherClient state) (other_client_row state (Response Failure)) ≡ false
unfolding other_client_row
failure_other (others.Trying interval) = refl
failure_other others.Proceeding = refl
failure_other others.Completed = refl

server_response : (state : InviteServer) (class : _) → invite_server_row state (Response class) ≡ None
unfolding invite_server_row
server_response servers.Proceeding class = refl
server_response (servers.Completed interval) class = refl
server_response servers.Confirmed class = refl
server_response servers.Accepted class = refl

served_response : (state : OtherServer) (class : _) → other_server_row state (Response class) ≡ None
unfolding other_server_row
served_response served.Trying class = refl
served_response served.Proceeding class = refl
served_response served.Completed class = refl

pub success_ends : (state : State) → waits_after state (row_of state (Response Success)) ≡ false
unfolding row_of
success_ends (machine.InviteClient state) = success_invite state
success_ends (machine.InviteServer state) = rw (server_response state Success) refl
success_ends (machine.OtherClient state) = success_other state
success_ends (machine.OtherServer state) = rw (served_response state Success) refl

pub failure_ends : (state : State) → waits_after state (row_of state (Response Failure)) ≡ false
unfolding row_of
failure_ends (machine.InviteClient state) = failure_invite state
failure_ends (machine.InviteServer state) = rw (server_response state Failure) refl
failure_ends (machine.OtherClient state) = failure_other state
failure_ends (machine.OtherServer state) = rw (served_response state Failure) refl

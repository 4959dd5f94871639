-- The client transaction of an INVITE, line by line (RFC 3261 section 17.1.1 with RFC 6026 section 7.2).
use Rattle.std.specs.Prelude.{◌*◌, true, false, Option, None}
use Rattle.sip_message.specs.declared.words.Class.TheVariants.{Provisional, Success, Failure}
use Rattle.transaction_machines.specs.declared.input.Input.{Input}
use Rattle.transaction_machines.specs.declared.input.Input.TheVariants.{Response, Abandon, Fires}
use Rattle.transaction_machines.specs.declared.input.TimerKind.TheVariants.{A, B, D, M, N}
use Rattle.transaction_machines.specs.declared.invite_client.InviteClient.{InviteClient}
use Rattle.transaction_machines.specs.declared.invite_client.InviteClient.TheVariants.{Calling, Proceeding, Completed, Accepted}
use Rattle.transaction_machines.specs.declared.state.State.TheVariants as machine
use Rattle.transaction_machines.specs.declared.step.Sending.TheVariants.{Nothing, Again, Fresh}
use Rattle.transaction_machines.specs.declared.step.Told.TheVariants.{Silent, Up, TimedOut, Ended}
use Rattle.transaction_machines.specs.declared.step.Starts.TheVariants.{NoTimer, One}
use Rattle.transaction_machines.specs.declared.step.Stops.TheVariants as stops
use Rattle.transaction_machines.specs.declared.step.Step.{Step}
use Rattle.transaction_machines.specs.Steps.{line, ended, timer, d_after, after_limit, timeout}

unfoldable pub invite_client_row : InviteClient → Input → Option Step
-- A: the INVITE again, after T1 and then at doubling intervals. B: no response in 64*T1
invite_client_row (Calling interval abandoned) (Fires A) =
    line (machine.InviteClient (Calling (after_limit interval) abandoned)) Again Silent stops.NoTimer (One (timer A (after_limit interval)))
invite_client_row (Calling interval false) (Fires B) = ended TimedOut
-- a provisional response ends the retransmission
invite_client_row (Calling interval abandoned) (Response Provisional) = line (machine.InviteClient Proceeding) Nothing Up stops.Retransmission NoTimer
invite_client_row Proceeding (Response Provisional) = line (machine.InviteClient Proceeding) Nothing Up stops.Retransmission NoTimer
-- a 2xx: Accepted for 64*T1, in which each further 2xx goes up
invite_client_row (Calling interval abandoned) (Response Success) = line (machine.InviteClient Accepted) Nothing Up stops.Every (One (timer M timeout))
invite_client_row Proceeding (Response Success) = line (machine.InviteClient Accepted) Nothing Up stops.Every (One (timer M timeout))
invite_client_row Accepted (Response Success) = line (machine.InviteClient Accepted) Nothing Up stops.NoTimer NoTimer
invite_client_row Accepted (Fires M) = ended Ended
-- a refusal is acknowledged, and so is each copy of it
invite_client_row (Calling interval abandoned) (Response Failure) = line (machine.InviteClient Completed) Fresh Up stops.Every (One (timer D d_after))
invite_client_row Proceeding (Response Failure) = line (machine.InviteClient Completed) Fresh Up stops.Every (One (timer D d_after))
invite_client_row Completed (Response Failure) = line (machine.InviteClient Completed) Again Silent stops.NoTimer NoTimer
invite_client_row Completed (Fires D) = ended Ended
-- the server's own: who abandons the INVITE waits for 64*T1 at most, and whichever of B and N comes first ends it
-- silently
invite_client_row (Calling interval abandoned) Abandon = line (machine.InviteClient (Calling interval true)) Nothing Silent stops.NoTimer (One (timer N timeout))
invite_client_row Proceeding Abandon = line (machine.InviteClient Proceeding) Nothing Silent stops.NoTimer (One (timer N timeout))
invite_client_row (Calling interval true) (Fires B) = ended Ended
invite_client_row (Calling interval abandoned) (Fires N) = ended Ended
invite_client_row Proceeding (Fires N) = ended Ended
invite_client_row state input = None

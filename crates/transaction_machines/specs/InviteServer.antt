-- The server transaction of an INVITE, line by line (RFC 3261 section 17.2.1 with RFC 6026 section 7.1).
use Rattle.std.specs.Prelude.{◌*◌, Option, None}
use Rattle.sip_message.specs.declared.words.Class.TheVariants.{Provisional, Success, Failure}
use Rattle.transaction_machines.specs.declared.input.Input.{Input}
use Rattle.transaction_machines.specs.declared.input.Input.TheVariants.{Repeat, Ack, Answer, Fires}
use Rattle.transaction_machines.specs.declared.input.TimerKind.TheVariants.{G, H, I, L}
use Rattle.transaction_machines.specs.declared.invite_server.InviteServer.{InviteServer}
use Rattle.transaction_machines.specs.declared.invite_server.InviteServer.TheVariants.{Proceeding, Completed, Confirmed, Accepted}
use Rattle.transaction_machines.specs.declared.state.State.TheVariants as machine
use Rattle.transaction_machines.specs.declared.step.Sending.TheVariants.{Nothing, Again, Fresh}
use Rattle.transaction_machines.specs.declared.step.Told.TheVariants.{Silent, Up, TimedOut, Ended}
use Rattle.transaction_machines.specs.declared.step.Starts.TheVariants.{NoTimer, One, Two}
use Rattle.transaction_machines.specs.declared.step.Stops.TheVariants as stops
use Rattle.transaction_machines.specs.declared.step.Step.{Step}
use Rattle.transaction_machines.specs.Steps.{line, ended, timer, t1, t4, after_t2, timeout}

unfoldable pub invite_server_row : InviteServer → Input → Option Step
-- before a final response the INVITE again gets the last provisional response again
invite_server_row Proceeding Repeat = line (machine.InviteServer Proceeding) Again Silent stops.NoTimer NoTimer
invite_server_row Proceeding (Answer Provisional) = line (machine.InviteServer Proceeding) Fresh Silent stops.NoTimer NoTimer
-- a 2xx: Accepted for 64*T1, in which the core repeats it, the INVITE again is swallowed, and an ACK goes up
invite_server_row Proceeding (Answer Success) = line (machine.InviteServer Accepted) Fresh Silent stops.Every (One (timer L timeout))
invite_server_row Accepted (Answer Success) = line (machine.InviteServer Accepted) Fresh Silent stops.NoTimer NoTimer
invite_server_row Accepted Ack = line (machine.InviteServer Accepted) Nothing Up stops.NoTimer NoTimer
invite_server_row Accepted (Fires L) = ended Ended
-- a refusal is sent again after T1 and then at intervals that double up to T2, and on each copy of the INVITE, for
-- 64*T1
invite_server_row Proceeding (Answer Failure) =
    line (machine.InviteServer (Completed t1)) Fresh Silent stops.Every (Two (timer G t1) (timer H timeout))
invite_server_row (Completed interval) Repeat = line (machine.InviteServer (Completed interval)) Again Silent stops.NoTimer NoTimer
invite_server_row (Completed interval) (Fires G) =
    line (machine.InviteServer (Completed (after_t2 interval))) Again Silent stops.NoTimer (One (timer G (after_t2 interval)))
invite_server_row (Completed interval) (Fires H) = ended TimedOut
-- until its ACK comes. Copies of that are absorbed for T4
invite_server_row (Completed interval) Ack = line (machine.InviteServer Confirmed) Nothing Silent stops.Every (One (timer I t4))
invite_server_row Confirmed (Fires I) = ended Ended
invite_server_row state input = None

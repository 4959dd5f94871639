-- The server transaction of a request that is not an INVITE, line by line (RFC 3261 section 17.2.2).
use Rattle.std.specs.Prelude.{◌*◌, Option, None}
use Rattle.sip_message.specs.declared.words.Class.TheVariants.{Provisional, Success, Failure}
use Rattle.transaction_machines.specs.declared.input.Input.{Input}
use Rattle.transaction_machines.specs.declared.input.Input.TheVariants.{Repeat, Answer, Fires}
use Rattle.transaction_machines.specs.declared.input.TimerKind.TheVariants.{J}
use Rattle.transaction_machines.specs.declared.other_server.OtherServer.{OtherServer}
use Rattle.transaction_machines.specs.declared.other_server.OtherServer.TheVariants.{Trying, Proceeding, Completed}
use Rattle.transaction_machines.specs.declared.state.State.TheVariants as machine
use Rattle.transaction_machines.specs.declared.step.Sending.TheVariants.{Again, Fresh}
use Rattle.transaction_machines.specs.declared.step.Told.TheVariants.{Silent, Ended}
use Rattle.transaction_machines.specs.declared.step.Starts.TheVariants.{NoTimer, One}
use Rattle.transaction_machines.specs.declared.step.Stops.TheVariants as stops
use Rattle.transaction_machines.specs.declared.step.Step.{Step}
use Rattle.transaction_machines.specs.Steps.{line, ended, timer, timeout}

-- the final response, which is sent again on each copy of the request for 64*T1
abbrev pub final_answer : Option Step
final_answer = line (machine.OtherServer Completed) Fresh Silent stops.Every (One (timer J timeout))

unfoldable pub other_server_row : OtherServer → Input → Option Step
-- before the first response the request again is swallowed: it has no line
other_server_row Trying (Answer Provisional) = line (machine.OtherServer Proceeding) Fresh Silent stops.NoTimer NoTimer
other_server_row Trying (Answer Success) = final_answer
other_server_row Trying (Answer Failure) = final_answer
-- then it gets the last answer again
other_server_row Proceeding Repeat = line (machine.OtherServer Proceeding) Again Silent stops.NoTimer NoTimer
other_server_row Proceeding (Answer Provisional) = line (machine.OtherServer Proceeding) Fresh Silent stops.NoTimer NoTimer
other_server_row Proceeding (Answer Success) = final_answer
other_server_row Proceeding (Answer Failure) = final_answer
other_server_row Completed Repeat = line (machine.OtherServer Completed) Again Silent stops.NoTimer NoTimer
other_server_row Completed (Fires J) = ended Ended
other_server_row state input = None

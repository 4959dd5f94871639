-- The client transaction of a request that is not an INVITE, line by line (RFC 3261 section 17.1.2).
use Rattle.std.specs.Prelude.{ℕ, Option, None}
use Rattle.sip_message.specs.declared.words.Class.TheVariants.{Provisional, Success, Failure}
use Rattle.transaction_machines.specs.declared.input.Input.{Input}
use Rattle.transaction_machines.specs.declared.input.Input.TheVariants.{Response, Fires}
use Rattle.transaction_machines.specs.declared.input.TimerKind.TheVariants.{E, F, K}
use Rattle.transaction_machines.specs.declared.other_client.OtherClient.{OtherClient}
use Rattle.transaction_machines.specs.declared.other_client.OtherClient.TheVariants.{Trying, Proceeding, Completed}
use Rattle.transaction_machines.specs.declared.state.State.TheVariants as machine
use Rattle.transaction_machines.specs.declared.step.Sending.TheVariants.{Nothing, Again}
use Rattle.transaction_machines.specs.declared.step.Told.TheVariants.{Silent, Up, TimedOut, Ended}
use Rattle.transaction_machines.specs.declared.step.Starts.TheVariants.{NoTimer, One}
use Rattle.transaction_machines.specs.declared.step.Stops.TheVariants as stops
use Rattle.transaction_machines.specs.declared.step.Step.{Step}
use Rattle.transaction_machines.specs.Steps.{line, ended, timer, t2, t4, after_t2}

-- the request again, and once more after this interval
abbrev pub again_after : OtherClient → ℕ → Option Step
again_after state interval = line (machine.OtherClient state) Again Silent stops.NoTimer (One (timer E interval))

-- a final response: copies of it are absorbed for T4
abbrev pub final_answer : Option Step
final_answer = line (machine.OtherClient Completed) Nothing Up stops.Every (One (timer K t4))

unfoldable pub other_client_row : OtherClient → Input → Option Step
-- E: the request again, after T1 and then at intervals that double up to T2. F: no final response in 64*T1
other_client_row (Trying interval) (Fires E) = again_after (Trying (after_t2 interval)) (after_t2 interval)
other_client_row (Trying interval) (Fires F) = ended TimedOut
-- after a provisional response E and F run on, and E is set to T2
other_client_row (Trying interval) (Response Provisional) = line (machine.OtherClient Proceeding) Nothing Up stops.NoTimer NoTimer
other_client_row Proceeding (Response Provisional) = line (machine.OtherClient Proceeding) Nothing Up stops.NoTimer NoTimer
other_client_row Proceeding (Fires E) = again_after Proceeding t2
other_client_row Proceeding (Fires F) = ended TimedOut
other_client_row (Trying interval) (Response Success) = final_answer
other_client_row (Trying interval) (Response Failure) = final_answer
other_client_row Proceeding (Response Success) = final_answer
other_client_row Proceeding (Response Failure) = final_answer
other_client_row Completed (Fires K) = ended Ended
other_client_row state input = None

use Rattle.message_laws.proofs.StandingCalls.TracedCalls.{are_served}
use Rattle.message_laws.proofs.trace_calls.traced_calls_are_served.Goals as goal

pub returns : goal.returns
returns c = are_served

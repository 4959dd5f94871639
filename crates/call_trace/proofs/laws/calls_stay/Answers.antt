use Rattle.call_trace.proofs.Growing.{call_left, call_turned, ended_left}
use Rattle.call_trace.proofs.laws.calls_stay.Goals as goal

pub returns : goal.returns
returns c = record { call = call_left; either_order = call_turned; ended = ended_left }

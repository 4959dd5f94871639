use Rattle.std.proofs.Common.{length}
use Rattle.call_trace.specs.Runs.{trace_from}
use Rattle.call_trace.proofs.Running.{stands_from_none}
use Rattle.call_trace.proofs.move_laws.moves_are_promised.Goals as goal

pub returns : goal.returns
returns c = record {
  promised = λ methods server table holder calls events off mv served.
      c.standing_is_promised.ensures.promised methods server table holder calls (length events) (trace_from 0 events) (stands_from_none methods calls events off mv) served;
  lives = λ methods calls events off mv. c.standing_is_promised.ensures.lives methods calls (length events) (trace_from 0 events) (stands_from_none methods calls events off mv);
}

use Rattle.std.proofs.Common.{◌≡◌, length}
use Rattle.log_pipe.specs.Limits.{max_block}
use Rattle.log_pipe.specs.Writing.{Writes}
use Rattle.log_pipe.proofs.log_writer.LogWriter.run.Given as goal

-- what was written so far
abbrev pub invariant-loop : goal.invariant-loop
invariant-loop g l = record {
  writes : Writes l.fn.self l.self;
  room : length l.block ≡ max_block;
}

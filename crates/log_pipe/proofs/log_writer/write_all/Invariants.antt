use Rattle.std.proofs.Common.{ℕ, List}
use Rattle.log_pipe.specs.Writing.{IsWrittenAs}
use Rattle.log_pipe.proofs.log_writer.write_all.Given as goal

-- what was taken so far was to be written
abbrev pub invariant-loop : goal.invariant-loop
invariant-loop g l = record {
  blocks : List (List ℕ);
  written : IsWrittenAs blocks l.fn.ring l.ring l.fn.stream l.stream;
}

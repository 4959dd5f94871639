use Rattle.std.proofs.Common.{◌≤◌, vec_len}
use Rattle.server.specs.Input.{max_kept, Takes}
use Rattle.server.proofs.input.read_datagram.Given as goal

-- what was taken so far, and what of it is kept
abbrev pub invariant-loop : goal.invariant-loop
invariant-loop g l = record {
  room : vec_len l.whole ≤ max_kept;
  taken : Takes (g.R.Read.remaining l.fn.reader) (g.R.Read.remaining l.reader) l.whole.items;
}

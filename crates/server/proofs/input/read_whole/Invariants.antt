use Rattle.std.specs.Io.KnownBytes.{Consumes}
use Rattle.server.proofs.input.read_whole.Given as goal

-- all that was taken is kept
abbrev pub invariant-loop : goal.invariant-loop
invariant-loop g l = Consumes (g.R.Read.remaining l.fn.reader) (g.R.Read.remaining l.reader) l.whole.items

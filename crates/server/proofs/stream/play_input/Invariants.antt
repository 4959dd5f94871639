use Rattle.server.proofs.StreamLaws.{Followed}
use Rattle.server.proofs.stream.play_input.Given as goal

-- what was read so far, and what of it was taken
abbrev pub invariant-loop : goal.invariant-loop
invariant-loop g l =
    Followed l.notes l.fn.agent l.agent (g.R.Read.remaining l.fn.reader) (g.R.Read.remaining l.reader) (g.W.Write.contents l.fn.writer) (g.W.Write.contents l.writer) l.tail.bytes.items l.tail.at

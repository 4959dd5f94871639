use Rattle.std.proofs.Common.{◌≡◌, ◌++◌, drop}
use Rattle.offer_answer.specs.Direct.{streams_of, direct}
use Rattle.offer_answer.proofs.direct.meaning.Given as goal

-- the streams so far and those of what is left are all
abbrev pub invariant-loop-i : goal.invariant-loop-i
invariant-loop-i l = l.streams.items ++ streams_of l.offer (drop l.i l.offered-items) l.answer (drop l.i l.answers) ≡ direct l.offer l.answer

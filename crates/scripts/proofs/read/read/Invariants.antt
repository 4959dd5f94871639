use Rattle.std.proofs.Common.{length}
use Rattle.scripts.proofs.ScriptLaws.{Leads}
use Rattle.scripts.proofs.read.read.Given as goal

-- the events so far, and those of what is left, are the text's
abbrev pub invariant-loop-rest : goal.invariant-loop-rest
invariant-loop-rest l = Leads l.text l.events.items l.rest

abbrev pub decreases-loop-rest : goal.decreases-loop-rest
decreases-loop-rest l = length l.rest

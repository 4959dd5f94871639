use Rattle.std.proofs.Common.{◌≡◌, ◌++◌, drop}
use Rattle.agent.proofs.new_agent.kept_texts.Given as goal

-- the texts so far and what is left are all
abbrev pub invariant-loop-text : goal.invariant-loop-text
invariant-loop-text l = l.kept.items ++ drop l.text-index l.texts ≡ l.texts

use Rattle.std.proofs.Common.{◌≡◌, ◌≤◌, ◌-◌, ◌++◌, map, take, drop}
use Rattle.text.specs.Pieces.{pieces}
use Rattle.text.specs.declared.split.Within.TheVariants.{Nothing}
use Rattle.text.proofs.PieceLaws.{with_front}
use Rattle.text.proofs.split.put_pieces.Given as goal

-- the pieces so far, and those of what is left, the first of which has begun
abbrev pub invariant-loop-at : goal.invariant-loop-at
invariant-loop-at l = record {
  begun : l.start ≤ l.at;
  whole : map (λ p. p.now) l.found.items ++ with_front (take (l.at - l.start) (drop l.start l.text)) (pieces l.separator l.within (drop l.at l.text)) ≡ map (λ p. p.now) l.initial.found.items ++ pieces l.separator Nothing l.text;
}

use Rattle.std.proofs.Common.{◌≡◌, ◌-◌, ◌++◌, ◌∷◌, [], List, ℕ, map, take, drop, arith, ap, sym, ◌∙◌, rules}
use Rattle.text.specs.declared.split.Within.TheVariants.{Nothing}
use Rattle.std.proofs.lemmas.List.{map_push}
use Rattle.text.proofs.PieceLaws.{with_front-nil, piece_goes_on, piece_ended}
use Rattle.text.proofs.split.put_pieces.Goals as goal

pub loop-at-init : goal.loop-at-init
loop-at-init c = record { begun = omega arith; whole = ap (λ (ps : List (List ℕ)). map (λ p. p.now) c.args.found.now.items ++ ps) (with_front-nil c.args.separator Nothing c.args.text.now) }

pub loop-at-preserved-then-not-ends : goal.loop-at-preserved-then-not-ends
loop-at-preserved-then-not-ends c = record {
  begun = omega (arith, c.loop-at.invariant.begun);
  whole = rw c.next-within.ensures (ap (λ (ps : List (List ℕ)). map (λ p. p.now) c.loop-at.found.items ++ ps) (sym (piece_goes_on c.args.separator c.loop-at.start c.loop-at.at c.loop-at.within c.args.text.now c.loop-at.invariant.begun c.loop-at-test.true c.if-not-ends.ensures)) ∙ c.loop-at.invariant.whole);
}

pub loop-at-preserved : goal.loop-at-preserved
loop-at-preserved c =
    let pushed : map (λ p. p.now) c.push.new.self.items ≡ map (λ p. p.now) c.loop-at.found.items ++ take (c.loop-at.at - c.loop-at.start) (drop c.loop-at.start c.args.text.now) ∷ [] = rw c.in_ok-push.ensures.items (map_push (λ p. p.now) c.loop-at.found.items _) in
    record {
      begun = omega arith;
      whole = rw (pushed, c.next-within.ensures) (piece_ended (map (λ p. p.now) c.loop-at.found.items) _ c.args.separator c.loop-at.start c.loop-at.at c.loop-at.within c.args.text.now c.loop-at-test.true (search rules) c.loop-at.invariant.whole);
    }

use Rattle.std.proofs.Common.{ℕ, ◌+◌, List, Some, take, ap, sym, ◌∙◌, arith, rules}
use Rattle.std.proofs.lemmas.List.{take_rest}
use Rattle.text.specs.Pieces.{pieces_behind}
use Rattle.text.proofs.PieceLaws.{front_at_mark, all_before_mark, first_goes_on, first_ends, first_is_all}
use Rattle.text.proofs.split.cut_piece.Goals as goal

pub loop-at-init : goal.loop-at-init
loop-at-init c = front_at_mark c.args.separator c.in-Some.mark c.args.text.now (search rules)

pub returns-then-ends_piece-clause-pieces : goal.returns-then-ends_piece-clause-pieces
returns-then-ends_piece-clause-pieces c =
    ap (λ (rest : List ℕ). pieces_behind c.args.separator (take c.loop-at.at c.args.text.now) (Some rest)) (take_rest c.args.text.now (c.loop-at.at + 1))
    ∙ sym (first_ends c.args.separator c.loop-at.at c.loop-at.within c.args.text.now c.loop-at-test.true c.if-ends_piece.ensures) ∙ c.loop-at.invariant

pub loop-at-preserved : goal.loop-at-preserved
loop-at-preserved c =
    rw c.next-within.ensures
    (sym (first_goes_on c.args.separator c.loop-at.at c.loop-at.within c.args.text.now c.loop-at-test.true c.if-ends_piece.ensures) ∙ c.loop-at.invariant)

pub returns-clause-pieces : goal.returns-clause-pieces
returns-clause-pieces c = sym (first_is_all c.args.separator c.loop-at.at c.loop-at.within c.args.text.now (omega arith)) ∙ c.loop-at.invariant

pub returns-in_default-clause-pieces : goal.returns-in_default-clause-pieces
returns-in_default-clause-pieces c = all_before_mark c.args.separator c.args.text.now (search rules)

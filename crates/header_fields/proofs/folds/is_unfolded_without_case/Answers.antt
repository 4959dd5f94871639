use Rattle.std.proofs.Common.{ap, sym}
use Rattle.std.specs.Option.{option_copied}
use Rattle.header_fields.proofs.RawLoop.{loop_fewer, compare_loop, compare_stop}
use Rattle.header_fields.proofs.folds.is_unfolded_without_case.Goals as goal

pub loop-rest-smaller : goal.loop-rest-smaller
loop-rest-smaller c = loop_fewer c.in-Some.text.now (option_copied c.loop-rest.rest) _ (ap option_copied c.in-Some.is) c.first_line.ensures.rest

pub loop-rest-preserved : goal.loop-rest-preserved
loop-rest-preserved c =
    compare_loop c.loop-rest.left.now _ c.in-Some.text.now _ _ (option_copied c.loop-rest.rest) _ c.loop-rest.is_begun _ _ (ap option_copied c.in-Some.is) c.first_line.ensures.line c.first_line.ensures.rest
    c.trim_blanks-piece.ensures (sym c.in-Some-behind_next.ensures) c.begun_by-is_begun.ensures c.loop-rest.invariant

pub returns-in_default-behind_next : goal.returns-in_default-behind_next
returns-in_default-behind_next c =
    compare_stop c.loop-rest.left.now c.in-Some.text.now _ _ (option_copied c.loop-rest.rest) c.loop-rest.is_begun _ (ap option_copied c.in-Some.is) c.first_line.ensures.line c.trim_blanks-piece.ensures
    (sym c.in_default-behind_next.ensures) c.loop-rest.invariant

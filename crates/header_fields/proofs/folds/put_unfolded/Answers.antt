use Rattle.std.proofs.Common.{ap}
use Rattle.std.specs.Option.{option_copied}
use Rattle.header_fields.proofs.RawLoop.{loop_fewer, put_loop}
use Rattle.header_fields.proofs.folds.put_unfolded.Goals as goal

pub loop-rest-smaller : goal.loop-rest-smaller
loop-rest-smaller c = loop_fewer c.in-Some.text.now (option_copied c.loop-rest.rest) _ (ap option_copied c.in-Some.is) c.first_line.ensures.rest

pub loop-rest-preserved : goal.loop-rest-preserved
loop-rest-preserved c =
    put_loop _ c.loop-rest.out.items _ c.args.raw.now c.in-Some.text.now _ _ (option_copied c.loop-rest.rest) _ c.loop-rest.is_begun _ (ap option_copied c.in-Some.is) c.first_line.ensures.line c.first_line.ensures.rest
    c.trim_blanks-piece.ensures c.in_ok-put_piece.ensures c.begun_by-is_begun.ensures c.loop-rest.invariant

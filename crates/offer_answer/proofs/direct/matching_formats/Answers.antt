use Rattle.std.proofs.Common.{◌∙◌, sym, arith}
use Rattle.offer_answer.specs.Direct.{is_answered}
use Rattle.offer_answer.proofs.Filters.{filter_put}
use Rattle.offer_answer.proofs.direct.matching_formats.Goals as goal

pub loop-format-preserved : goal.loop-format-preserved
loop-format-preserved c =
    let more = filter_put (is_answered c.args.offer.now c.args.answer.now) c.as_slice-format-items.result.now c.loop-format.format-index c.format-item.result (omega arith) c.format-item.is (sym c.is_answered.ensures ∙ c.if-not-is_answered.false) in
    cc (more, c.in_ok-keep.ensures, c.in_ok-push.ensures.items)

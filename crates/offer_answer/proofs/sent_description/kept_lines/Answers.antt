use Rattle.std.proofs.Common.{◌∙◌, sym, arith}
use Rattle.offer_answer.specs.Alike.{is_kept}
use Rattle.offer_answer.proofs.Filters.{filter_put}
use Rattle.offer_answer.proofs.sent_description.kept_lines.Goals as goal

pub loop-line-preserved : goal.loop-line-preserved
loop-line-preserved c =
    let more = filter_put is_kept c.as_slice-line-items.result.now c.loop-line.line-index c.line-item.result (omega arith) c.line-item.is (sym c.is_kept.ensures ∙ c.if-not-is_kept.false) in
    cc (more, c.in_ok-keep.ensures, c.in_ok-push.ensures.items)

use Rattle.std.proofs.Common.{◌∙◌, sym, arith}
use Rattle.registrar.specs.BindingRules.{is_recent}
use Rattle.registrar.proofs.PresentLaws.{one_less, one_more}
use Rattle.registrar.proofs.draft.recent.Goals as goal

pub loop-draft-preserved : goal.loop-draft-preserved
loop-draft-preserved c =
    let more = one_more (is_recent c.args.drafts.now) c.args.drafts.now c.loop-draft.draft-index c.draft-item.result (omega arith) c.draft-item.is (sym c.is_recent.ensures ∙ c.if-not-is_recent.false) in
    cc (more, c.in_ok-copy.ensures, c.in_ok-push.ensures.items)

pub loop-draft-preserved-then-not-is_recent : goal.loop-draft-preserved-then-not-is_recent
loop-draft-preserved-then-not-is_recent c =
    c.loop-draft.invariant
    ∙ sym (one_less (is_recent c.args.drafts.now) c.args.drafts.now c.loop-draft.draft-index c.draft-item.result (omega arith) c.draft-item.is (sym c.is_recent.ensures ∙ c.if-not-is_recent.true))

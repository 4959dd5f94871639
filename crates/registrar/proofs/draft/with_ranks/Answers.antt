use Rattle.std.proofs.Common.{arith, add-one}
use Rattle.registrar.specs.Registering.{rank, with_number}
use Rattle.registrar.proofs.PresentLaws.{map_more}
use Rattle.registrar.proofs.draft.with_ranks.Goals as goal

pub loop-draft-preserved : goal.loop-draft-preserved
loop-draft-preserved c =
    let more = map_more (λ b. with_number (rank c.args.drafts.now b) b) c.args.drafts.now c.loop-draft.draft-index c.draft-item.result (omega arith) c.draft-item.is in
    rw add-one (cc (more, c.rank.ensures, c.in_ok-with_number.ensures, c.in_ok-push.ensures.items))

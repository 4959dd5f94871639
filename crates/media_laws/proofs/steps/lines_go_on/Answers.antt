use Rattle.call_trace.specs.Messages.{offering}
use Rattle.media_laws.proofs.CallLines.LineSteps.{line_goes_on}
use Rattle.media_laws.proofs.steps.lines_go_on.Goals as goal

pub returns : goal.returns
returns c = λ slots begun more t cs old place c' n stands there spot asked staged new next on staged_new s k taken sent trace numbers keeps after move.
    line_goes_on slots begun t cs old place c' n stands there spot asked staged new next on s more k taken sent
    (λ calls m. (c.moves_keep.ensures.one offering k t old calls taken sent m trace).sessions.apart) numbers keeps after staged_new move

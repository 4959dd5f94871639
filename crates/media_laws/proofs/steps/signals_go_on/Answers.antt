use Rattle.call_trace.specs.Messages.{offering}
use Rattle.call_trace.specs.Stands.{HasTags}
use Rattle.std.specs.Prelude.{◌++◌}
use Rattle.call_trace.proofs.Members.{all_at}
use Rattle.call_core.specs.Table.{row_of}
use Rattle.media_laws.specs.Lines.{next_in}
use Rattle.media_laws.proofs.CallLines.LineSteps.{line_goes_on}
use Rattle.media_laws.proofs.steps.signals_go_on.Goals as goal

pub returns : goal.returns
returns c = λ slots begun more t cs old place c' n stands there spot asked staged new signal on staged_new s k taken before ms scene tokens trace numbers keeps after idle alone again takes hears.
    line_goes_on slots begun t cs old place c' n stands there spot asked staged new (next_in n (row_of n signal)) on s more k taken (before ++ ms)
    (λ calls m. (c.moves_keep.ensures.one offering k t old calls taken (before ++ ms) m trace).sessions.apart) numbers keeps after staged_new
    (c.lines_are_moves.ensures.line t old spot.place_there spot.call trace.sessions.apart spot.there (all_at HasTags old spot.place_there spot.call trace.sessions.tags spot.there) taken before idle scene tokens n.offerer n.stage signal alone again takes.legs takes.at
    takes.awaited takes.took ms hears)

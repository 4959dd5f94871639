use Rattle.std.proofs.Common.{◌∙◌, List, ap}
use Rattle.timers.specs.declared.timers.Timer.{Timer}
use Rattle.timers.specs.Queue.{put}
use Rattle.calls.specs.declared.timer_id.CallTimerId.{CallTimerId}
use Rattle.calls.proofs.TimingLaws.{without_agree}
use Rattle.calls.proofs.call_timers.set.Goals as goal

pub returns-clause-timers : goal.returns-clause-timers
returns-clause-timers c =
    let same = ap (λ (timers : List (Timer CallTimerId)). put timers (record { key = c.args.id; at = c.args.at })) (without_agree c.args.timers.now.timers c.args.id) in
    let ok = rw c.unwrap.ensures at c.set.ensures.ok in
    ok ∙ same

use Rattle.std.proofs.Common.{◌≡◌, ◌∙◌, rules}
use Rattle.std.specs.List.{insert}
use Rattle.timers.proofs.ByMoment.{put_is}
use Rattle.timers.proofs.by_moment.put.Goals as goal

pub returns-clause-put : goal.returns-clause-put
returns-clause-put g c =
    let ts = c.args.timers.now.items in
    let inserted : c.insert.new.self.items ≡ insert ts c.first_after-place.result c.args.timer = search rules in
    inserted ∙ rw c.first_after-place.ensures.place (put_is ts c.args.timer)

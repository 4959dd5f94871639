use Rattle.std.proofs.Common.{◌≡◌, ◌∙◌, rules}
use Rattle.std.specs.List.{remove}
use Rattle.timers.proofs.ByMoment.{remove_is}
use Rattle.timers.proofs.by_moment.remove.Goals as goal

pub returns-clause-others : goal.returns-clause-others
returns-clause-others g c =
    let ts = c.args.timers.now.items in
    let removed : c.remove.new.self.items ≡ remove ts c.place_of-place.result = search rules in
    removed ∙ rw c.place_of-place.ensures.place (remove_is g.K.PartialEq.eq c.args.key g.met.K.Eq.laws ts c.requires.queue.once)

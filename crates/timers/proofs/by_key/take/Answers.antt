use Rattle.std.proofs.Common.{◌≡◌, ◌<◌, ◌∙◌, refl, sym, true, false, length, Some, None, rules}
use Rattle.std.specs.List.{remove}
use Rattle.timers.specs.Queue.{stands}
use Rattle.timers.proofs.ByKey.{moment_is, stood_by, place_within, remove_at}
use Rattle.timers.proofs.Keys.{without_none}
use Rattle.timers.proofs.by_key.take.Goals as goal

pub returns-in_err-at-clause-moment : goal.returns-in_err-at-clause-moment
returns-in_err-at-clause-moment g c =
    let laws = g.met.K.Ord in
    c.from_residual.ensures ∙ sym c.in_err-at.was ∙ c.moment_at.ensures
    ∙ rw c.place_of-place.ensures.place (moment_is g.K.PartialEq.eq g.K.Ord.cmp laws.total laws.matches_eq c.args.keys.now.items c.args.key c.requires)

pub returns-in_err-at-clause-others : goal.returns-in_err-at-clause-others
returns-in_err-at-clause-others g c =
    let laws = g.met.K.Ord in
    let keys = c.args.keys.now.items in
    let none : stands g.K.PartialEq.eq keys c.args.key ≡ false =
    stood_by g.K.PartialEq.eq g.K.Ord.cmp laws.total laws.matches_eq keys c.args.key None c.requires
    (sym c.in_err-at.was ∙ c.moment_at.ensures ∙ rw c.place_of-place.ensures.place refl) in
    sym (without_none g.K.PartialEq.eq g.met.K.Eq.laws keys c.args.key none)

pub returns-clause-moment : goal.returns-clause-moment
returns-clause-moment g c =
    let laws = g.met.K.Ord in
    sym c.in_ok-at.was ∙ c.moment_at.ensures
    ∙ rw c.place_of-place.ensures.place (moment_is g.K.PartialEq.eq g.K.Ord.cmp laws.total laws.matches_eq c.args.keys.now.items c.args.key c.requires)

pub returns-clause-others : goal.returns-clause-others
returns-clause-others g c =
    let laws = g.met.K.Ord in
    let keys = c.args.keys.now.items in
    let stood : stands g.K.PartialEq.eq keys c.args.key ≡ true =
    stood_by g.K.PartialEq.eq g.K.Ord.cmp laws.total laws.matches_eq keys c.args.key (Some c.in_ok-at.at) c.requires
    (sym c.in_ok-at.was ∙ c.moment_at.ensures ∙ rw c.place_of-place.ensures.place refl) in
    let within : c.place_of-place.result < length keys = rw c.place_of-place.ensures.place (place_within g.K.PartialEq.eq g.K.Ord.cmp laws.total laws.matches_eq keys c.args.key c.requires stood) in
    let removed : c.remove.new.self.items ≡ remove keys c.place_of-place.result = search rules in
    removed ∙ rw c.place_of-place.ensures.place (remove_at g.K.PartialEq.eq g.K.Ord.cmp laws.total laws.matches_eq g.met.K.Eq.laws keys c.args.key c.requires stood)

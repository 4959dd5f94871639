use Rattle.std.proofs.Common.{◌≡◌, ◌∙◌, false, None, refl, ap, sym, true≢false, arith}
use Rattle.std.proofs.lemmas.Grind.{common_steps}
use Rattle.timers.specs.Queue.{stands}
use Rattle.timers.proofs.Both.{both_set, moment_found, stands_found}
use Rattle.timers.proofs.timers.Timers.set.Goals as goal

pub set_anew-requires-clause-moment : goal.set_anew-requires-clause-moment
set_anew-requires-clause-moment g c =
    let laws = g.met.K.Ord in
    moment_found g.K.PartialEq.eq g.met.K.Eq.laws g.K.Ord.cmp laws.total laws.matches_eq c.self.inside.timers.items c.self.inside.keys.items c.args.key c.moment_at.result c.self.invariant
    (c.moment_at.ensures ∙ rw c.place_of-place.ensures.place refl)
    ∙ c.in-Some.is

pub invariant_of-self : goal.invariant_of-self
invariant_of-self g c =
    let laws = g.met.K.Ord in
    rw (c.set_anew.ensures.timers, c.set_anew.ensures.keys)
    (both_set g.K.PartialEq.eq g.met.K.Eq.laws g.K.Ord.cmp laws.total laws.matches_eq c.self.inside.timers.items c.self.inside.keys.items (record { key = c.args.key; at = c.args.at }) c.self.invariant)

pub returns-in_err-reserve-in-None-clause-standing : goal.returns-in_err-reserve-in-None-clause-standing
returns-in_err-reserve-in-None-clause-standing g c =
    let laws = g.met.K.Ord in
    let none : stands g.K.PartialEq.eq c.self.inside.timers.items c.args.key ≡ false =
    stands_found g.K.PartialEq.eq g.met.K.Eq.laws g.K.Ord.cmp laws.total laws.matches_eq c.self.inside.timers.items c.self.inside.keys.items c.args.key None c.self.invariant
    (sym c.in-None.is ∙ c.moment_at.ensures ∙ rw c.place_of-place.ensures.place refl) in
    λ stood. absurd (true≢false (sym stood ∙ sym (ap (λ q. stands g.K.PartialEq.eq q.timers c.args.key) c.self.view_is) ∙ none))

pub add-requires-clause-none : goal.add-requires-clause-none
add-requires-clause-none g c =
    let laws = g.met.K.Ord in
    rw c.reserve.ensures.timers
    (stands_found g.K.PartialEq.eq g.met.K.Eq.laws g.K.Ord.cmp laws.total laws.matches_eq c.self.inside.timers.items c.self.inside.keys.items c.args.key None c.self.invariant
    (sym c.in-None.is ∙ c.moment_at.ensures ∙ rw c.place_of-place.ensures.place refl))

pub invariant_of-self-in-None : goal.invariant_of-self-in-None
invariant_of-self-in-None g c =
    let laws = g.met.K.Ord in
    rw (c.add.ensures.timers, c.add.ensures.keys, c.reserve.ensures.timers, c.reserve.ensures.keys)
    (both_set g.K.PartialEq.eq g.met.K.Eq.laws g.K.Ord.cmp laws.total laws.matches_eq c.self.inside.timers.items c.self.inside.keys.items (record { key = c.args.key; at = c.args.at }) c.self.invariant)

pub returns-in_ok-reserve-in-None-clause-room_left : goal.returns-in_ok-reserve-in-None-clause-room_left
returns-in_ok-reserve-in-None-clause-room_left g c =
    let laws = g.met.K.Ord in
    let none : stands g.K.PartialEq.eq c.self.inside.timers.items c.args.key ≡ false =
    stands_found g.K.PartialEq.eq g.met.K.Eq.laws g.K.Ord.cmp laws.total laws.matches_eq c.self.inside.timers.items c.self.inside.keys.items c.args.key None c.self.invariant
    (sym c.in-None.is ∙ c.moment_at.ensures ∙ rw c.place_of-place.ensures.place refl) in
    grind (arith, common_steps, none, c.self.view_is)

use Rattle.std.proofs.Common.{position, refl, set, sym, ap, ◌∙◌}
use Rattle.call_traffic.specs.Calls.{has_number}
use Rattle.call_traffic.specs.Following.{HasMissed}
use Rattle.call_traffic.specs.MediaLogs.{FirstBecomes}
use Rattle.call_traffic.proofs.FirstLaws.{becomes, on_err, stays}
use Rattle.call_traffic.proofs.media_log.MediaLog.follow_call.Goals as goal

pub returns-in-None-clause-ok : goal.returns-in-None-clause-ok
returns-in-None-clause-ok g c =
    let is_it = has_number c.args.note.number in
    let none = sym (ap (position is_it) c.deref.ensures.value) ∙ sym c.place_of.ensures ∙ c.in-None.is in
    stays is_it _ _ c.args.self.now.log.calls.items _ none refl refl

pub returns-in_ok-follow-in-Some-clause-ok : goal.returns-in_ok-follow-in-Some-clause-ok
returns-in_ok-follow-in-Some-clause-ok g c =
    let is_it = has_number c.args.note.number in
    let place = sym (ap (position is_it) c.deref.ensures.value) ∙ sym c.place_of.ensures ∙ c.in-Some.is in
    becomes is_it _ _ c.args.self.now.log.calls.items _ c.in-Some.at c.index_mut.result.now c.follow.new.self place c.index_mut.ensures.value c.in_ok-follow-in-Some.ensures.ok refl

pub returns-in_err-follow-in-Some-clause-err : goal.returns-in_err-follow-in-Some-clause-err
returns-in_err-follow-in-Some-clause-err g c =
    let is_it = has_number c.args.note.number in
    let place = sym (ap (position is_it) c.deref.ensures.value) ∙ sym c.place_of.ensures ∙ c.in-Some.is in
    on_err c.from_residual.result (FirstBecomes is_it HasMissed ⊥ c.args.self.now.log.calls.items (set c.args.self.now.log.calls.items c.in-Some.at c.follow.new.self))
    (becomes is_it HasMissed ⊥ c.args.self.now.log.calls.items _ c.in-Some.at c.index_mut.result.now c.follow.new.self place c.index_mut.ensures.value c.in_err-follow-in-Some.ensures.err refl)

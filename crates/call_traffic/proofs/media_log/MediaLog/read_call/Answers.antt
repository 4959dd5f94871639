use Rattle.std.proofs.Common.{position, refl, sym, ap, ◌∙◌}
use Rattle.call_traffic.specs.Calls.{has_number}
use Rattle.call_traffic.proofs.FirstLaws.{becomes, stays}
use Rattle.call_traffic.proofs.media_log.MediaLog.read_call.Goals as goal

pub returns-in-Some-clause-calls : goal.returns-in-Some-clause-calls
returns-in-Some-clause-calls g c =
    let is_it = has_number c.args.number in
    let place = sym (ap (position is_it) c.deref.ensures.value) ∙ sym c.place_of.ensures ∙ c.in-Some.is in
    becomes is_it _ _ c.args.self.now.log.calls.items _ c.in-Some.at c.index_mut.result.now c.read.new.self place c.index_mut.ensures.value (c.read.ensures.call, c.read.ensures.told) refl

pub returns-in-None-clause-calls : goal.returns-in-None-clause-calls
returns-in-None-clause-calls g c =
    let is_it = has_number c.args.number in
    let none = sym (ap (position is_it) c.deref.ensures.value) ∙ sym c.place_of.ensures ∙ c.in-None.is in
    stays is_it _ _ c.args.self.now.log.calls.items _ none refl refl

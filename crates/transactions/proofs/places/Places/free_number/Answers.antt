use Rattle.std.proofs.Common.{◌∙◌, ap, unwrap_or}
use Rattle.transactions.specs.Places.{Placed}
use Rattle.transactions.specs.Slots.{free_number}
use Rattle.transactions.proofs.PlaceLaws.{least_or}
use Rattle.transactions.proofs.places.Places.free_number.Goals as goal

pub returns : goal.returns
returns c =
    let p = c.self.inside in
    c.unwrap_or.ensures
    ∙ ap (λ o. unwrap_or o c.len.result) c.least.ensures
    ∙ least_or p.slots.items p.free.numbers c.len.result (c.len.ensures ∙ p.slots.ok.0) c.self.invariant.0.without
    ∙ ap (λ (v : Placed). free_number v.slots) c.self.view_is

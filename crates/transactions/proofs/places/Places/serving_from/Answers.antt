use Rattle.std.proofs.Common.{◌∙◌, ap}
use Rattle.transactions.specs.Places.{Placed}
use Rattle.transactions.specs.Shares.{serving_from}
use Rattle.transactions.proofs.PlaceLaws.{counted_from}
use Rattle.transactions.proofs.places.Places.serving_from.Goals as goal

pub returns : goal.returns
returns c =
    let p = c.self.inside in
    counted_from c.args.ip p.slots.items c.ip_print.result c.numbers.result.now c.ip_print.ensures
    (c.numbers.ensures.numbers ∙ c.self.invariant.0.by_source c.ip_print.result)
    ∙ ap (λ (v : Placed). serving_from c.args.ip v.slots) c.self.view_is

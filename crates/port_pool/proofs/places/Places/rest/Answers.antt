use Rattle.std.proofs.Common.{◌<◌, ◌∙◌, List, length, refl, sym, ap, subst}
use Rattle.port_pool.specs.declared.holdings.Holding.{Holding}
use Rattle.port_pool.specs.Places.{IsIndexed, at_place, resting_from}
use Rattle.port_pool.proofs.PlaceLaws.{written_at}
use Rattle.port_pool.proofs.CallLaws.{IsIndexed-kept}
use Rattle.port_pool.proofs.places.Places.rest.Goals as goal

pub invariant_of-self : goal.invariant_of-self
invariant_of-self c =
    let holdings = c.self.inside.holdings.items in
    let found = c.index_mut.result.now in
    let less : c.args.place < length holdings = rw (← c.self.view_is) at c.requires in
    subst (λ (hs : List Holding). IsIndexed hs c.self.inside.calls) (sym (written_at (resting_from c.args.now) holdings c.args.place found found less c.index_mut.ensures.value))
    (IsIndexed-kept (resting_from c.args.now) holdings c.self.inside.calls c.args.place found (λ s. refl) (λ s. refl) less c.self.invariant)

pub returns : goal.returns
returns c =
    let less : c.args.place < length c.self.inside.holdings.items = rw (← c.self.view_is) at c.requires in
    written_at (resting_from c.args.now) c.self.inside.holdings.items c.args.place c.index_mut.result.now c.index_mut.result.now less c.index_mut.ensures.value
    ∙ ap (λ (hs : List Holding). at_place c.args.place (resting_from c.args.now) hs) c.self.view_is

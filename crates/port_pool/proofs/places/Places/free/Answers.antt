use Rattle.std.proofs.Common.{◌∙◌, List, refl, ap}
use Rattle.port_pool.specs.declared.holdings.Holding.{Holding}
use Rattle.port_pool.specs.Holdings.{freed_at}
use Rattle.port_pool.specs.Places.{at_place, vacated, resting_from}
use Rattle.port_pool.proofs.PlaceLaws.{length_at, twice_at}
use Rattle.port_pool.proofs.places.Places.free.Goals as goal

pub rest-requires : goal.rest-requires
rest-requires c = rw (c.vacate.ensures, length_at vacated c.args.self.now c.args.place) c.requires

pub returns : goal.returns
returns c =
    c.rest.ensures ∙ ap (λ (hs : List Holding). at_place c.args.place (resting_from c.args.now) hs) c.vacate.ensures
    ∙ twice_at (resting_from c.args.now) vacated (freed_at c.args.now) (λ s. refl) c.args.self.now c.args.place

use Rattle.std.proofs.Common.{◌∙◌, List, refl, ap}
use Rattle.port_pool.specs.declared.holdings.Holding.{Holding}
use Rattle.port_pool.specs.Holdings.{held_by}
use Rattle.port_pool.specs.Places.{no_holding, at_place, vacated}
use Rattle.port_pool.proofs.PlaceLaws.{length_at, get_at, twice_at}
use Rattle.port_pool.proofs.places.Places.give.Goals as goal

pub occupy-requires-clause-bound : goal.occupy-requires-clause-bound
occupy-requires-clause-bound c = rw (c.vacate.ensures, length_at vacated c.args.self.now c.args.place) c.requires

pub occupy-requires-clause-unheld : goal.occupy-requires-clause-unheld
occupy-requires-clause-unheld c = rw c.vacate.ensures (ap (λ (s : Holding). s.holder) (get_at vacated c.args.self.now c.args.place no_holding c.requires))

pub returns : goal.returns
returns c =
    c.occupy.ensures ∙ ap (λ (hs : List Holding). at_place c.args.place (held_by c.args.call) hs) c.vacate.ensures
    ∙ twice_at (held_by c.args.call) vacated (held_by c.args.call) (λ s. refl) c.args.self.now c.args.place

use Rattle.std.proofs.Common.{◌≡◌, ◌∙◌, List, Some, None, sym, ap, subst}
use Rattle.std.specs.List.{position}
use Rattle.port_pool.specs.Limits.{min_port}
use Rattle.port_pool.specs.declared.holdings.Holding.{Holding}
use Rattle.port_pool.specs.Holdings.{has_even, PairsFrom}
use Rattle.port_pool.proofs.HoldingLaws.{PairsRise-pairs}
use Rattle.port_pool.proofs.PlaceLaws.{released_at, released_none}
use Rattle.port_pool.proofs.places.Places.release.Goals as goal

pub place_of-requires : goal.place_of-requires
place_of-requires c = rw c.deref.ensures.value (PairsRise-pairs min_port c.self.inside.holdings.items c.self.invariant.rising)

pub returns-in-Some : goal.returns-in-Some
returns-in-Some c =
    let rising : PairsFrom min_port c.args.self.now = subst (λ (hs : List Holding). PairsFrom min_port hs) c.self.view_is c.self.invariant.rising in
    let at : position (has_even c.args.pair.even) c.args.self.now ≡ Some c.in-Some.place =
    ap (λ (hs : List Holding). position (has_even c.args.pair.even) hs) (sym c.self.view_is ∙ sym c.deref.ensures.value) ∙ sym c.place_of.ensures ∙ c.in-Some.is in
    c.free.ensures ∙ released_at c.args.pair c.args.now min_port c.in-Some.place c.args.self.now rising at

pub returns-in_default : goal.returns-in_default
returns-in_default c =
    let none : position (has_even c.args.pair.even) c.args.self.now ≡ None =
    ap (λ (hs : List Holding). position (has_even c.args.pair.even) hs) (sym c.self.view_is ∙ sym c.deref.ensures.value) ∙ sym c.place_of.ensures ∙ c.in_default.is in
    released_none c.args.pair c.args.now c.args.self.now none

use Rattle.std.proofs.Common.{◌≡◌, ◌+◌, ◌∙◌, List, [], drop, sym, ap}
use Rattle.std.proofs.Math.ListN.{drop_of_length-le}
use Rattle.std.proofs.lemmas.List.{drop_more}
use Rattle.port_pool.specs.declared.pair.Pair.{Pair}
use Rattle.port_pool.specs.declared.holdings.Holding.{Holding}
use Rattle.port_pool.specs.Holdings.{taken}
use Rattle.port_pool.proofs.PlaceLaws.{taken_more, taken_all}
use Rattle.port_pool.proofs.places.Places.take.Goals as goal

pub loop-pair-preserved : goal.loop-pair-preserved
loop-pair-preserved c =
    let k = c.loop-pair.pair-index in
    let rest = drop (k + 1) c.args.pairs.now in
    ap (λ (hs : List Holding). taken c.args.call rest hs) c.take_one.ensures ∙ taken_more c.args.call _ rest c.loop-pair.self
    ∙ ap (λ (ps : List Pair). taken c.args.call ps c.loop-pair.self) (sym (drop_more c.args.pairs.now k (record { even = 0 }) c.loop-pair-test.true)) ∙ c.loop-pair.invariant

pub returns : goal.returns
returns c =
    let none : drop c.loop-pair.pair-index c.args.pairs.now ≡ [] = drop_of_length-le c.args.pairs.now c.loop-pair-test.false in
    sym (taken_all c.args.call c.loop-pair.self) ∙ ap (λ (ps : List Pair). taken c.args.call ps c.loop-pair.self) (sym none) ∙ c.loop-pair.invariant

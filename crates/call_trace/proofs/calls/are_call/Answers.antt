use Rattle.std.proofs.Common.{refl, rules, tests, arith}
use Rattle.std.proofs.lemmas.Iterator.{YieldsList-from_range}
use Rattle.std.proofs.lemmas.Iterator.Search.{any_from_yields_List}
use Rattle.std.specs.Prelude.{length}
use Rattle.call_trace.specs.Computed.{begins_call, call_of, places, some_below}
use Rattle.call_trace.proofs.calls.are_call.Goals as goal

pub returns : goal.returns
unfolding call_of
returns c =
    any_from_yields_List (λ j. some_below (λ i. begins_call c.args.methods.now c.args.trace.now c.args.dx.now c.args.dy.now (places i j)) j) _ _ _ c.any.ensures.ran
    (YieldsList-from_range 0 (length c.args.trace.now) (length c.args.trace.now) refl (omega arith)) (λ x b q k. search (rules, tests))

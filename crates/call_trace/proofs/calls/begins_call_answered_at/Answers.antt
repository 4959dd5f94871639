use Rattle.std.proofs.Common.{refl, rules, tests, arith}
use Rattle.std.proofs.lemmas.Iterator.{YieldsList-from_range}
use Rattle.std.proofs.lemmas.Iterator.Search.{any_from_yields_List}
use Rattle.call_trace.specs.Computed.{begins_call, places}
use Rattle.call_trace.proofs.calls.begins_call_answered_at.Goals as goal

pub returns : goal.returns
returns c =
    any_from_yields_List (λ i. begins_call c.args.methods.now c.args.trace.now c.args.dx.now c.args.dy.now (places i c.args.answered)) _ _ _ c.any.ensures.ran
    (YieldsList-from_range 0 c.args.answered c.args.answered refl (omega arith)) (λ x b q k. search (rules, tests))

use Rattle.std.proofs.Common.{refl, rules, tests, arith}
use Rattle.std.proofs.lemmas.Iterator.{YieldsList-from_range}
use Rattle.std.proofs.lemmas.Iterator.Search.{any_from_yields_List}
use Rattle.std.specs.Prelude.{length}
use Rattle.call_trace.specs.Computed.{answered_behind, later_exchange}
use Rattle.call_trace.proofs.search.has_later.Goals as goal

pub returns : goal.returns
unfolding later_exchange
returns c =
    any_from_yields_List (λ l. answered_behind c.args.methods.now c.args.trace.now c.args.dialog.now c.args.answered l) _ _ _ c.any.ensures.ran
    (YieldsList-from_range 0 (length c.args.trace.now) (length c.args.trace.now) refl (omega arith)) (λ x b q k. search (rules, tests))

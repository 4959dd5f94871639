use Rattle.std.proofs.Common.{refl, rules, tests, arith}
use Rattle.std.proofs.lemmas.Iterator.{YieldsList-from_range}
use Rattle.std.proofs.lemmas.Iterator.Search.{any_from_yields_List}
use Rattle.std.specs.Prelude.{length}
use Rattle.call_trace.specs.Computed.{open_in, unanswered_at}
use Rattle.call_trace.proofs.offers.open_in.Goals as goal

pub returns : goal.returns
unfolding open_in
returns c =
    any_from_yields_List (λ i. unanswered_at c.args.methods.now c.args.trace.now c.args.dialog.now i) _ _ _ c.any.ensures.ran
    (YieldsList-from_range 0 (length c.args.trace.now) (length c.args.trace.now) refl (omega arith)) (λ x b q k. search (rules, tests))

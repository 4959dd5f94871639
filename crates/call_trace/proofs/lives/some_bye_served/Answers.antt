use Rattle.std.proofs.Common.{refl, rules, tests, arith}
use Rattle.std.proofs.lemmas.Iterator.{YieldsList-from_range}
use Rattle.std.proofs.lemmas.Iterator.Search.{any_from_yields_List}
use Rattle.std.specs.Prelude.{length}
use Rattle.call_trace.specs.Computed.{serves_bye_at, some_bye_served}
use Rattle.call_trace.proofs.lives.some_bye_served.Goals as goal

pub returns : goal.returns
unfolding some_bye_served
returns c =
    any_from_yields_List (λ j. serves_bye_at c.args.trace.now c.args.dialog.now j) _ _ _ c.any.ensures.ran
    (YieldsList-from_range 0 (length c.args.trace.now) (length c.args.trace.now) refl (omega arith)) (λ x b q k. search (rules, tests))

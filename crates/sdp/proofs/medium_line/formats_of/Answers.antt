use Rattle.std.proofs.Common.{◌∙◌, rules, tests, eqb}
use Rattle.std.proofs.lemmas.Iterator.Consumers.{YieldsList-end}
use Rattle.std.proofs.lemmas.Iterator.Splits.{YieldsList-from_slice_split}
use Rattle.sdp.proofs.medium_line.formats_of.Goals as goal

pub returns : goal.returns
returns c =
    let gives = c.into_iter-format-iterator.ensures.into_iter_gives in
    let rest = rw (← gives) at c.split-format-items.ensures.rest in
    let done = rw (← gives) at c.split-format-items.ensures.done in
    let closure = rw (← gives) at c.split-format-items.ensures.closure in
    let all = YieldsList-end (YieldsList-from_slice_split _ (λ b. eqb b 32) c.args.text.now rest done closure (λ x b q k. search (rules, tests))) c.loop-format.yielded _ c.loop-format.yielded_by _ _ c.in-None.is c.next.ensures.steps in
    c.from_vec.ensures ∙ c.loop-format.invariant ∙ all.0

use Rattle.std.proofs.Common.{◌∙◌, ap, rules, tests, eqb}
use Rattle.std.proofs.lemmas.Iterator.Consumers.{YieldsList-end}
use Rattle.std.proofs.lemmas.Iterator.Splits.{YieldsList-from_slice_split}
use Rattle.events.specs.declared.event.What.TheVariants.{Users}
use Rattle.scripts.proofs.entry.users.Goals as goal

pub returns : goal.returns
returns c =
    let gives = c.into_iter-name-iterator.ensures.into_iter_gives in
    let rest = rw (← gives) at c.split-name-items.ensures.rest in
    let done = rw (← gives) at c.split-name-items.ensures.done in
    let closure = rw (← gives) at c.split-name-items.ensures.closure in
    let all = YieldsList-end (YieldsList-from_slice_split _ (λ b. eqb b 44) c.args.names.now rest done closure (λ x b q k. search (rules, tests))) c.loop-name.yielded _ c.loop-name.yielded_by _ _ c.in-None.is c.next.ensures.steps in
    ap Users (c.from_vec.ensures ∙ c.loop-name.invariant ∙ all.0)

use Rattle.std.proofs.Common.{◌∙◌, ap, sym, List, ℕ, map, rules, tests, eqb}
use Rattle.std.proofs.lemmas.Iterator.Consumers.{YieldsList-end}
use Rattle.std.proofs.lemmas.Iterator.Splits.{YieldsList-from_slice_split}
use Rattle.sip_uri.specs.Reading.{param_of}
use Rattle.text.proofs.Lists.{map-map}
use Rattle.sip_uri.proofs.read.list_of_params.Goals as goal

pub returns : goal.returns
returns c =
    let gives = c.into_iter-piece-iterator.ensures.into_iter_gives in
    let rest = rw (← gives) at c.split-piece-items.ensures.rest in
    let done = rw (← gives) at c.split-piece-items.ensures.done in
    let closure = rw (← gives) at c.split-piece-items.ensures.closure in
    let all = YieldsList-end (YieldsList-from_slice_split _ (λ b. eqb b c.args.separator) c.args.text.now rest done closure (λ x b q k. search (rules, tests))) c.loop-piece.yielded _ c.loop-piece.yielded_by _ _ c.in-None.is c.next.ensures.steps in
    c.loop-piece.invariant ∙ sym (map-map param_of (λ x. x.now) c.loop-piece.yielded) ∙ ap (λ (ps : List (List ℕ)). map param_of ps) all.0

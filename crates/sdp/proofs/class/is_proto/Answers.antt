use Rattle.std.proofs.Common.{rules, tests, eqb}
use Rattle.std.proofs.lemmas.Iterator.Search.{all_from_yields_List}
use Rattle.std.proofs.lemmas.Iterator.Splits.{YieldsList-from_slice_split}
use Rattle.sdp.specs.Classes.{is_token, is_proto}
use Rattle.sdp.proofs.class.is_proto.Goals as goal

pub returns : goal.returns
unfolding is_proto
returns c = all_from_yields_List is_token _ _ _ c.all.ensures.ran
    (YieldsList-from_slice_split _ (λ b. eqb b 47) c.args.text.now c.split.ensures.rest c.split.ensures.done c.split.ensures.closure (λ x b q k. search (rules, tests)))
    (λ x b q k. search (rules, tests))

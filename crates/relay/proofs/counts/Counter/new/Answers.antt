use Rattle.std.proofs.Common.{◌∙◌}
use Rattle.relay.proofs.Counting.{starts}
use Rattle.relay.proofs.counts.Counter.new.Goals as goal

pub of_words-requires : goal.of_words-requires
of_words-requires c = starts _ (c.as_slice.ensures.value ∙ c.in_ok-zeros.ensures.items_if_clones_equal (λ y same. same))

use Rattle.std.proofs.Common.{◌≡◌, ◌+◌, length, sym, ◌∙◌, subst}
use Rattle.std.specs.List.{prefix_len}
use Rattle.std.specs.List.Sorted.{IsPartitionedBy}
use Rattle.timers.proofs.Halving.{test_is, place_in_back, place_in_front, none_in_empty, none_behind}
use Rattle.timers.proofs.partition.ring_partition_point.Goals as goal
use Rattle.timers.proofs.partition.ring_partition_point.Goals.{in_default-via-in-Some+else-test, in_default-via-in_default}

pub returns-in-Some-clause-place : goal.returns-in-Some-clause-place
returns-in-Some-clause-place g c p computes h =
    let front = c.as_slices.result.0.now in
    let back = c.as_slices.result.1.now in
    let point = c.partition_point.ensures in
    subst (λ l. length front + c.partition_point.result ≡ prefix_len p l) c.as_slices.ensures.items
    (place_in_back p front back c.partition_point.result computes c.in-Some.first.now c.in-Some.ensures.value (sym (test_is p g.met.P.FnMut.1 computes c.in-Some.first c.test.result c.test.ensures) ∙ c.if-test.true) point.bound point.partitioned (subst (IsPartitionedBy p) (sym c.as_slices.ensures.items) h))

pub returns-in_default-clause-place : goal.returns-in_default-clause-place
returns-in_default-clause-place g c p computes h =
    let front = c.as_slices.result.0.now in
    let back = c.as_slices.result.1.now in
    let point = c.partition_point-in_default.ensures in
    subst (λ l. c.partition_point-in_default.result ≡ prefix_len p l) c.as_slices.ensures.items
    (place_in_front p front back c.partition_point-in_default.result computes
    (elim c.in_default.branch [
      | in_default-via-in-Some+else-test w ↦ none_behind p back w.in-Some.first.now w.in-Some.ensures.value (sym (test_is p g.met.P.FnMut.1 computes w.in-Some.first w.test.result w.test.ensures) ∙ w.if-test.false)
      | in_default-via-in_default w ↦ none_in_empty p back w.in_default.ensures.value
    ]) point.bound point.partitioned (subst (IsPartitionedBy p) (sym c.as_slices.ensures.items) h))

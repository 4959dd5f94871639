use Rattle.std.proofs.Common.{rules, ◌<◌, ◌≤◌}
use Rattle.relay.specs.Limits.{most_failures}
use Rattle.relay.proofs.Rounds.{failed_too_often, one_more_made}
use Rattle.relay.proofs.serve.make_rounds.Goals as goal

pub returns-then-failures-ge-MAX_FAILURES : goal.returns-then-failures-ge-MAX_FAILURES
returns-then-failures-ge-MAX_FAILURES g c =
    let many : most_failures ≤ c.failures_after-failures.result = search rules in
    failed_too_often _ _ _ _ _ _ c.loop.invariant c.round.ensures.leads c.failures_after-failures.ensures many

pub loop-preserved : goal.loop-preserved
loop-preserved g c =
    let few : c.failures_after-failures.result < most_failures = search rules in
    one_more_made _ _ _ _ _ _ c.loop.invariant c.round.ensures.leads c.failures_after-failures.ensures few

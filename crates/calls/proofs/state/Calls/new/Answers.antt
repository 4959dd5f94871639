use Rattle.std.proofs.Common.{◌∙◌, [], List, ap, map, subst, sym}
use Rattle.port_pool.specs.Pool as pools
use Rattle.calls.specs.declared.standing_call.StandingCall.{StandingCall}
use Rattle.calls.specs.State.{AreKept}
use Rattle.calls.specs.Tags.{prints_of}
use Rattle.calls.proofs.KeptLaws.{kept_none}
use Rattle.calls.proofs.state.Calls.new.Goals as goal

pub invariant_of-result : goal.invariant_of-result
invariant_of-result c = (
  subst (λ (cs : List StandingCall). AreKept cs c.in_ok-pool.pool 0) (sym c.new-2.ensures.items)
      (subst (λ (p : pools.Contents). AreKept [] p 0) (sym c.in_ok-pool.ensures) (kept_none c.args.first c.args.pairs)),
  c.new-3.ensures.items ∙ sym (ap (map (prints_of c.args.key)) c.new-2.ensures.items),
)

use Rattle.std.proofs.Common.{◌+◌, ◌∙◌, List, ap, subst, sym}
use Rattle.calls.specs.declared.standing_call.StandingCall.{StandingCall}
use Rattle.calls.specs.Carrying.{with_step}
use Rattle.calls.specs.State.{AreKept}
use Rattle.call_core.specs.Plans.{carried}
use Rattle.calls.proofs.KeptLaws.{kept_pushed}
use Rattle.calls.proofs.state.Calls.begin.Goals as goal

pub invariant_of-self : goal.invariant_of-self
invariant_of-self c =
    let call = c.into_inner.result in
    let number = ap (λ (s : StandingCall). s.call.number) c.into_inner.ensures ∙ (rw (← c.self.view_is) at c.requires.number) in (
      subst (λ (cs : List StandingCall). AreKept cs c.begin_in-changes.new.pool (c.self.inside.begun + 1)) (sym c.begin_in-changes.ensures.calls)
          (kept_pushed c.spared_call_is_served.ensures c.self.inside.calls.items (with_step call (carried call.call c.self.inside.pool c.args.now c.args.plan))
          c.self.inside.pool c.begin_in-changes.new.pool c.self.inside.begun c.self.invariant.0 number c.begin_in-changes.ensures.spares c.begin_in-changes.ensures.serves),
      c.begin_in-changes.ensures.noted,
    )

use Rattle.std.proofs.Common.{◌≡◌, ◌∙◌, subst}
use Rattle.call_core.specs.CallRows.{signal_at}
use Rattle.call_core.specs.Plans.{carried}
use Rattle.call_core.proofs.PlanLaws.{plain_may, plain_step}
use Rattle.call_core.proofs.call.Call.plan_at.Goals as goal

pub returns-in_ok-plan_signal-in_default : goal.returns-in_ok-plan_signal-in_default
returns-in_ok-plan_signal-in_default c =
    let call = c.args.self.now in
    let pool = c.args.pool.now in
    let plan = c.in_ok-plan_signal-in_default.field-0 in
    let line = subst (λ signal. carried call pool c.args.now plan ≡ signal_at call c.args.standing signal pool c.args.now) c.signal.ensures c.in_ok-plan_signal-in_default.ensures.row in
    record {
      row = line ∙ plain_step call c.args.standing c.args.input.now pool c.args.now c.in_default.not-Offer c.in_default.not-Answer;
      planned = c.in_ok-plan_signal-in_default.ensures.planned;
      may = plain_may call c.args.standing pool c.args.input.now c.args.now c.in_default.not-Offer c.in_default.not-Answer;
      refused = tt;
    }

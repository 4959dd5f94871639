use Rattle.std.proofs.Common.{◌≡◌, ◌∙◌, ap, subst}
use Rattle.registrar.specs.Registrar.{Contents, Fails, answer_of, rules_of}
use Rattle.responses.specs.Registering.{register_of}
use Rattle.plans.specs.Office.{Office}
use Rattle.plans.specs.Replies.{registers}
use Rattle.plans.proofs.office.Office.registers.Goals as goal

pub returns : goal.returns
unfolding registers
returns c =
    let s = c.args.self.now in
    let now = c.args.setting.now in
    let refusal = c.in-Err.refusal in
    let same = ap (λ (o : Office). o.registrar) c.self.view_is in
    let is = c.in_ok-register.ensures ∙ ap (λ (x : Contents). register_of (rules_of x) c.args.request.now) same in
    let known = subst (λ (x : Contents). Fails refusal (answer_of x c.in_ok-register.register now)) same c.in-Err.ensures.answer in
    let register = register_of (rules_of s.registrar) c.args.request.now in
    let fails = subst (λ r. Fails refusal (answer_of s.registrar r now)) is known in
    c.refusal_plan.ensures register.user (answer_of s.registrar register now) fails

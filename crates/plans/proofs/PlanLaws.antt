-- A step of a call after what the transactions do.
use Rattle.std.proofs.Common.{◌≡◌, ◌∙◌, ℕ, ◌<◌, ◌≤◌, ◌+◌, ◌^◌, List, Option, Result, IfOk, Bool, false, cond, [], Some, None, refl, ap, sym, subst, arith}
use Rattle.transactions.specs.declared.change.Entry.{Entry}
use Rattle.transactions.specs.declared.outcome.Outgoing.{Outgoing}
use Rattle.calls.specs.State.{Standing}
use Rattle.calls.specs.Changes.{FitsChange, entered, unchanged}
use Rattle.calls.specs.declared.change.LegDialog.{LegDialog}
use Rattle.call_steps.specs.Effects as steps
use Rattle.call_steps.specs.declared.call_step.CallStep.{CallStep}
use Rattle.plans.specs.declared.acks.KeptAck.{KeptAck}
use Rattle.plans.specs.declared.effects_of_events.Doing.{Doing}
use Rattle.sip_message.specs.declared.message.Request.{Request}
use Rattle.plans.specs.declared.setting.Setting.{Setting}
use Rattle.plans.specs.CallRows.{are_full, puts_if, refuses_first, unless_full, with_step}
use Rattle.plans.specs.Plan.{Plan}
use Rattle.plans.specs.declared.reason.Reason.TheVariants.{TooManyCalls}
use Rattle.plans.specs.Office.{Office}
use Rattle.plans.specs.Effect.{CanEnter, Effect, effect}

-- the same step, after the same
pub stepped_as : {E : Type 0} (r : Result Doing E) (calls : Standing) (acks : List KeptAck) (now : ℕ) (b b_as : List Entry) (send send_as : Option Outgoing) (id id_as : Option ℕ) (x y : steps.Effect)
    → b ≡ b_as → send ≡ send_as → id ≡ id_as → x ≡ y
    → IfOk r (λ d. effect calls acks now d ≡ with_step acks b send id x) → IfOk r (λ d. effect calls acks now d ≡ with_step acks b_as send_as id_as y)
stepped_as r calls acks now b b_as send send_as id id_as x y b_is send_is id_is x_is h =
    let same = ap (λ (l : List Entry). with_step acks l send id x) b_is ∙ ap (λ (o : Option Outgoing). with_step acks b_as o id x) send_is
    ∙ ap (λ (i : Option ℕ). with_step acks b_as send_as i x) id_is ∙ ap (with_step acks b_as send_as id_as) x_is in
    subst (λ e. IfOk r (λ d. effect calls acks now d ≡ e)) same h

-- the same effect
pub effect_as : {E : Type 0} (r : Result Doing E) (calls : Standing) (acks : List KeptAck) (now : ℕ) (x y : Effect) → x ≡ y
    → IfOk r (λ d. effect calls acks now d ≡ x) → IfOk r (λ d. effect calls acks now d ≡ y)
effect_as r calls acks now x y same h = subst (λ e. IfOk r (λ d. effect calls acks now d ≡ e)) same h

-- a dialog is put beside the call at a place, where there is one
abbrev pub put_beside : Office → Plan → ℕ → Option LegDialog → Effect
put_beside s plan place leg = record { plan = plan; calls = unchanged (puts_if s.calls place leg); acks = s.acks }

-- one more call may begin
pub not_full : (s : Office) (e : Setting) (r : Request) (begun : List Entry) (id : ℕ) (x : steps.Effect) → false ≡ are_full s
    → with_step s.acks begun None None x ≡ unless_full s e r begun id x
not_full s e r begun id x h = ap (λ (b : Bool). cond b (refuses_first s e r begun id TooManyCalls) (with_step s.acks begun None None x)) h

-- a step that no call begins with
pub enters_alone : (calls : Standing) (now : ℕ) (step : CallStep) → FitsChange calls now step.change → step.dressed.made < 2 ^ 63
    → (entered calls now step.change).standing.begun ≡ calls.begun → CanEnter calls now step
enters_alone calls now step fits few same = record { change = fits; few = few; begun = omega (arith, same) }

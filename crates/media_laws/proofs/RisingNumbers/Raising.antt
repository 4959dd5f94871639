-- What a step of a call makes of the numbers that its dialogs have taken, with what is put beside it.
use Rattle.std.proofs.Common.{◌≡◌, ◌∙◌, ℕ, ◌≤◌, Bool, true, Option, Some, None, option_map, refl, ap, sym, subst, arith}
use Rattle.std.proofs.lemmas.Bool.{false≢true, ltb-true}
use Rattle.events.specs.declared.sent.Sent.{Sent}
use Rattle.sip_uri.specs.declared.uri.Uri.{Uri}
use Rattle.dialogs.specs.Counting.{IsOld, is_above}
use Rattle.dialogs.specs.declared.state.Dialog.{Dialog}
use Rattle.call_media.specs.declared.end.End.{End}
use Rattle.call_media.specs.declared.end.End.TheVariants.{Caller, Callee}
use Rattle.call_core.specs.Calls.{dialog_of, holds_in, to_target, with_dialog, with_target}
use Rattle.call_core.specs.Plans.{Step}
use Rattle.call_core.specs.declared.call.Call.{Call}
use Rattle.call_core.specs.declared.stage.Standing.{Standing}
use Rattle.call_rules.specs.Responses.{awaits_final}
use Rattle.call_steps.specs.Scenes.{tag_to}
use Rattle.calls.specs.Carrying.{offerer_of, reached_call, with_call}
use Rattle.calls.specs.Changes.{beside, with_last, with_leg, with_taken_if}
use Rattle.calls.specs.declared.change.Beside.{Beside}
use Rattle.calls.specs.declared.change.LegDialog.{LegDialog}
use Rattle.calls.specs.declared.standing_call.OfferRequest.{OfferRequest}
use Rattle.calls.specs.declared.standing_call.StandingCall.{StandingCall}
use Rattle.calls.specs.declared.standing_call.TakenOffer.{TakenOffer}
use Rattle.message_laws.proofs.TokenUse.Apartness.{SameTags}
use Rattle.message_laws.proofs.TokenUse.Calls.{FitsLeg, KeepsIds, same_beside}
use Rattle.message_laws.proofs.AwaitedOffers.Tables.{TakesFits}
use Rattle.message_laws.proofs.AwaitedOffers.WaitPassed.{PassesOn, counted}
use Rattle.media_laws.specs.Rising.{IsRaised}
use Rattle.media_laws.specs.Taken.{HasTakenOffer, IsTakenIn}

-- ---- dialogs

-- what one had taken the other has
abbrev pub Raises : Option Dialog → Option Dialog → Type 0
Raises d e = (number : ℕ) → IsTakenIn number d → IsTakenIn number e

abbrev pub CallRaises : Call → Call → Type 0
CallRaises c d = (end : End) → Raises (dialog_of end c) (dialog_of end d)

-- a number that is above what was taken
pub below_above : (last : Option ℕ) (old number : ℕ) → IsOld last old → is_above last number ≡ true → old ≤ number
below_above None old number taken above = absurd taken
below_above (Some last) old number taken above = let lt = ltb-true last number above in omega (arith, taken, lt)

target_raises : (target : Uri) (d : Option Dialog) → Raises d (option_map (to_target target) d)
target_raises target None number h = h
target_raises target (Some d) number h = h

-- ---- a step

pub same_raises : (c d : Call) → d.caller ≡ c.caller → d.callee ≡ c.callee → CallRaises c d
same_raises c d caller callee Caller number h = subst (λ x. IsTakenIn number (Some x)) (sym caller) h
same_raises c d caller callee Callee number h = subst (IsTakenIn number) (sym callee) h

counted_raises : (d : Option Dialog) → Raises d (counted d)
counted_raises None number h = h
counted_raises (Some d) number h = h

pub passes_raises : (c : Call) (x : End) (step : Step) → PassesOn c x step → CallRaises c step.call
passes_raises c Caller step on Caller number h = subst (IsTakenIn number) (sym on.mine) h
passes_raises c Caller step on Callee number h = subst (IsTakenIn number) (sym on.theirs) (counted_raises c.callee number h)
passes_raises c Callee step on Caller number h = subst (IsTakenIn number) (sym on.theirs) (counted_raises (Some c.caller) number h)
passes_raises c Callee step on Callee number h = subst (IsTakenIn number) (sym on.mine) h

-- ---- what is put beside a call

abbrev pub LegRaises : Call → Option LegDialog → Type 0
LegRaises c None = Unit {0}
LegRaises c (Some leg) = Raises (dialog_of leg.end c) (Some leg.dialog)

pub put_raises : (c : Call) (at : End) (d : Dialog) → Raises (dialog_of at c) (Some d) → CallRaises c (with_dialog at d c)
put_raises c Caller d h Caller number k = h number k
put_raises c Caller d h Callee number k = k
put_raises c Callee d h Caller number k = k
put_raises c Callee d h Callee number k = h number k

leg_put : (c : StandingCall) (leg : Option LegDialog) → LegRaises c.call leg → CallRaises c.call (with_leg leg c).call
leg_put c None h end number k = k
leg_put c (Some leg) h end number k = put_raises c.call leg.end leg.dialog h end number k

taken_put : (c : StandingCall) (taken : Option TakenOffer) → CallRaises c.call (with_taken_if taken c).call
taken_put c None end number k = k
taken_put c (Some offer) end number k = k

target_put : (at : End) (target : Uri) (c : Call) → CallRaises c (with_target at target c)
target_put Caller target c Caller number k = k
target_put Caller target c Callee number k = k
target_put Callee target c Caller number k = k
target_put Callee target c Callee number k = target_raises target c.callee number k

reached_put : (target : Option Uri) (c : Call) → CallRaises c (reached_call target c)
reached_put None c end number k = k
reached_put (Some target) c end number k = target_put (offerer_of c.standing) target c end number k

last_put : (c : StandingCall) (answer : Option Sent) → CallRaises c.call (with_last answer c).call
last_put c None end number k = k
last_put c (Some answer) end number k = reached_put c.target c.call end number k

-- after the dialog
behind_leg : (c : StandingCall) (kept : Beside) → CallRaises (with_leg kept.leg c).call (beside kept c).call
behind_leg c kept end number k =
    last_put (with_taken_if kept.taken (with_leg kept.leg c)) kept.answer end number (taken_put (with_leg kept.leg c) kept.taken end number k)

pub beside_raises : (c : StandingCall) (kept : Beside) → LegRaises c.call kept.leg → CallRaises c.call (beside kept c).call
beside_raises c kept h end number k = behind_leg c kept end number (leg_put c kept.leg h end number k)

put_at : (at : End) (d : Dialog) (c : Call) → dialog_of at (with_dialog at d c) ≡ Some d
put_at Caller d c = refl
put_at Callee d c = refl

leg_taken : (c : StandingCall) (leg : Option LegDialog) (own : LegDialog) (number : ℕ) → leg ≡ Some own → IsTakenIn number (Some own.dialog) → IsTakenIn number (dialog_of own.end (with_leg leg c).call)
leg_taken c leg own number is h =
    subst (λ x. IsTakenIn number (dialog_of own.end (with_leg x c).call)) (sym is) (subst (IsTakenIn number) (sym (put_at own.end own.dialog c.call)) h)

-- what the dialog that is put has taken
pub leg_beside : (c : StandingCall) (kept : Beside) (own : LegDialog) (number : ℕ) → kept.leg ≡ Some own → IsTakenIn number (Some own.dialog) → IsTakenIn number (dialog_of own.end (beside kept c).call)
leg_beside c kept own number is h = behind_leg c kept own.end number (leg_taken c kept.leg own number is h)

-- ---- the call afterwards

pub tags_same : (c d : StandingCall) → SameTags c d → (end : End) → tag_to end d ≡ tag_to end c
tags_same c d same Caller = same.caller
tags_same c d same Callee = same.callee

pub step_raised : (made : ℕ) (c : StandingCall) (call : Call) (kept : Beside) → KeepsIds c.call call → FitsLeg made c kept.leg → CallRaises c.call call → LegRaises call kept.leg → IsRaised c (beside kept (with_call call c))
step_raised made c call kept keeps fits raises leg = record {
  tags = tags_same c (beside kept (with_call call c)) (same_beside made c call kept keeps fits);
  taken = λ end number h. beside_raises (with_call call c) kept leg end number (raises end number h);
}

-- ---- the offer that was taken last

holds_at : (standing : Option Standing) → holds_in awaits_final standing ≡ true → (n : Standing) × (standing ≡ Some n) × (awaits_final n.stage ≡ true)
holds_at None h = absurd (false≢true h)
holds_at (Some n) h = (n, refl, h)

-- the call waits on for the final response to it
pub offer_on : (c d : StandingCall) (final : Bool) (step : Step) → TakesFits c.call final step → d.asked ≡ c.asked → d.call.standing ≡ step.call.standing → CallRaises c.call d.call → HasTakenOffer c → HasTakenOffer d
offer_on c d final step fits asked stands raises h waits =
    let now = holds_at step.call.standing (subst (λ x. holds_in awaits_final x ≡ true) stands waits) in
    let before = fits.comes now.0 now.1 now.2 in
    let taken = h (subst (λ x. holds_in awaits_final x ≡ true) (sym before.1) before.2.awaits) in
    let same : offerer_of d.call.standing ≡ offerer_of c.call.standing = ap offerer_of (stands ∙ now.1) ∙ before.2.offerer ∙ ap offerer_of (sym before.1) in
    subst (λ x. IsTakenIn d.asked.number (dialog_of x d.call)) (sym same)
    (subst (λ (a : OfferRequest). IsTakenIn a.number (dialog_of (offerer_of c.call.standing) d.call)) (sym asked) (raises (offerer_of c.call.standing) c.asked.number taken))

-- or takes it now
pub offer_taken : (c : Call) (d : StandingCall) (x : End) (step : Step) (number : ℕ) → PassesOn c x step → d.asked.number ≡ number → d.call.standing ≡ step.call.standing → IsTakenIn number (dialog_of x d.call) → HasTakenOffer d
offer_taken c d x step number on asked stands h waits =
    let same : offerer_of d.call.standing ≡ x = ap offerer_of (stands ∙ on.stands) ∙ on.offerer in
    subst (λ y. IsTakenIn d.asked.number (dialog_of y d.call)) (sym same) (subst (λ n. IsTakenIn n (dialog_of x d.call)) (sym asked) h)

-- The steps of calls: a request of the server's own that waits is the open offer of its call afterwards too, or of
-- none.
use Rattle.std.proofs.Common.{◌≡◌, ◌∙◌, ℕ, ◌≤◌, Bool, true, false, List, Option, Some, None, is_some, refl, ap, sym, subst}
use Rattle.std.specs.Prelude.{slice_get}
use Rattle.std.proofs.lemmas.Bool.{false≢true}
use Rattle.sip_uri.specs.declared.uri.Uri.{Uri}
use Rattle.sip_message.specs.declared.message.Request.{Request}
use Rattle.sip_message.specs.Contact.{contacts_of}
use Rattle.dialogs.specs.declared.state.Dialog.{Dialog}
use Rattle.dialogs.specs.Counting.{last_number}
use Rattle.dialogs.specs.Making.{reached_at}
use Rattle.transactions.specs.declared.transaction.Transaction.{Transaction}
use Rattle.call_media.specs.declared.end.End.{End}
use Rattle.call_media.specs.declared.end.End.TheVariants.{Caller, Callee}
use Rattle.call_core.specs.declared.call.Call.{Call}
use Rattle.call_core.specs.declared.stage.Standing as stage
use Rattle.call_core.specs.Calls.{dialog_of, to_target}
use Rattle.call_core.specs.Plans.{Step}
use Rattle.calls.specs.Carrying.{with_step}
use Rattle.calls.specs.Changes.{beside}
use Rattle.calls.specs.Finding.{has_tag}
use Rattle.calls.specs.declared.change.Beside.{Beside}
use Rattle.calls.specs.declared.change.LegDialog.{LegDialog}
use Rattle.calls.specs.declared.standing_call.StandingCall.{StandingCall}
use Rattle.call_rules.specs.Responses.{awaits_final, is_open}
use Rattle.call_steps.specs.Rows.{counts, counts_by, counts_in, leg_at, refreshes}
use Rattle.message_laws.specs.Waiting.{FitsCall, from_tag, waits}
use Rattle.message_laws.proofs.AwaitedOffers.Awaiting.{CallGrows, CallKeeps, Grows, Keeps, LegGrows, LegKeeps, beside_grows, beside_keeps, beside_standing, fits_after, leg_kept, opened, opens_on}
use Rattle.message_laws.proofs.TokenUse.Calls.{FitsLeg, KeepsIds, same_beside}
use Rattle.message_laws.proofs.AwaitedOffers.Coming.{IsLater}
use Rattle.message_laws.proofs.AwaitedOffers.Tables.{TakesFits, WaitsOn}

-- ---- the dialogs of a step that sends no offer

pub dialog_stays : (c : Call) (final : Bool) (step : Step) (end : End) → TakesFits c final step → dialog_of end step.call ≡ dialog_of end c
dialog_stays c final step Caller fits = ap Some fits.caller
dialog_stays c final step Callee fits = fits.callee

pub leg_grows_on : (c : Call) (final : Bool) (step : Step) (leg : Option LegDialog) → TakesFits c final step → LegGrows c leg → LegGrows step.call leg
leg_grows_on c final step None fits h = tt
leg_grows_on c final step (Some leg) fits h = subst (λ d. Grows d (Some leg.dialog)) (sym (dialog_stays c final step leg.end fits)) h

pub leg_keeps_on : (c : Call) (final : Bool) (step : Step) (leg : Option LegDialog) → TakesFits c final step → LegKeeps c leg → LegKeeps step.call leg
leg_keeps_on c final step None fits h = tt
leg_keeps_on c final step (Some leg) fits h = subst (λ d. Keeps d (Some leg.dialog)) (sym (dialog_stays c final step leg.end fits)) h

pub grows_from : (c : Call) (final : Bool) (step : Step) (d : Call) → TakesFits c final step → CallGrows step.call d → CallGrows c d
grows_from c final step d fits h = record {
  caller = subst (λ x. last_number x ≤ last_number d.caller) fits.caller h.caller;
  callee = subst (λ x. Grows x d.callee) fits.callee h.callee;
}

pub keeps_from : (c : Call) (final : Bool) (step : Step) (d : Call) → TakesFits c final step → CallKeeps step.call d → CallKeeps c d
keeps_from c final step d fits h = record {
  caller = h.caller ∙ ap last_number fits.caller;
  callee = subst (λ x. Keeps x d.callee) fits.callee h.callee;
}

-- ---- an offer that is open stays open where nothing final came

waits_at : (s : stage.Standing) (standing : Option stage.Standing) → is_some standing ≡ true → WaitsOn s standing → (n : stage.Standing) × (standing ≡ Some n) × (awaits_final n.stage ≡ true) × (n.offerer ≡ s.offerer)
waits_at s None some h = absurd (false≢true some)
waits_at s (Some n) some h = (n, refl, h.0, h.1)

calm_opens : (t : Transaction) (made : ℕ) (c : StandingCall) (step : Step) (kept : Beside) → KeepsIds c.call step.call → FitsLeg made c kept.leg → LegKeeps c.call kept.leg → TakesFits c.call false step
    → is_some step.call.standing ≡ true → is_open t.parts c ≡ true → is_open t.parts (beside kept (with_step c step)) ≡ true
calm_opens t made c step kept keeps fits_leg leg fits stands h =
    let d = beside kept (with_step c step) in
    let before = opened t.parts c h in
    let after = waits_at before.0 step.call.standing stands (fits.waits_on before.0 before.1.stands refl before.1.awaits) in
    opens_on t.parts c d before.0 after.0 (same_beside made c step.call kept keeps fits_leg) (keeps_from c.call false step d.call fits (beside_keeps (with_step c step) kept (leg_keeps_on c.call false step kept.leg fits leg)))
    before.1 (beside_standing (with_step c step) kept ∙ after.1) after.2 after.3

-- what holds for this call afterwards, of a request that it has
pub step_fits : (t u : Transaction) (made : ℕ) (c : StandingCall) (final : Bool) (step : Step) (kept : Beside) → KeepsIds c.call step.call → FitsLeg made c kept.leg → LegGrows c.call kept.leg
    → TakesFits c.call final step → IsLater t u → (has_tag (from_tag t) c ≡ true → waits u.state ≡ true → is_open t.parts c ≡ true → is_open t.parts (beside kept (with_step c step)) ≡ true) → FitsCall t c
    → FitsCall u (beside kept (with_step c step))
step_fits t u made c final step kept keeps fits_leg leg fits later opens h =
    let d = beside kept (with_step c step) in
    fits_after t u c d (same_beside made c step.call kept keeps fits_leg) (grows_from c.call final step d.call fits (beside_grows (with_step c step) kept (leg_grows_on c.call final step kept.leg fits leg))) later
    opens h

pub calm_fits : (t u : Transaction) (made : ℕ) (c : StandingCall) (step : Step) (kept : Beside) → KeepsIds c.call step.call → FitsLeg made c kept.leg → LegKeeps c.call kept.leg → TakesFits c.call false step
    → IsLater t u → FitsCall t c → is_some step.call.standing ≡ true → FitsCall u (beside kept (with_step c step))
calm_fits t u made c step kept keeps fits_leg leg fits later h stands =
    step_fits t u made c false step kept keeps fits_leg (leg_kept c.call kept.leg leg) fits later (λ tag w. calm_opens t made c step kept keeps fits_leg leg fits stands) h

-- ---- dialogs that come with an event keep the numbers that the server gave

counts_in_keeps : (end : End) (number : ℕ) (c : Call) (d : Option Dialog) → dialog_of end c ≡ d → LegKeeps c (counts_in end number d)
counts_in_keeps end number c None is = tt
counts_in_keeps end number c (Some d) is = subst (λ x. Keeps x (Some (record d { remote_number = Some number }))) (sym is) refl

-- in a call in which this end's dialog is as it was
pub counts_keeps_in : (calls : List StandingCall) (place : ℕ) (end : End) (number : ℕ) (c : StandingCall) (call : Call) → slice_get calls place ≡ Some c → dialog_of end call ≡ dialog_of end c.call
    → LegKeeps call (counts calls place end number)
unfolding counts
counts_keeps_in calls place end number c call there is = subst (λ x. LegKeeps call (counts_by end number x)) (sym there) (counts_in_keeps end number call (dialog_of end c.call) is)

pub counts_keeps : (calls : List StandingCall) (place : ℕ) (end : End) (number : ℕ) (c : StandingCall) → slice_get calls place ≡ Some c → LegKeeps c.call (counts calls place end number)
counts_keeps calls place end number c there = counts_keeps_in calls place end number c c.call there refl

keeps_target : (target : Uri) (d : Option Dialog) (e : Dialog) → Keeps d (Some e) → Keeps d (Some (to_target target e))
keeps_target target None e h = h
keeps_target target (Some d) e h = h

leg_at_keeps : (target : Option Uri) (c : Call) (leg : Option LegDialog) → LegKeeps c leg → LegKeeps c (leg_at target leg)
leg_at_keeps None c leg h = h
leg_at_keeps (Some target) c None h = tt
leg_at_keeps (Some target) c (Some leg) h = keeps_target target (dialog_of leg.end c) leg.dialog h

pub refreshes_keeps : (calls : List StandingCall) (place : ℕ) (end : End) (r : Request) (c : StandingCall) → slice_get calls place ≡ Some c → LegKeeps c.call (refreshes calls place end r)
unfolding refreshes
refreshes_keeps calls place end r c there = leg_at_keeps (reached_at (contacts_of r.headers)) c.call (counts calls place end r.parts.cseq.number) (counts_keeps calls place end r.parts.cseq.number c there)

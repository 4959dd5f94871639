-- A call keeps its open offer until it is answered or given up, and the request that carries it stays the open one.
use Rattle.std.proofs.Common.{◌≡◌, ◌∙◌, ℕ, ◌==◌, Bool, true, false, Option, Some, None, refl, ap, sym, subst, inl, inr}
use Rattle.sip_uri.specs.declared.uri.Uri.{Uri}
use Rattle.dialogs.specs.declared.state.Dialog.{Dialog}
use Rattle.transactions.specs.declared.transaction.Transaction.{Transaction}
use Rattle.call_media.specs.declared.end.End.{End}
use Rattle.call_media.specs.declared.end.End.TheVariants.{Caller, Callee}
use Rattle.call_media.specs.Ends.{is_same, other}
use Rattle.call_core.specs.declared.call.Call.{Call}
use Rattle.call_core.specs.declared.stage.Standing as stage
use Rattle.call_core.specs.Calls.{dialog_of, with_dialog, with_target}
use Rattle.call_core.specs.Plans.{Step}
use Rattle.calls.specs.Carrying.{with_dialog_at, with_step}
use Rattle.calls.specs.Changes.{beside}
use Rattle.calls.specs.declared.change.Beside.{Beside}
use Rattle.calls.specs.declared.change.LegDialog.{LegDialog}
use Rattle.calls.specs.declared.standing_call.StandingCall.{StandingCall}
use Rattle.call_rules.specs.Responses.{asked_end, awaits_final, is_last_in, is_open}
use Rattle.message_laws.specs.Carried.{CarriesIf, CarriesOpen, has_leg, awaits_callee}
use Rattle.message_laws.specs.Waiting.{from_tag}
use Rattle.message_laws.proofs.TokenUse.Apartness.{SameTags}
use Rattle.message_laws.proofs.AwaitedOffers.Awaiting.{CallKeeps, Keeps, LegKeeps, beside_keeps, beside_standing, keeps_at, open_from, opened, same_end, same_tag}
use Rattle.message_laws.proofs.Messages.Besides.{beside_same}
use Rattle.message_laws.proofs.TokenUse.Calls.{FitsLeg, KeepsIds, same_beside, same_leg_put}
use Rattle.message_laws.proofs.AwaitedOffers.Tables.{KeepsOffer, TakesFits}
use Rattle.message_laws.proofs.AwaitedOffers.WaitSteps.{keeps_from, leg_keeps_on}

-- ---- what is put beside a call leaves its media

dialog_media : (end : End) (d : Dialog) (c : Call) → (with_dialog end d c).media ≡ c.media
dialog_media Caller d c = refl
dialog_media Callee d c = refl

target_media : (end : End) (target : Uri) (c : Call) → (with_target end target c).media ≡ c.media
target_media Caller target c = refl
target_media Callee target c = refl

pub beside_media : (c : StandingCall) (kept : Beside) → (beside kept c).call.media ≡ c.call.media
beside_media = beside_same (λ c. c.media) dialog_media target_media

-- ---- a call whose open offer is the earlier one

-- where it waits for a final response now, it waited for it before
pub record CameFrom (c d : StandingCall) (n : stage.Standing) : Type 0 where
  pub before : stage.Standing
  pub stands : c.call.standing ≡ Some before
  pub awaits : awaits_final before.stage ≡ true
  pub offerer : n.offerer ≡ before.offerer
  pub asked : awaits_callee n.stage ≡ true → awaits_callee before.stage ≡ true
  pub keeps : CallKeeps c.call d.call

pub record StillOpen (c d : StandingCall) : Type 0 where
  pub same : SameTags c d
  pub came : (n : stage.Standing) → d.call.standing ≡ Some n → awaits_final n.stage ≡ true → CameFrom c d n
  pub offer : KeepsOffer c.call d.call

last_back : (number : ℕ) (d e : Option Dialog) → Keeps d e → is_last_in number e ≡ true → is_last_in number d ≡ true
last_back number None e h k = refl
last_back number (Some d) None h k = absurd h
last_back number (Some d) (Some e) h k = ap (λ n. n == number) (sym h) ∙ k

pub leg_back : (d e : Option Dialog) (s n : stage.Standing) → Keeps d e → (awaits_callee n.stage ≡ true → awaits_callee s.stage ≡ true) → has_leg e (Some n) ≡ true → has_leg d (Some s) ≡ true
leg_back None None s n h f k = f k
leg_back None (Some e) s n h f k = absurd h
leg_back (Some d) e s n h f k = refl

pub offer_after : (t : Transaction) (c d : Call) → KeepsOffer c d → CarriesIf t c.media.offer → CarriesIf t d.media.offer
offer_after t c d (inl none) h = subst (CarriesIf t) (sym none) tt
offer_after t c d (inr same) h = subst (CarriesIf t) (sym same) h

pub carries_after : (t : Transaction) (c d : StandingCall) → StillOpen c d → CarriesOpen t c → CarriesOpen t d
carries_after t c d still carries = λ has opens leg.
    let number = t.parts.cseq.number in
    let end = asked_end t.parts c in
    let ends : asked_end t.parts d ≡ end = same_end t.parts c d still.same in
    let now = opened t.parts d opens in
    let came = still.came now.0 now.1.stands now.1.awaits in
    let kept = keeps_at c.call d.call end came.keeps in
    let opens_before : is_open t.parts c ≡ true = open_from t.parts c came.before (
    record {
      stands = came.stands;
      awaits = came.awaits;
      end = ap (λ x. is_same x (other came.before.offerer)) (sym ends) ∙ ap (λ x. is_same (asked_end t.parts d) (other x)) (sym came.offerer) ∙ now.1.end;
      last = last_back number (dialog_of end c.call) (dialog_of end d.call) kept (subst (λ x. is_last_in number (dialog_of x d.call) ≡ true) ends now.1.last);
    }
    ) in
    let leg_now : has_leg (dialog_of end d.call) (Some now.0) ≡ true = subst (λ s. has_leg (dialog_of end d.call) s ≡ true) now.1.stands (subst (λ x. has_leg (dialog_of x d.call) d.call.standing ≡ true) ends leg) in
    let leg_before : has_leg (dialog_of end c.call) c.call.standing ≡ true = subst (λ s. has_leg (dialog_of end c.call) s ≡ true) (sym came.stands)
    (leg_back (dialog_of end c.call) (dialog_of end d.call) came.before now.0 kept came.asked leg_now) in
    offer_after t c.call d.call still.offer (carries (sym (same_tag (from_tag t) c d still.same) ∙ has) opens_before leg_before)

-- ---- after a step that sends no offer, and after a dialog was put

offer_beside : (c : Call) (call : Call) (d : StandingCall) → d.call.media ≡ call.media → KeepsOffer c call → KeepsOffer c d.call
offer_beside c call d same (inl none) = inl (ap (λ m. m.offer) same ∙ none)
offer_beside c call d same (inr kept) = inr (ap (λ m. m.offer) same ∙ kept)

pub step_open : (made : ℕ) (c : StandingCall) (final : Bool) (step : Step) (kept : Beside) → KeepsIds c.call step.call → FitsLeg made c kept.leg → (final ≡ false → LegKeeps c.call kept.leg) → TakesFits c.call final step
    → StillOpen c (beside kept (with_step c step))
step_open made c final step kept ids tags leg fits =
    let d = beside kept (with_step c step) in
    record {
      same = same_beside made c step.call kept ids tags;
      came = λ n stands w.
          let h = fits.comes n (sym (beside_standing (with_step c step) kept) ∙ stands) w in
          record {
            before = h.0;
            stands = h.1;
            awaits = h.2.awaits;
            offerer = h.2.offerer;
            asked = h.2.asked;
            keeps = keeps_from c.call final step d.call fits (beside_keeps (with_step c step) kept (leg_keeps_on c.call final step kept.leg fits (leg h.2.calm)));
          };
      offer = offer_beside c.call step.call d (beside_media (with_step c step) kept) fits.offer;
    }

abbrev alone : LegDialog → Beside
alone leg = record { leg = Some leg; taken = None; answer = None }

pub put_open : (made : ℕ) (c : StandingCall) (leg : LegDialog) → FitsLeg made c (Some leg) → LegKeeps c.call (Some leg) → StillOpen c (with_dialog_at leg.end leg.dialog c)
put_open made c leg tags keeps = record {
  same = same_leg_put made c (Some leg) tags;
  came = λ n stands w. record { before = n; stands = sym (beside_standing c (alone leg)) ∙ stands; awaits = w; offerer = refl; asked = λ e. e; keeps = beside_keeps c (alone leg) keeps };
  offer = offer_beside c.call c.call (with_dialog_at leg.end leg.dialog c) (beside_media c (alone leg)) (inr refl);
}

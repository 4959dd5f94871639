-- What a step of a call makes of the current calls: their dialogs have taken what they had, and the number of each
-- open offer.
use Rattle.std.proofs.Common.{◌≡◌, ◌∙◌, ℕ, ◌+◌, ◌<◌, ◌^◌, Bool, true, false, cond, get_or, List, [], ◌∷◌, ◌++◌, Option, Some, None, is_some, refl, ap, sym, subst, arith}
use Rattle.std.specs.Prelude.{slice_get}
use Rattle.std.specs.List.{All}
use Rattle.std.proofs.lemmas.List.Elements.{All-push, All-set}
use Rattle.std.proofs.lemmas.Option.{same_Some, slice_get-get_or}
use Rattle.sip_uri.specs.declared.uri.Addr.{Addr}
use Rattle.sip_uri.specs.declared.uri.Uri.{Uri}
use Rattle.sip_message.specs.Contact.{contacts_of}
use Rattle.sip_message.specs.Words.{tag_text}
use Rattle.sip_message.specs.declared.message.Parts.{Parts}
use Rattle.sip_message.specs.declared.message.Request.{Request}
use Rattle.sip_message.specs.declared.message.Response.{Response}
use Rattle.sdp.specs.declared.description.Description.{Description}
use Rattle.dialogs.specs.Making.{reached_at}
use Rattle.dialogs.specs.declared.state.Dialog.{Dialog}
use Rattle.transactions.specs.Contents as transactions
use Rattle.call_media.specs.Ends.{other}
use Rattle.call_media.specs.declared.end.End.{End}
use Rattle.call_media.specs.declared.end.End.TheVariants.{Callee, Caller}
use Rattle.call_core.specs.CallRows.{call_row, first_call_row}
use Rattle.call_core.specs.Calls.{dialog_of, holds_in}
use Rattle.call_core.specs.Plans.{Step}
use Rattle.call_core.specs.declared.call.Call.{Call}
use Rattle.call_core.specs.declared.input.Input.{Input}
use Rattle.call_core.specs.declared.input.Input.TheVariants as inputs
use Rattle.call_core.specs.declared.signal.OfferMethod.{OfferMethod}
use Rattle.call_rules.specs.Offers.{is_settled}
use Rattle.call_rules.specs.Responses.{awaits_final}
use Rattle.call_steps.specs.Rows.{answers_leg, begins_by, counts, counts_by, counts_in, dialog_after, does, first_row, first_standing, fork_by, fork_row, late_by, late_row, leg_at, leg_by, messages_of, offer_coming, offers_by, offers_row, put_with, refreshes, taken_offer, takes_by, takes_row}
use Rattle.call_steps.specs.Scenes.{tag_to}
use Rattle.call_steps.specs.Values.{AskerValue, ComingValue, without_offer}
use Rattle.call_steps.specs.declared.occasion.Occasion.{Occasion}
use Rattle.calls.specs.Carrying.{changed_at, offerer_of, with_dialog_at, with_step}
use Rattle.calls.specs.Changes.{beside}
use Rattle.calls.specs.State.{Standing}
use Rattle.calls.specs.declared.change.LegDialog.{LegDialog}
use Rattle.calls.specs.declared.standing_call.OfferRequest.{OfferRequest}
use Rattle.calls.specs.declared.standing_call.StandingCall.{StandingCall}
use Rattle.plans.specs.CallRows.{puts_if}
use Rattle.message_laws.specs.Knowing.{KnowsCalls}
use Rattle.message_laws.proofs.TokenUse.Apartness.{HasNewTags}
use Rattle.message_laws.proofs.Askers.AskedCalls.{beside_same, beside_taken, dialog_same}
use Rattle.message_laws.proofs.AwaitedOffers.Awaiting.{all_at, put_or_gone}
use Rattle.message_laws.proofs.TokenUse.Calls.{FitsLeg, call_ids, first_ids, same_leg_put}
use Rattle.message_laws.proofs.TokenUse.TaggedSteps.{counts_fits, new_tags}
use Rattle.message_laws.proofs.AwaitedOffers.Tables.{IsNoOfferInput, consumes_input, takes_fits}
use Rattle.message_laws.proofs.AwaitedOffers.WaitPassed.{passes_on}
use Rattle.media_laws.specs.Rising.{IsMadeNext, IsRaised, RisesFrom, began, stood}
use Rattle.media_laws.specs.Taken.{HasTakenOffer, IsTakenIn}
use Rattle.media_laws.proofs.RisingNumbers.DialogRules.{CountsIn}
use Rattle.media_laws.proofs.RisingNumbers.Raising.{LegRaises, below_above, leg_beside, offer_on, offer_taken, passes_raises, put_raises, same_raises, step_raised, tags_same}

-- a call afterwards
pub record Goes (made : ℕ) (calls : List StandingCall) (d : StandingCall) : Type 0 where
  pub from : RisesFrom made calls d
  pub offer : HasTakenOffer d

abbrev pub AllGo : ℕ → List StandingCall → List StandingCall → Type 0
AllGo made calls after = All (Goes made calls) after

pub kept_all : (made : ℕ) (calls : List StandingCall) → All HasTakenOffer calls → AllGo made calls calls
kept_all made calls all i d lt = record { from = stood i (get_or calls i d) (slice_get-get_or calls i d lt) (record { tags = λ end. refl; taken = λ end number h. h }); offer = all i d lt }

-- ---- the dialog that comes with an event

counts_is : (calls : List StandingCall) (place : ℕ) (end : End) (number : ℕ) (c : StandingCall) (d : Dialog) → slice_get calls place ≡ Some c → dialog_of end c.call ≡ Some d
    → counts calls place end number ≡ Some (record { end = end; dialog = record d { remote_number = Some number } })
unfolding counts
counts_is calls place end number c d there at = ap (counts_by end number) there ∙ ap (counts_in end number) at

-- in a call in which this end's dialog is as it was
pub counts_raises : (calls : List StandingCall) (place : ℕ) (end : End) (number : ℕ) (c : StandingCall) (call : Call) → CountsIn calls place end number → slice_get calls place ≡ Some c → dialog_of end call ≡ dialog_of end c.call
    → LegRaises call (counts calls place end number)
counts_raises calls place end number c call h there mine =
    let same : h.call ≡ c = same_Some h.call c (sym h.there ∙ there) in
    let at : dialog_of end call ≡ Some h.dialog = mine ∙ ap (λ (x : StandingCall). dialog_of end x.call) (sym same) ∙ h.at in
    subst (LegRaises call) (sym (counts_is calls place end number h.call h.dialog h.there h.at))
    (λ old taken. below_above h.dialog.remote_number old number (subst (IsTakenIn old) at taken) h.above)

leg_at_raises : (target : Option Uri) (c : Call) (leg : Option LegDialog) → LegRaises c leg → LegRaises c (leg_at target leg)
leg_at_raises None c leg h = h
leg_at_raises (Some target) c None h = tt
leg_at_raises (Some target) c (Some leg) h = h

pub refreshes_raises : (calls : List StandingCall) (place : ℕ) (end : End) (r : Request) (c : StandingCall) → CountsIn calls place end r.parts.cseq.number → slice_get calls place ≡ Some c → LegRaises c.call (refreshes calls place end r)
unfolding refreshes
refreshes_raises calls place end r c h there =
    leg_at_raises (reached_at (contacts_of r.headers)) c.call (counts calls place end r.parts.cseq.number) (counts_raises calls place end r.parts.cseq.number c c.call h there refl)

made_raises : (asked : Parts) (r : Response) (target : Uri) (d : Option Dialog) (number : ℕ) → IsTakenIn number d → IsTakenIn number (Some (dialog_after asked r target d))
made_raises asked r target None number h = absurd h
made_raises asked r target (Some d) number h = h

leg_by_raises : (asked : Parts) (r : Response) (target : Option Uri) (c : StandingCall) → LegRaises c.call (leg_by asked r target (Some c))
leg_by_raises asked r None c = tt
leg_by_raises asked r (Some target) c = λ number h. made_raises asked r target (dialog_of (other (offerer_of c.call.standing)) c.call) number h

pub answers_raises : (calls : List StandingCall) (place : ℕ) (asked : Parts) (r : Response) (c : StandingCall) → slice_get calls place ≡ Some c → LegRaises c.call (answers_leg calls place asked r)
unfolding answers_leg
answers_raises calls place asked r c there = subst (λ o. LegRaises c.call (leg_by asked r (reached_at (contacts_of r.headers)) o)) (sym there) (leg_by_raises asked r (reached_at (contacts_of r.headers)) c)

-- ---- a current call

-- what may be put beside it
pub record CanPut (made : ℕ) (c : StandingCall) (leg : Option LegDialog) : Type 0 where
  pub fits : FitsLeg made c leg
  pub raises : LegRaises c.call leg

leg_on : (c d : Call) (leg : Option LegDialog) → d.caller ≡ c.caller → d.callee ≡ c.callee → LegRaises c leg → LegRaises d leg
leg_on c d None caller callee h = tt
leg_on c d (Some leg) caller callee h = λ number k. h number (same_raises d c (sym caller) (sym callee) leg.end number k)

does_goes : (made : ℕ) (calls : Standing) (table : transactions.Contents) (o : Occasion) (place : ℕ) (w : ComingValue) (c : StandingCall) (step : Step) → All HasTakenOffer calls.calls → slice_get calls.calls place ≡ Some c
    → IsRaised c (beside (put_with w (messages_of table o w c step)) (with_step c step)) → HasTakenOffer (beside (put_with w (messages_of table o w c step)) (with_step c step))
    → AllGo made calls.calls (does calls table o place w c step).outcome.standing.calls
does_goes made calls table o place w c step all there raised offer =
    put_or_gone (Goes made calls.calls) calls.calls place (beside (put_with w (messages_of table o w c step)) (with_step c step)) (is_some step.call.standing)
    (λ stands. record { from = stood place c there raised; offer = offer }) (kept_all made calls.calls all)

takes_by_go : (made : ℕ) (calls : Standing) (table : transactions.Contents) (o : Occasion) (place : ℕ) (input : Input) (leg : Option LegDialog) (request : Option AskerValue) (c : Option StandingCall) → IsNoOfferInput input
    → All HasTakenOffer calls.calls → slice_get calls.calls place ≡ c → ((d : StandingCall) → slice_get calls.calls place ≡ Some d → CanPut made d leg)
    → AllGo made calls.calls (takes_by calls table o place input leg request c).outcome.standing.calls
takes_by_go made calls table o place input leg request None n all there can = kept_all made calls.calls all
takes_by_go made calls table o place input leg request (Some c) n all there can =
    let step = call_row c.call input calls.pool o.now in
    let kept = put_with (without_offer leg request) (messages_of table o (without_offer leg request) c step) in
    let d = beside kept (with_step c step) in
    let fits = takes_fits c.call input calls.pool o.now n in
    let put = can c there in
    let raised : IsRaised c d = step_raised made c step.call kept (call_ids c.call input calls.pool o.now) put.fits (same_raises c.call step.call fits.caller fits.callee) (leg_on c.call step.call leg fits.caller fits.callee put.raises) in
    let same = beside_same kept (with_step c step) refl in
    does_goes made calls table o place (without_offer leg request) c step all there raised
    (offer_on c d (consumes_input input) step fits same.0 same.1 raised.taken (all_at HasTakenOffer calls.calls place c all there))

pub takes_go : (made : ℕ) (calls : Standing) (table : transactions.Contents) (o : Occasion) (place : ℕ) (input : Input) (leg : Option LegDialog) (request : Option AskerValue) → IsNoOfferInput input → All HasTakenOffer calls.calls
    → ((d : StandingCall) → slice_get calls.calls place ≡ Some d → CanPut made d leg) → AllGo made calls.calls (takes_row calls table o place input leg request).outcome.standing.calls
unfolding takes_row
takes_go made calls table o place input leg request n all can = takes_by_go made calls table o place input leg request (slice_get calls.calls place) n all refl can

-- ---- an offer inside a call

offer_goes : (made : ℕ) (calls : Standing) (table : transactions.Contents) (o : Occasion) (place : ℕ) (end : End) (method : OfferMethod) (offer : Description) (r : Request) (id : ℕ) (source : Addr) (c : StandingCall)
    → KnowsCalls made calls.calls → All HasTakenOffer calls.calls → slice_get calls.calls place ≡ Some c → holds_in is_settled c.call.standing ≡ true → CountsIn calls.calls place end r.parts.cseq.number
    → AllGo made calls.calls (offers_by calls table o place (inputs.Offer end method (Some offer)) end r id source (counts calls.calls place end r.parts.cseq.number) (Some c)).outcome.standing.calls
offer_goes made calls table o place end method offer r id source c knows all there settled h =
    let number = r.parts.cseq.number in
    let input = inputs.Offer end method (Some offer) in
    let leg = counts calls.calls place end number in
    let w = offer_coming leg end r id source c in
    let step = call_row c.call input calls.pool o.now in
    let kept = put_with w (messages_of table o w c step) in
    let d = beside kept (with_step c step) in
    let on = passes_on c.call end method offer calls.pool o.now settled in
    let raised : IsRaised c d = step_raised made c step.call kept (call_ids c.call input calls.pool o.now) (counts_fits made calls.calls place end number c knows there) (passes_raises c.call end step on)
    (counts_raises calls.calls place end number c step.call h there on.mine) in
    let taken = beside_taken kept (taken_offer r id source) (with_step c step) refl in
    does_goes made calls table o place w c step all there raised
    (offer_taken c.call d end step number on (ap (λ (x : OfferRequest). x.number) taken.0) taken.1
    (leg_beside (with_step c step) kept (record { end = end; dialog = record h.dialog { remote_number = Some number } }) number (counts_is calls.calls place end number h.call h.dialog h.there h.at) (omega arith)))

pub offers_go : (made : ℕ) (calls : Standing) (table : transactions.Contents) (o : Occasion) (place : ℕ) (end : End) (method : OfferMethod) (offer : Description) (r : Request) (id : ℕ) (source : Addr) (c : StandingCall)
    → KnowsCalls made calls.calls → All HasTakenOffer calls.calls → slice_get calls.calls place ≡ Some c → holds_in is_settled c.call.standing ≡ true → CountsIn calls.calls place end r.parts.cseq.number
    → AllGo made calls.calls (offers_row calls table o place (inputs.Offer end method (Some offer)) end r id source).outcome.standing.calls
unfolding offers_row
offers_go made calls table o place end method offer r id source c knows all there settled h =
    subst (λ y. AllGo made calls.calls (offers_by calls table o place (inputs.Offer end method (Some offer)) end r id source (counts calls.calls place end r.parts.cseq.number) y).outcome.standing.calls) (sym there)
    (offer_goes made calls table o place end method offer r id source c knows all there settled h)

-- ---- a call that begins

tags_next : (made : ℕ) (d : StandingCall) → HasNewTags made d → (end : End) → IsMadeNext made (tag_to end d)
tags_next made d new Caller = record { salt = new.salt; count = new.first; later = new.new_first; few = omega (arith, new.in_order, new.few); said = new.caller }
tags_next made d new Callee = record { salt = new.salt; count = new.second; later = new.new_second; few = new.few; said = new.callee }

pushed_go : (P : StandingCall → Type 0) (b : Bool) (d : StandingCall) (calls : List StandingCall) → P d → All P calls → All P (cond b (calls ++ d ∷ []) calls)
pushed_go P true d calls h all = All-push P calls d all h
pushed_go P false d calls h all = all

-- its first offer's number counts in the dialog that the INVITE makes (section 12.1.1)
new_offer : (number : ℕ) (o : Occasion) (r : Request) (id : ℕ) (source : Addr) (contact : Uri) (offer : Description) (calls : Standing)
    → HasTakenOffer (with_step (first_standing number o r id source contact) (first_call_row (first_standing number o r id source contact).call offer calls.pool o.now))
unfolding first_call_row
new_offer number o r id source contact offer calls waits = omega arith

begins_by_go : (calls : Standing) (o : Occasion) (r : Request) (id : ℕ) (source : Addr) (target : Uri) (offer : Description) (contact : Option Uri) → tag_text r.parts.to.params ≡ [] → o.tokens < 2 ^ 63 → All HasTakenOffer calls.calls
    → AllGo o.tokens calls.calls (begins_by calls o r id source target offer contact).outcome.standing.calls
begins_by_go calls o r id source target offer None none few all = kept_all o.tokens calls.calls all
begins_by_go calls o r id source target offer (Some contact) none few all =
    let c = first_standing (calls.begun + 1) o r id source contact in
    let step = first_call_row c.call offer calls.pool o.now in
    pushed_go (Goes o.tokens calls.calls) (is_some step.call.standing) (with_step c step) calls.calls
    (record {
      from = began (tags_next o.tokens (with_step c step) (new_tags o r id (calls.begun + 1) source contact step.call (first_ids c.call offer calls.pool o.now) none few));
      offer = new_offer (calls.begun + 1) o r id source contact offer calls;
    }) (kept_all o.tokens calls.calls all)

pub first_goes : (calls : Standing) (o : Occasion) (r : Request) (id : ℕ) (source : Addr) (target : Uri) (offer : Description) → tag_text r.parts.to.params ≡ [] → o.tokens < 2 ^ 63 → All HasTakenOffer calls.calls
    → AllGo o.tokens calls.calls (first_row calls o r id source target offer).outcome.standing.calls
unfolding first_row
first_goes calls o r id source target offer none few all = begins_by_go calls o r id source target offer (reached_at (contacts_of r.headers)) none few all

-- ---- a 2xx that no call takes

fork_by_goes : (made : ℕ) (calls : Standing) (o : Occasion) (asked : Parts) (r : Response) (contact : Option Uri) → All HasTakenOffer calls.calls → AllGo made calls.calls (fork_by calls o asked r contact).outcome.standing.calls
fork_by_goes made calls o asked r None all = kept_all made calls.calls all
fork_by_goes made calls o asked r (Some target) all = kept_all made calls.calls all

pub fork_goes : (made : ℕ) (calls : Standing) (o : Occasion) (asked : Parts) (r : Response) → All HasTakenOffer calls.calls → AllGo made calls.calls (fork_row calls o asked r).outcome.standing.calls
unfolding fork_row
fork_goes made calls o asked r all = fork_by_goes made calls o asked r (reached_at (contacts_of r.headers)) all

late_by_goes : (made : ℕ) (calls : Standing) (o : Occasion) (asked : Parts) (r : Response) (contact : Option Uri) → All HasTakenOffer calls.calls → AllGo made calls.calls (late_by calls o asked r contact).outcome.standing.calls
late_by_goes made calls o asked r None all = kept_all made calls.calls all
late_by_goes made calls o asked r (Some target) all = kept_all made calls.calls all

pub late_goes : (made : ℕ) (calls : Standing) (o : Occasion) (asked : Parts) (r : Response) → All HasTakenOffer calls.calls → AllGo made calls.calls (late_row calls o asked r).outcome.standing.calls
unfolding late_row
late_goes made calls o asked r all = late_by_goes made calls o asked r (reached_at (contacts_of r.headers)) all

-- ---- a dialog alone

put_offer : (c : StandingCall) (leg : LegDialog) → LegRaises c.call (Some leg) → HasTakenOffer c → HasTakenOffer (with_dialog_at leg.end leg.dialog c)
put_offer c leg raises h waits =
    let same = dialog_same leg c in
    let taken = h (subst (λ x. holds_in awaits_final x ≡ true) same.1 waits) in
    subst (λ x. IsTakenIn c.asked.number (dialog_of (offerer_of x) (with_dialog_at leg.end leg.dialog c).call)) (sym same.1) (put_raises c.call leg.end leg.dialog raises (offerer_of c.call.standing) c.asked.number taken)

changed_go : (made : ℕ) (leg : LegDialog) (place : ℕ) (calls : List StandingCall) (c : Option StandingCall) → slice_get calls place ≡ c → ((d : StandingCall) → slice_get calls place ≡ Some d → CanPut made d (Some leg)) → All HasTakenOffer calls
    → AllGo made calls (changed_at (with_dialog_at leg.end leg.dialog) place calls c)
changed_go made leg place calls None there can all = kept_all made calls all
changed_go made leg place calls (Some c) there can all =
    let put = can c there in
    All-set (Goes made calls) calls place (with_dialog_at leg.end leg.dialog c)
    (record {
      from = stood place c there (record {
        tags = tags_same c (with_dialog_at leg.end leg.dialog c) (same_leg_put made c (Some leg) put.fits);
        taken = put_raises c.call leg.end leg.dialog put.raises;
      });
      offer = put_offer c leg put.raises (all_at HasTakenOffer calls place c all there);
    }) (kept_all made calls all)

pub puts_go : (made : ℕ) (calls : Standing) (place : ℕ) (leg : Option LegDialog) → ((d : StandingCall) → slice_get calls.calls place ≡ Some d → CanPut made d leg) → All HasTakenOffer calls.calls
    → AllGo made calls.calls (puts_if calls place leg).calls
puts_go made calls place None can all = kept_all made calls.calls all
puts_go made calls place (Some leg) can all = changed_go made leg place calls.calls (slice_get calls.calls place) refl can all

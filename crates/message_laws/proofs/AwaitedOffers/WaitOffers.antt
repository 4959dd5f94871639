-- An offer inside a call that is passed on: what waits afterwards, with which number, and what it carries.
use Rattle.std.proofs.Common.{◌≡◌, ◌∙◌, ℕ, ◌<◌, Bool, true, false, cond, List, Option, Some, None, is_some, refl, ap, sym, subst, arith}
use Rattle.std.specs.Prelude.{slice_get, slice_set}
use Rattle.std.specs.List.{All, remove}
use Rattle.std.proofs.lemmas.Bool.{false≢true}
use Rattle.std.proofs.lemmas.Option.{same_Some}
use Rattle.sip_uri.specs.declared.uri.Addr.{Addr}
use Rattle.sip_message.specs.declared.message.Request.{Request}
use Rattle.sdp.specs.declared.description.Description.{Description}
use Rattle.dialogs.specs.declared.state.Dialog.{Dialog}
use Rattle.transactions.specs.declared.transaction.Transaction.{Transaction}
use Rattle.transactions.specs.Contents as transactions
use Rattle.call_media.specs.declared.end.End.{End}
use Rattle.call_media.specs.declared.end.End.TheVariants.{Caller, Callee}
use Rattle.call_media.specs.Ends.{is_same, other}
use Rattle.call_core.specs.declared.call.Call.{Call}
use Rattle.call_core.specs.declared.input.Input.TheVariants as inputs
use Rattle.call_core.specs.declared.signal.OfferMethod.{OfferMethod}
use Rattle.call_core.specs.declared.stage.Standing as stage
use Rattle.call_core.specs.CallRows.{call_row}
use Rattle.call_core.specs.Calls.{dialog_of, holds_in}
use Rattle.call_core.specs.Plans.{Step}
use Rattle.call_rules.specs.Offers.{is_settled}
use Rattle.call_rules.specs.Responses.{asked_end, is_last_in, is_open}
use Rattle.calls.specs.State.{Standing}
use Rattle.calls.specs.Carrying.{with_step}
use Rattle.calls.specs.Changes.{beside}
use Rattle.calls.specs.Finding.{has_tag}
use Rattle.calls.specs.declared.standing_call.StandingCall.{StandingCall}
use Rattle.call_steps.specs.declared.occasion.Occasion.{Occasion}
use Rattle.call_steps.specs.Rows.{counts, counts_by, counts_in, does, messages_of, offer_coming, offers_by, offers_row, put_with}
use Rattle.call_steps.specs.Scenes.{dialog_in, passed_id, scene, tag_to}
use Rattle.call_steps.specs.Values.{ComingValue, lent_scene}
use Rattle.message_laws.specs.Carried.{CarriesIf, CarriesOpen, has_leg}
use Rattle.message_laws.specs.Knowing.{KnowsCalls}
use Rattle.message_laws.specs.Numbers.{WasCounted}
use Rattle.message_laws.specs.Waiting.{FitsCall, IsAwaited, IsCounted, IsOffering, from_tag}
use Rattle.message_laws.proofs.TokenUse.Apartness.{SameTags}
use Rattle.message_laws.proofs.AwaitedOffers.Awaiting.{all_at, CallKeeps, Keeps, LegGrows, beside_keeps, beside_standing, call_grows_then, fits_after, fits_at, keeps_at, later_all, leg_kept, open_from, opened, put_or_gone, same_end, same_tag}
use Rattle.message_laws.proofs.AwaitedOffers.Byes.{does_byes}
use Rattle.message_laws.proofs.TokenUse.Calls.{FitsLeg, call_at, call_ids, same_beside}
use Rattle.message_laws.proofs.AwaitedOffers.Carrying.{CarriesText, said_carries}
use Rattle.message_laws.proofs.AwaitedOffers.Coming.{OpensIn}
use Rattle.message_laws.proofs.AwaitedOffers.InOrder.{messages_sent}
use Rattle.message_laws.proofs.AwaitedOffers.Keeping.{beside_media}
use Rattle.message_laws.proofs.AwaitedOffers.Offering.{IsOfferIn, IsOfferTo, said_offered}
use Rattle.message_laws.proofs.AwaitedOffers.OneOffer.{said_one}
use Rattle.message_laws.proofs.TokenUse.TaggedSteps.{counts_fits}
use Rattle.message_laws.proofs.AwaitedOffers.Tagged.{alone_tagged, asked_at, differs_at, has_tag_of, leg_tag, scene_dialog, tag_of_end}
use Rattle.message_laws.proofs.AwaitedOffers.WaitFirst.{BeginsOffer}
use Rattle.message_laws.proofs.AwaitedOffers.WaitPassed.{PassesOn, counted, last_counted, none_open, not_last, passes_grows, passes_on}
use Rattle.message_laws.proofs.AwaitedOffers.WaitTakes.{same_is}
use Rattle.message_laws.proofs.AwaitedOffers.WaitSteps.{counts_keeps, counts_keeps_in}

is_same_self : (x : End) → is_same x x ≡ true
is_same_self Caller = refl
is_same_self Callee = refl

-- ---- the dialog in which the offer goes

put_beside : (end : End) (d : Dialog) (c : Call) → dialog_in (other end) (Some (record { end = end; dialog = d })) c ≡ dialog_of (other end) c
put_beside Caller d c = refl
put_beside Callee d c = refl

counts_beside : (end : End) (number : ℕ) (d : Option Dialog) (c : Call) → dialog_in (other end) (counts_in end number d) c ≡ dialog_of (other end) c
counts_beside end number None c = refl
counts_beside end number (Some d) c = put_beside end _ c

pub counts_in_other : (calls : List StandingCall) (place : ℕ) (end : End) (number : ℕ) (c : StandingCall) → slice_get calls place ≡ Some c
    → dialog_in (other end) (counts calls place end number) c.call ≡ dialog_of (other end) c.call
unfolding counts
counts_in_other calls place end number c there =
    subst (λ x. dialog_in (other end) (counts_by end number x) c.call ≡ dialog_of (other end) c.call) (sym there) (counts_beside end number (dialog_of end c.call) c.call)

-- ---- the request that passes it on

-- all that is needed of the call and of what it does
pub record Passing (made : ℕ) (calls : List StandingCall) (place : ℕ) (x : End) (c : StandingCall) (step : Step) (d : StandingCall) : Type 0 where
  pub there : slice_get calls place ≡ Some c
  pub knows : KnowsCalls made calls
  pub settled : holds_in is_settled c.call.standing ≡ true
  pub on : PassesOn c.call x step
  pub same : SameTags c d
  pub keeps : CallKeeps step.call d.call
  pub stands : d.call.standing ≡ Some on.next

pub offer_fits : (made : ℕ) (calls : List StandingCall) (place : ℕ) (x : End) (c : StandingCall) (step : Step) (d : StandingCall) (t : Transaction) (leg : Dialog) → Passing made calls place x c step d
    → dialog_of (other x) c.call ≡ Some leg → IsOfferIn leg t → FitsCall t d
offer_fits made calls place x c step d t leg p at_leg is = λ has.
    let tag : from_tag t ≡ tag_to (other x) c = is.tag ∙ leg_tag made (other x) c leg (call_at made calls place c p.knows p.there) at_leg in
    let asked : asked_end t.parts d ≡ other x = same_end t.parts c d p.same ∙ asked_at t.parts (other x) c tag (differs_at calls place c p.knows.apart p.there) in
    let keeps : Keeps (counted (Some leg)) (dialog_of (other x) d.call) = subst (λ o. Keeps o (dialog_of (other x) d.call)) (p.on.theirs ∙ ap counted at_leg) (keeps_at step.call d.call (other x) p.keeps) in
    let last = last_counted t.parts.cseq.number leg (dialog_of (other x) d.call) is.number keeps in
    record {
      counted = subst (λ y. IsCounted t.parts.cseq.number (dialog_of y d.call)) (sym asked) last.0;
      opens = λ w. open_from t.parts d p.on.next (
          record {
            stands = p.stands;
            awaits = p.on.awaits;
            end = subst (λ y. is_same y (other p.on.next.offerer) ≡ true) (sym asked) (subst (λ y. is_same (other x) (other y) ≡ true) (sym p.on.offerer) (is_same_self (other x)));
            last = subst (λ y. is_last_in t.parts.cseq.number (dialog_of y d.call) ≡ true) (sym asked) last.1;
          }
          );
    }

offer_elsewhere : (made : ℕ) (calls : List StandingCall) (place : ℕ) (x : End) (c : StandingCall) (step : Step) (d : StandingCall) (t : Transaction) (leg : Dialog) → Passing made calls place x c step d
    → dialog_of (other x) c.call ≡ Some leg → IsOfferIn leg t → All (FitsCall t) (slice_set calls place d)
offer_elsewhere made calls place x c step d t leg p at_leg is =
    let tag : from_tag t ≡ tag_to (other x) c = is.tag ∙ leg_tag made (other x) c leg (call_at made calls place c p.knows p.there) at_leg in
    alone_tagged (IsAwaited t) (from_tag t) calls place c d p.knows.apart p.there (tag_of_end (other x) c (from_tag t) tag) (offer_fits made calls place x c step d t leg p at_leg is)

-- it carries the offer that the call keeps
carried_elsewhere : (made : ℕ) (calls : List StandingCall) (place : ℕ) (x : End) (c : StandingCall) (step : Step) (d : StandingCall) (t : Transaction) (leg : Dialog) → Passing made calls place x c step d
    → dialog_of (other x) c.call ≡ Some leg → IsOfferIn leg t → CarriesIf t d.call.media.offer → All (CarriesOpen t) (slice_set calls place d)
carried_elsewhere made calls place x c step d t leg p at_leg is h =
    let tag : from_tag t ≡ tag_to (other x) c = is.tag ∙ leg_tag made (other x) c leg (call_at made calls place c p.knows p.there) at_leg in
    alone_tagged (λ y. is_open t.parts y ≡ true → has_leg (dialog_of (asked_end t.parts y) y.call) y.call.standing ≡ true → CarriesIf t y.call.media.offer) (from_tag t) calls place c d p.knows.apart p.there
    (tag_of_end (other x) c (from_tag t) tag) (λ has opens has_dialog. h)

-- an earlier one is no longer the open offer
passed_by : (made : ℕ) (calls : List StandingCall) (place : ℕ) (x : End) (c : StandingCall) (step : Step) (d : StandingCall) (t : Transaction) → Passing made calls place x c step d → has_tag (from_tag t) d ≡ true
    → is_open t.parts d ≡ true → has_leg (dialog_of (asked_end t.parts d) d.call) d.call.standing ≡ true → WasCounted t c → ⊥
passed_by made calls place x c step d t p has opens leg was =
    let number = t.parts.cseq.number in
    let theirs = dialog_of (other x) d.call in
    let now = opened t.parts d opens in
    let next : now.0 ≡ p.on.next = same_Some now.0 p.on.next (sym now.1.stands ∙ p.stands) in
    let end : asked_end t.parts d ≡ other x = same_is (asked_end t.parts d) (other now.0.offerer) now.1.end ∙ ap (λ (s : stage.Standing). other s.offerer) next ∙ ap other p.on.offerer in
    let before : IsCounted number (dialog_of (other x) c.call) = subst (λ y. IsCounted number (dialog_of y c.call)) (sym (same_end t.parts c d p.same) ∙ end) (was (sym (same_tag (from_tag t) c d p.same) ∙ has)) in
    let keeps : Keeps (counted (dialog_of (other x) c.call)) theirs = subst (λ o. Keeps o theirs) p.on.theirs (keeps_at step.call d.call (other x) p.keeps) in
    let last : is_last_in number theirs ≡ true = subst (λ y. is_last_in number (dialog_of y d.call) ≡ true) end now.1.last in
    let leg_now : has_leg theirs (Some p.on.next) ≡ true = subst (λ s. has_leg theirs s ≡ true) p.stands (subst (λ y. has_leg (dialog_of y d.call) d.call.standing ≡ true) end leg) in
    not_last number p.on.next (dialog_of (other x) c.call) theirs p.on.not_asked before keeps last leg_now

-- the earlier ones in its leg have lower numbers
offer_above : (made : ℕ) (calls : List StandingCall) (place : ℕ) (x : End) (c : StandingCall) (step : Step) (d : StandingCall) (t v : Transaction) (leg : Dialog) → Passing made calls place x c step d
    → dialog_of (other x) c.call ≡ Some leg → IsOfferIn leg t → All (FitsCall v) calls → from_tag v ≡ from_tag t → v.parts.cseq.number < t.parts.cseq.number
offer_above made calls place x c step d t v leg p at_leg is each same =
    let tag : from_tag v ≡ tag_to (other x) c = same ∙ is.tag ∙ leg_tag made (other x) c leg (call_at made calls place c p.knows p.there) at_leg in
    let has : has_tag (from_tag v) c ≡ true = has_tag_of c (from_tag v) (tag_of_end (other x) c (from_tag v) tag) in
    let asked : asked_end v.parts c ≡ other x = asked_at v.parts (other x) c tag (differs_at calls place c p.knows.apart p.there) in
    let counted_v : IsCounted v.parts.cseq.number (Some leg) = subst (IsCounted v.parts.cseq.number) at_leg
    (subst (λ y. IsCounted v.parts.cseq.number (dialog_of y c.call)) asked (fits_at v calls place c each p.there has).counted) in
    omega (arith, counted_v, is.number)

at_leg : (A : Type 0) (o : Option Dialog) (t : Transaction) → ((leg : Dialog) → o ≡ Some leg → IsOfferIn leg t → A) → IsOfferTo o t → A
at_leg A None t f h = absurd h
at_leg A (Some d) t f h = f d refl h

pub put_all : (P : StandingCall → Type 0) (b : Bool) (xs ys : List StandingCall) → b ≡ true → All P xs → All P (cond b xs ys)
put_all P true xs ys is each = each
put_all P false xs ys is each = absurd (false≢true is)

does_begins : (calls : Standing) (table : transactions.Contents) (o : Occasion) (place : ℕ) (w : ComingValue) (x : End) (c : StandingCall) (step : Step)
    → Passing o.tokens calls.calls place x c step (beside (put_with w (messages_of table o w c step)) (with_step c step)) → dialog_in (other x) w.leg c.call ≡ dialog_of (other x) c.call → FitsLeg o.tokens c w.leg
    → LegGrows c.call w.leg → BeginsOffer o.tokens calls.calls (does calls table o place w c step)
does_begins calls table o place w x c step p at_scene fits grows =
    let said = messages_of table o w c step in
    let s = scene table o w c step.description in
    let d = beside (put_with w said) (with_step c step) in
    let offered : (t : Transaction) → OpensIn t said.dressed.changes → IsOffering t → IsOfferTo (dialog_of (other x) c.call) t = λ t opens offers.
    subst (λ y. IsOfferTo y t) (scene_dialog table o w c step.description (other x) ∙ at_scene) (p.on.offered (lent_scene s) t (said_offered s (passed_id table c) step.actions t opens offers)) in
    record {
      stayed = λ t u later tag each.
          put_or_gone (FitsCall u) calls.calls place d (is_some step.call.standing)
          (λ stands. fits_after t u c d p.same (call_grows_then c.call step.call d.call (passes_grows c.call x step p.on) p.keeps) later (λ has waits opens. absurd (none_open t.parts c p.settled opens))
          (fits_at t calls.calls place c each p.there))
          (later_all t u calls.calls later each);
      began = λ t opens offers.
          put_all (FitsCall t) (is_some step.call.standing) (slice_set calls.calls place d) (remove calls.calls place) (ap is_some p.on.stands)
          (at_leg _ (dialog_of (other x) c.call) t (λ leg is offer. offer_elsewhere o.tokens calls.calls place x c step d t leg p is offer) (offered t opens offers));
      above = λ t opens offers v tag each same. at_leg _ (dialog_of (other x) c.call) t (λ leg is offer. offer_above o.tokens calls.calls place x c step d t v leg p is offer each same) (offered t opens offers);
      one = said_one s (passed_id table c) step.actions p.on.one;
      byes = λ knows. does_byes o.tokens o.tokens calls table o place w c step knows p.there fits grows;
      sent = messages_sent s (passed_id table c) step.actions;
      keeps = λ t tag was each.
          put_or_gone (CarriesOpen t) calls.calls place d (is_some step.call.standing)
          (λ stands has opens leg. absurd (passed_by o.tokens calls.calls place x c step d t p has opens leg (all_at (WasCounted t) calls.calls place c was p.there))) each;
      carries = λ t opens offers.
          let said_it : CarriesText (Some p.on.open_offer.offer_sent) t = subst (λ y. CarriesText y t) p.on.says (said_carries s (passed_id table c) step.actions t opens offers) in
          let kept : d.call.media.offer ≡ Some p.on.open_offer = ap (λ m. m.offer) (beside_media (with_step c step) (put_with w said)) ∙ p.on.kept in
          put_all (CarriesOpen t) (is_some step.call.standing) (slice_set calls.calls place d) (remove calls.calls place) (ap is_some p.on.stands)
          (at_leg _ (dialog_of (other x) c.call) t (λ leg is offer. carried_elsewhere o.tokens calls.calls place x c step d t leg p is offer (subst (CarriesIf t) (sym kept) said_it)) (offered t opens offers));
    }

offers_by_begins : (calls : Standing) (table : transactions.Contents) (o : Occasion) (place : ℕ) (end : End) (method : OfferMethod) (offer : Description) (r : Request) (id : ℕ) (source : Addr) (c : StandingCall)
    → slice_get calls.calls place ≡ Some c → holds_in is_settled c.call.standing ≡ true → KnowsCalls o.tokens calls.calls
    → BeginsOffer o.tokens calls.calls (offers_by calls table o place (inputs.Offer end method (Some offer)) end r id source (counts calls.calls place end r.parts.cseq.number) (Some c))
offers_by_begins calls table o place end method offer r id source c there settled all =
    let leg = counts calls.calls place end r.parts.cseq.number in
    let w = offer_coming leg end r id source c in
    let input = inputs.Offer end method (Some offer) in
    let step = call_row c.call input calls.pool o.now in
    let kept = put_with w (messages_of table o w c step) in
    let on = passes_on c.call end method offer calls.pool o.now settled in
    let leg_keeps = counts_keeps_in calls.calls place end r.parts.cseq.number c step.call there on.mine in
    does_begins calls table o place w end c step (
    record {
      there = there;
      knows = all;
      settled = settled;
      on = on;
      same = same_beside o.tokens c step.call kept (call_ids c.call input calls.pool o.now) (counts_fits o.tokens calls.calls place end r.parts.cseq.number c all there);
      keeps = beside_keeps (with_step c step) kept leg_keeps;
      stands = beside_standing (with_step c step) kept ∙ on.stands;
    }
    ) (counts_in_other calls.calls place end r.parts.cseq.number c there) (counts_fits o.tokens calls.calls place end r.parts.cseq.number c all there)
    (leg_kept c.call leg (counts_keeps calls.calls place end r.parts.cseq.number c there))

pub offers_begins : (calls : Standing) (table : transactions.Contents) (o : Occasion) (place : ℕ) (end : End) (method : OfferMethod) (offer : Description) (r : Request) (id : ℕ) (source : Addr) (c : StandingCall)
    → slice_get calls.calls place ≡ Some c → holds_in is_settled c.call.standing ≡ true → KnowsCalls o.tokens calls.calls
    → BeginsOffer o.tokens calls.calls (offers_row calls table o place (inputs.Offer end method (Some offer)) end r id source)
unfolding offers_row
offers_begins calls table o place end method offer r id source c there settled all =
    subst (λ y. BeginsOffer o.tokens calls.calls (offers_by calls table o place (inputs.Offer end method (Some offer)) end r id source (counts calls.calls place end r.parts.cseq.number) y)) (sym there)
    (offers_by_begins calls table o place end method offer r id source c there settled all)

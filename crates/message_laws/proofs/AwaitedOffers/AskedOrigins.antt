-- Each call that waits for an answer goes on to wait for that to the same request, or waits for that to one that came
-- now.
use Rattle.std.proofs.Common.{◌≡◌, ◌∙◌, ℕ, ◌+◌, Bool, true, false, cond, List, [], ◌∷◌, ◌++◌, Option, Some, None, is_some, refl, sym, ap, subst, inl, inr}
use Rattle.std.specs.Prelude.{slice_get}
use Rattle.std.specs.List.{All}
use Rattle.std.proofs.lemmas.Bool.{false≢true}
use Rattle.std.proofs.lemmas.List.Elements.{All-push, All-set, All-weaker}
use Rattle.sip_uri.specs.declared.uri.Addr.{Addr}
use Rattle.sip_uri.specs.declared.uri.Uri.{Uri}
use Rattle.sip_message.specs.Contact.{contacts_of}
use Rattle.sip_message.specs.declared.message.Parts.{Parts}
use Rattle.sip_message.specs.declared.message.Request.{Request}
use Rattle.sip_message.specs.declared.message.Response.{Response}
use Rattle.sdp.specs.declared.description.Description.{Description}
use Rattle.dialogs.specs.Making.{reached_at}
use Rattle.transactions.specs.Changes.{entered_all}
use Rattle.transactions.specs.Contents as transactions
use Rattle.transactions.specs.Slots.{at}
use Rattle.transactions.specs.declared.change.Entry.{Entry}
use Rattle.transactions.specs.declared.transaction.Transaction.{Transaction}
use Rattle.call_media.specs.declared.end.End.{End}
use Rattle.call_core.specs.CallRows.{call_row, first_call_row}
use Rattle.call_core.specs.Calls.{awaits_answer, holds_in}
use Rattle.call_core.specs.declared.input.Input.{Input}
use Rattle.call_rules.specs.Speaking.{may_offer}
use Rattle.calls.specs.Carrying.{changed_at, with_dialog_at, with_step}
use Rattle.calls.specs.Changes.{beside}
use Rattle.calls.specs.State.{Standing}
use Rattle.calls.specs.declared.change.LegDialog.{LegDialog}
use Rattle.calls.specs.declared.standing_call.OfferRequest.{OfferRequest}
use Rattle.calls.specs.declared.standing_call.StandingCall.{StandingCall}
use Rattle.call_steps.specs.Rows.{begins_by, counts, first_row, first_standing, fork_by, fork_row, late_by, late_row, messages_of, offer_coming, offers_by, offers_row, put_with, taken_offer, takes_by, takes_row}
use Rattle.call_steps.specs.Values.{AskerValue, without_offer}
use Rattle.call_steps.specs.declared.occasion.Occasion.{Occasion}
use Rattle.plans.specs.CallRows.{puts_if}
use Rattle.message_laws.specs.Askers.{IsServed, waits_for}
use Rattle.message_laws.proofs.Askers.AskedCalls.{at_place, beside_same, beside_taken, dialog_same}
use Rattle.message_laws.proofs.AwaitedOffers.Awaiting.{put_or_gone}
use Rattle.message_laws.proofs.AwaitedOffers.Coming.{OpensIn}
use Rattle.message_laws.proofs.Askers.ServedRequests.{unanswered_server}
use Rattle.message_laws.proofs.Askers.SpokenLines.{CallSpeaks, FitsInput, call_speaks, is_offer_input}
use Rattle.message_laws.specs.Asked.{HasAskerIf}
use Rattle.message_laws.proofs.AwaitedOffers.OwnOpens.{AllOwn, IsOne, new_server, same_server}

pub data Origin (slots : List (Option Transaction)) (begun : List Entry) (d : StandingCall) : Type 0 where
  kept : (c : StandingCall) → HasAskerIf slots c → d.asked ≡ c.asked → (waits_for d ≡ true → waits_for c ≡ true) → Origin slots begun d
  came : (r : Request) → at slots d.asked.id ≡ None → ((t : Transaction) → OpensIn t begun → t.parts ≡ r.parts) → may_offer r.parts ≡ true → d.asked.number ≡ r.parts.cseq.number → Origin slots begun d

pub kept_self : (slots : List (Option Transaction)) (begun : List Entry) (c : StandingCall) → HasAskerIf slots c → Origin slots begun c
kept_self slots begun c h = kept c h refl (λ w. w)

pub kept_all : (slots : List (Option Transaction)) (begun : List Entry) (calls : List StandingCall) → All (HasAskerIf slots) calls → All (Origin slots begun) calls
kept_all slots begun calls all = All-weaker (HasAskerIf slots) (Origin slots begun) (kept_self slots begun) calls all

-- ---- afterwards

pub origin_asked : (now : ℕ) (table : transactions.Contents) (begun rest : List Entry) (d : StandingCall) → IsOne begun → AllOwn rest → IsServed (entered_all now table (begun ++ rest)).slots d → Origin table.slots begun d
    → HasAskerIf (entered_all now table (begun ++ rest)).slots d
origin_asked now table begun rest d one own served (kept c h asked on) waits =
    let a = served waits in
    let before = h (on waits) in
    let server = unanswered_server a.transaction.state a.unanswered in
    let there : at table.slots d.asked.id ≡ Some before.transaction = ap (λ (x : OfferRequest). at table.slots x.id) asked ∙ before.stands in
    let same = same_server now table begun rest before.transaction a.transaction d.asked.id one own there a.stands server in
    record {
      transaction = a.transaction;
      stands = a.stands;
      offers = subst (λ (p : Parts). may_offer p ≡ true) (sym same) before.offers;
      number = ap (λ (p : Parts). p.cseq.number) same ∙ before.number ∙ ap (λ (x : OfferRequest). x.number) (sym asked);
    }
origin_asked now table begun rest d one own served (came r free opens offers number) waits =
    let a = served waits in
    let server = unanswered_server a.transaction.state a.unanswered in
    let new = new_server now table begun rest a.transaction d.asked.id own free a.stands server in
    let same : a.transaction.parts ≡ r.parts = new.2 ∙ opens new.0 new.1 in
    record {
      transaction = a.transaction;
      stands = a.stands;
      offers = subst (λ (p : Parts). may_offer p ≡ true) (sym same) offers;
      number = ap (λ (p : Parts). p.cseq.number) same ∙ sym number;
    }

-- ---- a dialog is put beside a call

changed_origins : (slots : List (Option Transaction)) (begun : List Entry) (leg : LegDialog) (place : ℕ) (calls : List StandingCall) (c : Option StandingCall) → slice_get calls place ≡ c → All (HasAskerIf slots) calls
    → All (Origin slots begun) (changed_at (with_dialog_at leg.end leg.dialog) place calls c)
changed_origins slots begun leg place calls None there all = kept_all slots begun calls all
changed_origins slots begun leg place calls (Some c) there all =
    let same = dialog_same leg c in
    All-set (Origin slots begun) calls place (with_dialog_at leg.end leg.dialog c)
    (kept c (at_place (HasAskerIf slots) calls place c all there) same.0 (λ w. subst (λ y. holds_in awaits_answer y ≡ true) same.1 w)) (kept_all slots begun calls all)

pub puts_origins : (slots : List (Option Transaction)) (begun : List Entry) (calls : Standing) (place : ℕ) (leg : Option LegDialog) → All (HasAskerIf slots) calls.calls → All (Origin slots begun) (puts_if calls place leg).calls
puts_origins slots begun calls place None all = kept_all slots begun calls.calls all
puts_origins slots begun calls place (Some leg) all = changed_origins slots begun leg place calls.calls (slice_get calls.calls place) refl all

-- ---- a call takes an input

module _ (slots : List (Option Transaction)) (begun : List Entry) (calls : Standing) (table : transactions.Contents) (o : Occasion) (place : ℕ) (all : All (HasAskerIf slots) calls.calls) where
  takes_by_origins : (input : Input) (leg : Option LegDialog) (request : Option AskerValue) (c : Option StandingCall) → slice_get calls.calls place ≡ c → FitsInput input → is_offer_input input ≡ false
      → All (Origin slots begun) (takes_by calls table o place input leg request c).outcome.standing.calls
  takes_by_origins input leg request None there fits none = kept_all slots begun calls.calls all
  takes_by_origins input leg request (Some c) there fits none =
      let step = call_row c.call input calls.pool o.now in
      let put = put_with (without_offer leg request) (messages_of table o (without_offer leg request) c step) in
      let same = beside_same put (with_step c step) refl in
      let speaks : CallSpeaks c.call false step = subst (λ offer. CallSpeaks c.call offer step) none (call_speaks c.call input calls.pool o.now fits) in
      put_or_gone (Origin slots begun) calls.calls place (beside put (with_step c step)) (is_some step.call.standing)
      (λ stands. kept c (at_place (HasAskerIf slots) calls.calls place c all there) same.0
      (λ w. elim (speaks.comes (subst (λ y. holds_in awaits_answer y ≡ true) same.1 w)) [ inl fails ↦ absurd (false≢true fails) | inr waits ↦ waits ])) (kept_all slots begun calls.calls all)

  pub takes_origins : (input : Input) (leg : Option LegDialog) (request : Option AskerValue) → FitsInput input → is_offer_input input ≡ false → All (Origin slots begun) (takes_row calls table o place input leg request).outcome.standing.calls
  unfolding takes_row
  takes_origins input leg request fits none = takes_by_origins input leg request (slice_get calls.calls place) refl fits none

  -- an offer
  offers_by_origins : (input : Input) (end : End) (r : Request) (id : ℕ) (source : Addr) (leg : Option LegDialog) (c : Option StandingCall) → at slots id ≡ None → ((t : Transaction) → OpensIn t begun → t.parts ≡ r.parts) → may_offer r.parts ≡ true
      → All (Origin slots begun) (offers_by calls table o place input end r id source leg c).outcome.standing.calls
  offers_by_origins input end r id source leg None free opens offers = kept_all slots begun calls.calls all
  offers_by_origins input end r id source leg (Some c) free opens offers =
      let step = call_row c.call input calls.pool o.now in
      let w = offer_coming leg end r id source c in
      let put = put_with w (messages_of table o w c step) in
      let taken = beside_taken put (taken_offer r id source) (with_step c step) refl in
      put_or_gone (Origin slots begun) calls.calls place (beside put (with_step c step)) (is_some step.call.standing)
      (λ stands. came r (ap (λ (x : OfferRequest). at slots x.id) taken.0 ∙ free) opens offers (ap (λ (x : OfferRequest). x.number) taken.0)) (kept_all slots begun calls.calls all)

  pub offers_origins : (input : Input) (end : End) (r : Request) (id : ℕ) (source : Addr) → at slots id ≡ None → ((t : Transaction) → OpensIn t begun → t.parts ≡ r.parts) → may_offer r.parts ≡ true
      → All (Origin slots begun) (offers_row calls table o place input end r id source).outcome.standing.calls
  unfolding offers_row
  offers_origins input end r id source free opens offers =
      offers_by_origins input end r id source (counts calls.calls place end r.parts.cseq.number) (slice_get calls.calls place) free opens offers

-- ---- a call that begins

pushed_origins : (P : StandingCall → Type 0) (b : Bool) (c : StandingCall) (calls : List StandingCall) → P c → All P calls → All P (cond b (calls ++ c ∷ []) calls)
pushed_origins P true c calls h all = All-push P calls c all h
pushed_origins P false c calls h all = all

first_by_origins : (slots : List (Option Transaction)) (begun : List Entry) (calls : Standing) (o : Occasion) (r : Request) (id : ℕ) (source : Addr) (target : Uri) (offer : Description) (contact : Option Uri) → All (HasAskerIf slots) calls.calls
    → at slots id ≡ None → ((t : Transaction) → OpensIn t begun → t.parts ≡ r.parts) → may_offer r.parts ≡ true → All (Origin slots begun) (begins_by calls o r id source target offer contact).outcome.standing.calls
first_by_origins slots begun calls o r id source target offer None all free opens offers = kept_all slots begun calls.calls all
first_by_origins slots begun calls o r id source target offer (Some contact) all free opens offers =
    let c = first_standing (calls.begun + 1) o r id source contact in
    let step = first_call_row c.call offer calls.pool o.now in
    pushed_origins (Origin slots begun) (is_some step.call.standing) (with_step c step) calls.calls (came r free opens offers refl) (kept_all slots begun calls.calls all)

pub first_origins : (slots : List (Option Transaction)) (begun : List Entry) (calls : Standing) (o : Occasion) (r : Request) (id : ℕ) (source : Addr) (target : Uri) (offer : Description) → All (HasAskerIf slots) calls.calls
    → at slots id ≡ None → ((t : Transaction) → OpensIn t begun → t.parts ≡ r.parts) → may_offer r.parts ≡ true → All (Origin slots begun) (first_row calls o r id source target offer).outcome.standing.calls
unfolding first_row
first_origins slots begun calls o r id source target offer all free opens offers = first_by_origins slots begun calls o r id source target offer (reached_at (contacts_of r.headers)) all free opens offers

-- ---- a 2xx that no call takes

fork_by_origins : (slots : List (Option Transaction)) (begun : List Entry) (calls : Standing) (o : Occasion) (asked : Parts) (r : Response) (contact : Option Uri) → All (HasAskerIf slots) calls.calls
    → All (Origin slots begun) (fork_by calls o asked r contact).outcome.standing.calls
fork_by_origins slots begun calls o asked r None all = kept_all slots begun calls.calls all
fork_by_origins slots begun calls o asked r (Some target) all = kept_all slots begun calls.calls all

pub fork_origins : (slots : List (Option Transaction)) (begun : List Entry) (calls : Standing) (o : Occasion) (asked : Parts) (r : Response) → All (HasAskerIf slots) calls.calls → All (Origin slots begun) (fork_row calls o asked r).outcome.standing.calls
unfolding fork_row
fork_origins slots begun calls o asked r all = fork_by_origins slots begun calls o asked r (reached_at (contacts_of r.headers)) all

late_by_origins : (slots : List (Option Transaction)) (begun : List Entry) (calls : Standing) (o : Occasion) (asked : Parts) (r : Response) (contact : Option Uri) → All (HasAskerIf slots) calls.calls
    → All (Origin slots begun) (late_by calls o asked r contact).outcome.standing.calls
late_by_origins slots begun calls o asked r None all = kept_all slots begun calls.calls all
late_by_origins slots begun calls o asked r (Some target) all = kept_all slots begun calls.calls all

pub late_origins : (slots : List (Option Transaction)) (begun : List Entry) (calls : Standing) (o : Occasion) (asked : Parts) (r : Response) → All (HasAskerIf slots) calls.calls → All (Origin slots begun) (late_row calls o asked r).outcome.standing.calls
unfolding late_row
late_origins slots begun calls o asked r all = late_by_origins slots begun calls o asked r (reached_at (contacts_of r.headers)) all

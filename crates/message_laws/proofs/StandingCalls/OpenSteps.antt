-- The steps of calls: each call that waits for a final response afterwards waits for that to a request that was begun,
-- before or in the step.
use Rattle.std.proofs.Common.{◌≡◌, ◌∙◌, ℕ, ◌+◌, Bool, true, false, List, [], ◌∷◌, Option, Some, None, is_some, refl, ap, sym, subst, inr}
use Rattle.std.specs.Prelude.{slice_get}
use Rattle.std.specs.List.{All}
use Rattle.std.proofs.lemmas.Bool.{false≢true}
use Rattle.std.proofs.lemmas.Option.{same_Some}
use Rattle.port_pool.specs.Pool as pools
use Rattle.sip_uri.specs.Address.{address_of}
use Rattle.sip_uri.specs.declared.uri.Addr.{Addr}
use Rattle.sip_uri.specs.declared.uri.Uri.{Uri}
use Rattle.sip_message.specs.Contact.{contacts_of}
use Rattle.sip_message.specs.declared.message.Parts.{Parts}
use Rattle.sip_message.specs.declared.message.Request.{Request}
use Rattle.sip_message.specs.declared.message.Response.{Response}
use Rattle.sdp.specs.declared.description.Description.{Description}
use Rattle.dialogs.specs.Making.{reached_at}
use Rattle.dialogs.specs.declared.state.Dialog.{Dialog}
use Rattle.transactions.specs.Contents as transactions
use Rattle.transactions.specs.declared.transaction.Transaction.{Transaction}
use Rattle.call_media.specs.Ends.{other}
use Rattle.call_media.specs.declared.end.End.{End}
use Rattle.call_media.specs.declared.end.End.TheVariants.{Callee, Caller}
use Rattle.call_core.specs.CallRows.{at_line, call_row, first_call_row, offer_at, offer_step, step_in}
use Rattle.call_core.specs.Calls.{dialog_of, has_number_left, holds_in}
use Rattle.call_core.specs.Plans.{Step}
use Rattle.call_core.specs.Settled.{settled_row}
use Rattle.call_core.specs.Table.{row_in, row_of}
use Rattle.call_core.specs.declared.action.Action.TheVariants.{Offer, Trying}
use Rattle.call_core.specs.declared.call.Call.{Call}
use Rattle.call_core.specs.declared.input.Input.{Input}
use Rattle.call_core.specs.declared.input.Input.TheVariants as inputs
use Rattle.call_core.specs.declared.signal.OfferMethod.{OfferMethod}
use Rattle.call_core.specs.declared.signal.OfferMethod.TheVariants.{Invite, Update}
use Rattle.call_core.specs.declared.signal.Signal.TheVariants as signals
use Rattle.call_core.specs.declared.stage.Stage.TheVariants as stages
use Rattle.call_core.specs.declared.stage.Standing as stage
use Rattle.calls.specs.Carrying.{with_step}
use Rattle.calls.specs.Changes.{beside}
use Rattle.calls.specs.Finding.{has_tag}
use Rattle.calls.specs.State.{Standing}
use Rattle.calls.specs.declared.change.LegDialog.{LegDialog}
use Rattle.calls.specs.declared.standing_call.StandingCall.{StandingCall}
use Rattle.call_rules.specs.Offers.{is_settled}
use Rattle.call_messages.specs.Dressing.{dialog_with, dressed}
use Rattle.call_messages.specs.Messages.{new_leg}
use Rattle.call_messages.specs.declared.scene.Scene.{Scene}
use Rattle.call_steps.specs.Effects as steps
use Rattle.call_steps.specs.Effects.{no_effect}
use Rattle.call_steps.specs.Messages.{messages}
use Rattle.call_steps.specs.Rows.{begins_by, counts, does, first_asker, first_leg, first_row, first_standing, fork_by, fork_row, late_by, late_row, messages_of, offer_coming, offers_by, offers_row, put_with, takes_by, takes_row}
use Rattle.call_steps.specs.Scenes.{dialog_in, first_scene, passed_id, scene, tag_to}
use Rattle.call_steps.specs.Values.{AskerValue, ComingValue, lent_scene, without_offer}
use Rattle.call_steps.specs.declared.occasion.Occasion.{Occasion}
use Rattle.message_laws.specs.Carried.{CarriesIf, awaits_callee, has_leg}
use Rattle.message_laws.specs.Knowing.{HasMadeTags, KnowsCalls}
use Rattle.message_laws.specs.OpenRequests.{HasRequest, IsAmong}
use Rattle.message_laws.specs.Sound.{HasSoundLegs, IsSoundLeg, IsSoundLegIf}
use Rattle.message_laws.specs.Waiting.{from_tag}
use Rattle.message_laws.proofs.TokenUse.Apartness.{SameTags}
use Rattle.message_laws.proofs.AwaitedOffers.Awaiting.{Keeps, all_at, beside_keeps, beside_standing, keeps_at, put_or_gone, same_tag}
use Rattle.message_laws.proofs.TokenUse.Calls.{KeepsIds, call_at, call_ids, same_beside}
use Rattle.message_laws.proofs.AwaitedOffers.Carrying.{CarriesText, lent_text, said_carries}
use Rattle.message_laws.proofs.AwaitedOffers.Coming.{OpensIn}
use Rattle.message_laws.proofs.AwaitedOffers.Keeping.{beside_media, step_open}
use Rattle.message_laws.proofs.AwaitedOffers.Offering.{IsOfferIn, IsOfferTo, said_offered}
use Rattle.message_laws.proofs.StandingCalls.OpenRequests.{BeginsOne, CanOffer, Within, behind_begins, offer_begins, request_within, requests_within, said_begins, still_request}
use Rattle.message_laws.proofs.StandingCalls.SoundCalls.{dialog_sound}
use Rattle.message_laws.proofs.TokenUse.TaggedSteps.{counts_fits}
use Rattle.message_laws.proofs.AwaitedOffers.Tables.{IsNoOfferInput, TakesFits, consumes_input, takes_fits}
use Rattle.message_laws.proofs.AwaitedOffers.Tagged.{has_tag_of, leg_tag, scene_dialog, tag_of_end}
use Rattle.message_laws.proofs.AwaitedOffers.WaitFirst.{first_carries, first_fits, first_stands, offered_first, pushed_all}
use Rattle.message_laws.proofs.AwaitedOffers.WaitOffers.{Passing, counts_in_other, offer_fits}
use Rattle.message_laws.proofs.AwaitedOffers.WaitPassed.{counted, passes_on, settled_stage}
use Rattle.message_laws.proofs.AwaitedOffers.WaitSteps.{counts_keeps_in}
use Rattle.message_laws.proofs.AwaitedOffers.WaitTakes.{LegFits}

pub record OpenStep (calls : List StandingCall) (x : steps.Effect) : Type 0 where
  pub kept : (begun all : List Transaction) → Within begun all → ((t : Transaction) → OpensIn t x.dressed.changes → IsAmong all t) → All (HasRequest begun) calls → All (HasRequest all) x.outcome.standing.calls

nothing_open : (calls : Standing) → OpenStep calls.calls (no_effect calls)
nothing_open calls = record { kept = λ begun all old new each. requests_within begun all calls.calls old each }

-- ---- a call takes an input that is no offer

does_open : (calls : Standing) (table : transactions.Contents) (o : Occasion) (place made : ℕ) (w : ComingValue) (c : StandingCall) (final : Bool) (step : Step) → KeepsIds c.call step.call
    → LegFits final made w.leg c → TakesFits c.call final step → slice_get calls.calls place ≡ Some c → OpenStep calls.calls (does calls table o place w c step)
does_open calls table o place made w c final step ids leg fits there = record {
  kept = λ begun all old new each.
      let put = put_with w (messages_of table o w c step) in
      let d = beside put (with_step c step) in
      put_or_gone (HasRequest all) calls.calls place d (is_some step.call.standing)
      (λ stands. still_request all c d (step_open made c final step put ids leg.tags leg.keeps fits) (request_within begun all c old (all_at (HasRequest begun) calls.calls place c each there)))
      (requests_within begun all calls.calls old each);
}

takes_by_open : (calls : Standing) (table : transactions.Contents) (o : Occasion) (place made : ℕ) (input : Input) (leg : Option LegDialog) (request : Option AskerValue) (c : Option StandingCall)
    → IsNoOfferInput input → slice_get calls.calls place ≡ c → ((d : StandingCall) → slice_get calls.calls place ≡ Some d → LegFits (consumes_input input) made leg d)
    → OpenStep calls.calls (takes_by calls table o place input leg request c)
takes_by_open calls table o place made input leg request None n there fits = nothing_open calls
takes_by_open calls table o place made input leg request (Some c) n there fits =
    does_open calls table o place made (without_offer leg request) c (consumes_input input) (call_row c.call input calls.pool o.now) (call_ids c.call input calls.pool o.now) (fits c there)
    (takes_fits c.call input calls.pool o.now n) there

pub takes_open : (calls : Standing) (table : transactions.Contents) (o : Occasion) (place made : ℕ) (input : Input) (leg : Option LegDialog) (request : Option AskerValue) → IsNoOfferInput input
    → ((d : StandingCall) → slice_get calls.calls place ≡ Some d → LegFits (consumes_input input) made leg d) → OpenStep calls.calls (takes_row calls table o place input leg request)
unfolding takes_row
takes_open calls table o place made input leg request n fits = takes_by_open calls table o place made input leg request (slice_get calls.calls place) n refl fits

-- ---- a 2xx that no call takes

fork_by_open : (calls : Standing) (o : Occasion) (asked : Parts) (r : Response) (contact : Option Uri) → OpenStep calls.calls (fork_by calls o asked r contact)
fork_by_open calls o asked r None = nothing_open calls
fork_by_open calls o asked r (Some target) = record { kept = λ begun all old new each. requests_within begun all calls.calls old each }

pub fork_open : (calls : Standing) (o : Occasion) (asked : Parts) (r : Response) → OpenStep calls.calls (fork_row calls o asked r)
unfolding fork_row
fork_open calls o asked r = fork_by_open calls o asked r (reached_at (contacts_of r.headers))

late_by_open : (calls : Standing) (o : Occasion) (asked : Parts) (r : Response) (contact : Option Uri) → OpenStep calls.calls (late_by calls o asked r contact)
late_by_open calls o asked r None = nothing_open calls
late_by_open calls o asked r (Some target) = record { kept = λ begun all old new each. requests_within begun all calls.calls old each }

pub late_open : (calls : Standing) (o : Occasion) (asked : Parts) (r : Response) → OpenStep calls.calls (late_row calls o asked r)
unfolding late_row
late_open calls o asked r = late_by_open calls o asked r (reached_at (contacts_of r.headers))

-- ---- a call that begins

first_one : (o : Occasion) (asker : AskerValue) (hops : ℕ) (leg : Dialog) (c : Call) (offer : Description) (pool : pools.Contents) → CanOffer (lent_scene (first_scene o asker hops leg (first_call_row c offer pool o.now).description)) Callee
    → BeginsOne (messages (first_scene o asker hops leg (first_call_row c offer pool o.now).description) None (first_call_row c offer pool o.now).actions).dressed.changes
unfolding first_call_row
first_one o asker hops leg c offer pool can =
    let step = first_call_row c offer pool o.now in
    let s = first_scene o asker hops leg step.description in
    said_begins s None step.actions (behind_begins (lent_scene s) s.tokens (Trying Caller) (Offer Callee Invite ∷ []) (offer_begins (lent_scene s) _ Callee Invite [] can))

first_can : (o : Occasion) (r : Request) (id : ℕ) (source : Addr) (target : Uri) (c : Call) (offer : Description) (pool : pools.Contents) → is_some (address_of target) ≡ true
    → CanOffer (lent_scene (first_scene o (first_asker o r id source) r.max_forwards (first_leg o r target) (first_call_row c offer pool o.now).description)) Callee
unfolding first_call_row new_leg
first_can o r id source target c offer pool leads = record { leg = first_leg o r target; description = _; there = refl; says = refl; leads = leads; numbered = refl }

begins_by_open : (calls : Standing) (o : Occasion) (r : Request) (id : ℕ) (source : Addr) (target : Uri) (offer : Description) (contact : Option Uri) → is_some (address_of target) ≡ true
    → OpenStep calls.calls (begins_by calls o r id source target offer contact)
unfolding new_leg
begins_by_open calls o r id source target offer None leads = nothing_open calls
begins_by_open calls o r id source target offer (Some contact) leads =
    let c = first_standing (calls.begun + 1) o r id source contact in
    let step = first_call_row c.call offer calls.pool o.now in
    let leg = first_leg o r target in
    let s = first_scene o (first_asker o r id source) r.max_forwards leg step.description in
    let d = with_step c step in
    let one : BeginsOne (messages s None step.actions).dressed.changes =
    first_one o (first_asker o r id source) r.max_forwards leg c.call offer calls.pool (first_can o r id source target c.call offer calls.pool leads) in
    let t = one.request in
    let is : IsOfferIn leg t = offered_first s leg c.call offer calls.pool o.now t refl one.opens one.offers in
    let has : has_tag (from_tag t) d ≡ true = has_tag_of d (from_tag t) (inr is.tag) in
    record {
      kept = λ begun all old new each.
          pushed_all (HasRequest all) d calls.calls (is_some step.call.standing) (first_stands c.call offer calls.pool o.now) (requests_within begun all calls.calls old each)
          (λ n stands awaits leg_is. (
            t,
            new t one.opens,
            record {
              offers = one.offers;
              tag = has;
              opens = (first_fits o r id (calls.begun + 1) source contact target offer calls.pool t is has).opens one.waits;
              carries = first_carries c.call offer calls.pool o.now t (said_carries s None step.actions t one.opens one.offers);
            },
          ));
    }

pub first_open : (calls : Standing) (o : Occasion) (r : Request) (id : ℕ) (source : Addr) (target : Uri) (offer : Description) → is_some (address_of target) ≡ true
    → OpenStep calls.calls (first_row calls o r id source target offer)
unfolding first_row
first_open calls o r id source target offer leads = begins_by_open calls o r id source target offer (reached_at (contacts_of r.headers)) leads

-- ---- an offer inside a call

line_one : (c : Call) (x : End) (method : OfferMethod) (offer : Description) (pool : pools.Contents) (now : ℕ) (s : Scene) (n : ℕ) → CanOffer s (other x)
    → BeginsOne (dressed s n (at_line c pool (offer_step c pool now x offer) (settled_row (signals.Offer x method))).actions).changes
unfolding settled_row
line_one c x Invite offer pool now s n can = behind_begins s n (Trying x) (Offer (other x) Invite ∷ []) (offer_begins s _ (other x) Invite [] can)
line_one c x Update offer pool now s n can = offer_begins s n (other x) Update [] can

at_one : (c : Call) (standing : stage.Standing) (x : End) (method : OfferMethod) (offer : Description) (pool : pools.Contents) (now : ℕ) (s : Scene) (n : ℕ) → standing.stage ≡ stages.Settled → CanOffer s (other x)
    → BeginsOne (dressed s n (offer_at c standing (signals.Offer x method) x (Some offer) pool now).actions).changes
unfolding row_of
at_one c standing x method offer pool now s n is can =
    subst (λ st. BeginsOne (dressed s n (at_line c pool (offer_step c pool now x offer) (row_in st standing.offerer (signals.Offer x method))).actions).changes) (sym is) (line_one c x method offer pool now s n can)

in_one : (c : Call) (standing : Option stage.Standing) (x : End) (method : OfferMethod) (offer : Description) (pool : pools.Contents) (now : ℕ) (s : Scene) (n : ℕ) → holds_in is_settled standing ≡ true → CanOffer s (other x)
    → BeginsOne (dressed s n (step_in c standing (inputs.Offer x method (Some offer)) pool now).actions).changes
in_one c None x method offer pool now s n settled can = absurd (false≢true settled)
in_one c (Some standing) x method offer pool now s n settled can = at_one c standing x method offer pool now s n (settled_stage standing.stage settled) can

passes_one : (c : Call) (x : End) (method : OfferMethod) (offer : Description) (pool : pools.Contents) (now : ℕ) (s : Scene) (n : ℕ) → holds_in is_settled c.standing ≡ true → CanOffer s (other x)
    → BeginsOne (dressed s n (call_row c (inputs.Offer x method (Some offer)) pool now).actions).changes
unfolding call_row
passes_one c x method offer pool now s n settled can = in_one c c.standing x method offer pool now s n settled can

-- there was a dialog in which it went
had_leg : (a e : Option Dialog) (n : stage.Standing) → awaits_callee n.stage ≡ false → Keeps (counted a) e → has_leg e (Some n) ≡ true → (leg : Dialog) × (a ≡ Some leg)
had_leg None None n not_asked keeps leg = absurd (false≢true (sym not_asked ∙ leg))
had_leg None (Some e) n not_asked keeps leg = absurd keeps
had_leg (Some a) e n not_asked keeps leg = (a, refl)

-- its request has the server's tag in that dialog
pub offer_tag : (made : ℕ) (x : End) (c : StandingCall) (leg : Dialog) (t : Transaction) → HasMadeTags made c → dialog_of x c.call ≡ Some leg → IsOfferIn leg t → from_tag t ≡ tag_to x c
offer_tag made x c leg t tags there is = is.tag ∙ leg_tag made x c leg tags there

has_after : (x : End) (c d : StandingCall) (t : Transaction) → SameTags c d → from_tag t ≡ tag_to x c → has_tag (from_tag t) d ≡ true
has_after x c d t same tag = same_tag (from_tag t) c d same ∙ has_tag_of c (from_tag t) (tag_of_end x c (from_tag t) tag)

-- the call afterwards
abbrev Passed : Occasion → transactions.Contents → ComingValue → StandingCall → Step → StandingCall
Passed o table w c step = beside (put_with w (messages_of table o w c step)) (with_step c step)

passed_request : (calls : Standing) (table : transactions.Contents) (o : Occasion) (place : ℕ) (w : ComingValue) (x : End) (c : StandingCall) (step : Step) (all : List Transaction)
    → (p : Passing o.tokens calls.calls place x c step (Passed o table w c step)) → ((s : Scene) (n : ℕ) → CanOffer s (other x) → BeginsOne (dressed s n step.actions).changes)
    → dialog_in (other x) w.leg c.call ≡ dialog_of (other x) c.call → HasSoundLegs c → has_number_left (dialog_of (other x) c.call) ≡ true
    → ((t : Transaction) → OpensIn t (messages_of table o w c step).dressed.changes → IsAmong all t) → HasRequest all (Passed o table w c step)
passed_request calls table o place w x c step all p begins at_scene sound numbered new n stands awaits leg_is =
    let s = scene table o w c step.description in
    let d = Passed o table w c step in
    let next : n ≡ p.on.next = same_Some n p.on.next (sym stands ∙ p.stands) in
    let leg_next : has_leg (dialog_of (other x) d.call) (Some p.on.next) ≡ true =
    subst (λ y. has_leg (dialog_of (other y) d.call) (Some p.on.next) ≡ true) p.on.offerer (subst (λ (y : stage.Standing). has_leg (dialog_of (other y.offerer) d.call) (Some y) ≡ true) next leg_is) in
    let keeps : Keeps (counted (dialog_of (other x) c.call)) (dialog_of (other x) d.call) = subst (λ y. Keeps y (dialog_of (other x) d.call)) p.on.theirs (keeps_at step.call d.call (other x) p.keeps) in
    let had = had_leg (dialog_of (other x) c.call) (dialog_of (other x) d.call) p.on.next p.on.not_asked keeps leg_next in
    let leg = had.0 in
    let there : dialog_with (other x) (lent_scene s) ≡ Some leg = scene_dialog table o w c step.description (other x) ∙ at_scene ∙ had.1 in
    let sound_leg : IsSoundLeg leg = subst IsSoundLegIf had.1 (dialog_sound c (other x) sound) in
    let can : CanOffer (lent_scene s) (other x) = record {
      leg = leg;
      description = p.on.open_offer.offer_sent;
      there = there;
      says = lent_text step.description ∙ p.on.says;
      leads = sound_leg.leads;
      numbered = subst (λ y. has_number_left y ≡ true) had.1 numbered;
    } in
    let one : BeginsOne (messages s (passed_id table c) step.actions).dressed.changes = said_begins s (passed_id table c) step.actions (begins (lent_scene s) s.tokens can) in
    let t = one.request in
    let is : IsOfferIn leg t = subst (λ y. IsOfferTo y t) there (p.on.offered (lent_scene s) t (said_offered s (passed_id table c) step.actions t one.opens one.offers)) in
    let has : has_tag (from_tag t) d ≡ true = has_after (other x) c d t p.same (offer_tag o.tokens (other x) c leg t (call_at o.tokens calls.calls place c p.knows p.there) had.1 is) in
    let said : CarriesText (Some p.on.open_offer.offer_sent) t = subst (λ y. CarriesText y t) p.on.says (said_carries s (passed_id table c) step.actions t one.opens one.offers) in
    let kept : d.call.media.offer ≡ Some p.on.open_offer = ap (λ m. m.offer) (beside_media (with_step c step) (put_with w (messages_of table o w c step))) ∙ p.on.kept in (
      t,
      new t one.opens,
      record {
        offers = one.offers;
        tag = has;
        opens = (offer_fits o.tokens calls.calls place x c step d t leg p had.1 is has).opens one.waits;
        carries = subst (CarriesIf t) (sym kept) said;
      },
    )

offers_by_open : (calls : Standing) (table : transactions.Contents) (o : Occasion) (place : ℕ) (end : End) (method : OfferMethod) (offer : Description) (r : Request) (id : ℕ) (source : Addr) (c : StandingCall)
    → slice_get calls.calls place ≡ Some c → holds_in is_settled c.call.standing ≡ true → KnowsCalls o.tokens calls.calls → HasSoundLegs c → has_number_left (dialog_of (other end) c.call) ≡ true
    → OpenStep calls.calls (offers_by calls table o place (inputs.Offer end method (Some offer)) end r id source (counts calls.calls place end r.parts.cseq.number) (Some c))
offers_by_open calls table o place end method offer r id source c there settled knows sound numbered =
    let leg = counts calls.calls place end r.parts.cseq.number in
    let w = offer_coming leg end r id source c in
    let input = inputs.Offer end method (Some offer) in
    let step = call_row c.call input calls.pool o.now in
    let put = put_with w (messages_of table o w c step) in
    let d = beside put (with_step c step) in
    let on = passes_on c.call end method offer calls.pool o.now settled in
    let p : Passing o.tokens calls.calls place end c step d = record {
      there = there;
      knows = knows;
      settled = settled;
      on = on;
      same = same_beside o.tokens c step.call put (call_ids c.call input calls.pool o.now) (counts_fits o.tokens calls.calls place end r.parts.cseq.number c knows there);
      keeps = beside_keeps (with_step c step) put (counts_keeps_in calls.calls place end r.parts.cseq.number c step.call there on.mine);
      stands = beside_standing (with_step c step) put ∙ on.stands;
    } in
    record {
      kept = λ begun all old new each.
          put_or_gone (HasRequest all) calls.calls place d (is_some step.call.standing)
          (λ stands. passed_request calls table o place w end c step all p (λ s n can. passes_one c.call end method offer calls.pool o.now s n settled can) (counts_in_other calls.calls place end r.parts.cseq.number c there) sound numbered new)
          (requests_within begun all calls.calls old each);
    }

pub offers_open : (calls : Standing) (table : transactions.Contents) (o : Occasion) (place : ℕ) (end : End) (method : OfferMethod) (offer : Description) (r : Request) (id : ℕ) (source : Addr) (c : StandingCall)
    → slice_get calls.calls place ≡ Some c → holds_in is_settled c.call.standing ≡ true → KnowsCalls o.tokens calls.calls → HasSoundLegs c → has_number_left (dialog_of (other end) c.call) ≡ true
    → OpenStep calls.calls (offers_row calls table o place (inputs.Offer end method (Some offer)) end r id source)
unfolding offers_row
offers_open calls table o place end method offer r id source c there settled knows sound numbered =
    subst (λ y. OpenStep calls.calls (offers_by calls table o place (inputs.Offer end method (Some offer)) end r id source (counts calls.calls place end r.parts.cseq.number) y)) (sym there)
    (offers_by_open calls table o place end method offer r id source c there settled knows sound numbered)

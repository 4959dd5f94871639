-- The steps of calls: from the first 2xx that a call takes on it has a dialog with its callee.
use Rattle.std.proofs.Common.{◌≡◌, ◌∙◌, ◌<◌, ◌^◌, ℕ, ◌+◌, Bool, true, false, cond, List, [], ◌∷◌, find, nat_lt, Option, Some, None, is_some, option_map, refl, ap, sym, subst, inl, inr, arith}
use Rattle.std.specs.Prelude.{slice_get, slice_set}
use Rattle.std.specs.List.{All, remove}
use Rattle.std.specs.Option.{option_copied}
use Rattle.std.proofs.lemmas.Bool.{false≢true}
use Rattle.std.proofs.lemmas.List.Elements.{All-weaker}
use Rattle.std.proofs.lemmas.Option.{none-some, same_Some}
use Rattle.port_pool.specs.Pool as pools
use Rattle.sip_uri.specs.declared.uri.Addr.{Addr}
use Rattle.sip_uri.specs.declared.uri.Uri.{Uri}
use Rattle.sip_message.specs.Contact.{contacts_of}
use Rattle.sip_message.specs.Words.{tag_text}
use Rattle.sip_message.specs.declared.headers.Header.{Header}
use Rattle.sip_message.specs.declared.message.Request.{Request}
use Rattle.sip_message.specs.declared.via.Via.{Via}
use Rattle.sip_writing.specs.Requests.{server_via}
use Rattle.sdp.specs.declared.description.Description.{Description}
use Rattle.dialogs.specs.Counting.{following, max_for, last_number, method_text}
use Rattle.dialogs.specs.Making.{reached_at}
use Rattle.dialogs.specs.Requests.{parts_in, request_in}
use Rattle.dialogs.specs.declared.method.Method.TheVariants.{Invite as InviteMethod}
use Rattle.dialogs.specs.declared.state.Dialog.{Dialog}
use Rattle.events.specs.declared.sent.Sent.{Sent}
use Rattle.transactions.specs.Contents as transactions
use Rattle.transactions.specs.declared.transaction.Transaction.{Transaction}
use Rattle.call_media.specs.Ends.{is_same, other}
use Rattle.call_media.specs.declared.end.End.{End}
use Rattle.call_media.specs.declared.end.End.TheVariants.{Callee, Caller}
use Rattle.call_core.specs.CallRows.{call_row, first_call_row, is_fit_input}
use Rattle.call_core.specs.Calls.{dialog_of, holds_in, with_target}
use Rattle.call_core.specs.Plans.{Step}
use Rattle.call_core.specs.declared.action.Action.TheVariants.{Offer, Trying}
use Rattle.call_core.specs.declared.call.Call.{Call}
use Rattle.call_core.specs.declared.input.Input.{Input}
use Rattle.call_core.specs.declared.input.Input.TheVariants as inputs
use Rattle.call_core.specs.declared.signal.OfferMethod.{OfferMethod}
use Rattle.call_core.specs.declared.signal.OfferMethod.TheVariants.{Invite}
use Rattle.call_core.specs.declared.stage.Standing as stage
use Rattle.calls.specs.Carrying.{offerer_of, reached_call, with_dialog_at, with_step}
use Rattle.calls.specs.Changes.{beside, with_last, with_leg, with_taken_if}
use Rattle.calls.specs.Finding.{has_tag}
use Rattle.calls.specs.State.{Standing}
use Rattle.calls.specs.declared.change.Beside.{Beside}
use Rattle.calls.specs.declared.change.LegDialog.{LegDialog}
use Rattle.calls.specs.declared.standing_call.StandingCall.{StandingCall}
use Rattle.calls.specs.declared.standing_call.TakenOffer.{TakenOffer}
use Rattle.call_rules.specs.Offers.{is_settled}
use Rattle.call_rules.specs.Speaking.{is_invite}
use Rattle.call_messages.specs.Dressing.{asks_if, branch, dialog_with, dress_one, dressed, says_offer, says_trying}
use Rattle.call_messages.specs.Messages.{new_leg}
use Rattle.call_messages.specs.declared.scene.Scene.{Scene}
use Rattle.call_steps.specs.Effects as steps
use Rattle.call_steps.specs.Effects.{no_effect}
use Rattle.call_steps.specs.Messages.{given_up, is_abandon, messages}
use Rattle.call_steps.specs.Rows.{begins_by, counts, does, first_asker, first_leg, first_row, first_standing, messages_of, offer_coming, offers_by, offers_row, put_with, takes_by, takes_row}
use Rattle.call_steps.specs.Scenes.{dialog_in, first_scene, passed_id, scene, tag_to}
use Rattle.call_steps.specs.Values.{AskerValue, ComingValue, SceneValue, lent_scene, without_offer}
use Rattle.call_steps.specs.declared.occasion.Occasion.{Occasion}
use Rattle.message_laws.specs.CalleeDialogs.{AsksFirst, FitsStage, HasCallee, IsUnanswered, is_unanswered}
use Rattle.message_laws.specs.Knowing.{KnowsCalls, HasMadeTags}
use Rattle.message_laws.specs.Tokens.{IsMade}
use Rattle.message_laws.specs.Waiting.{IsOffering, from_tag}
use Rattle.message_laws.proofs.TokenUse.Apartness.{HasNewTags, SameTags, made_tag, old_and_new}
use Rattle.message_laws.proofs.AwaitedOffers.Awaiting.{CallGrows, Grows, all_at, beside_grows, beside_standing, call_grows_then, put_or_gone, beside_keeps}
use Rattle.message_laws.proofs.TokenUse.Calls.{call_at, call_ids, first_ids, same_beside}
use Rattle.message_laws.proofs.StandingCalls.CalleeTables.{StaysUnanswered, call_nowhere, call_stays}
use Rattle.message_laws.proofs.AwaitedOffers.Coming.{OpensIn}
use Rattle.message_laws.proofs.AwaitedOffers.Offering.{IsOfferIn, IsOfferTo, asked_parts, given_up_none, none_offered, opens_split, said_offered, trying_none}
use Rattle.message_laws.proofs.StandingCalls.OpenSteps.{offer_tag}
use Rattle.message_laws.proofs.TokenUse.TaggedSteps.{counts_fits, new_tags}
use Rattle.message_laws.proofs.AwaitedOffers.Tables.{IsNoOfferInput, consumes_input, takes_fits}
use Rattle.message_laws.proofs.AwaitedOffers.Tagged.{alone_tagged, has_tag_of, scene_dialog, tag_of_end}
use Rattle.message_laws.proofs.AwaitedOffers.WaitFirst.{first_stands, offered_first, pushed_all}
use Rattle.message_laws.proofs.AwaitedOffers.WaitOffers.{Passing, counts_in_other, put_all}
use Rattle.message_laws.proofs.AwaitedOffers.WaitPassed.{passes_grows, passes_on, settled_stage}
use Rattle.message_laws.proofs.AwaitedOffers.WaitSteps.{counts_keeps_in, grows_from, leg_grows_on}
use Rattle.message_laws.proofs.AwaitedOffers.WaitTakes.{LegFits}

pub record CalleeStep (made : ℕ) (before : List StandingCall) (x : steps.Effect) : Type 0 where
  pub calls : All HasCallee before → All HasCallee x.outcome.standing.calls
  pub stayed : (t : Transaction) → IsMade made (from_tag t) → All (AsksFirst t) before → All (AsksFirst t) x.outcome.standing.calls
  pub began : All HasCallee before → (t : Transaction) → OpensIn t x.dressed.changes → IsOffering t → All (AsksFirst t) x.outcome.standing.calls

pub nothing_callee : (made : ℕ) (calls : Standing) → CalleeStep made calls.calls (no_effect calls)
nothing_callee made calls = record { calls = λ all. all; stayed = λ t tag each. each; began = λ all t opens offers. absurd opens }

-- ---- a call

-- a dialog with the callee stays
callee_back : (a e : Option Dialog) → Grows a e → e ≡ None → a ≡ None
callee_back None e h is = refl
callee_back (Some d) None h is = absurd h
callee_back (Some d) (Some e) h is = absurd (none-some e (sym is))

asks_on : (t : Transaction) (c d : StandingCall) → d.callee_tag ≡ c.callee_tag → CallGrows c.call d.call → AsksFirst t c → AsksFirst t d
asks_on t c d same grows h tag none = h (tag ∙ same) (callee_back c.call.callee d.call.callee grows.callee none)

-- the stage fits, where it does so without a dialog
stage_by : (callee : Option Dialog) (n : stage.Standing) → (callee ≡ None → IsUnanswered n) → FitsStage callee n
stage_by None n h = h refl
stage_by (Some d) n h = tt

unanswered_by : (callee : Option Dialog) (n : stage.Standing) → callee ≡ None → FitsStage callee n → IsUnanswered n
unanswered_by None n is h = h
unanswered_by (Some d) n is h = absurd (none-some d (sym is))

-- ---- a dialog with the callee that comes with an event

abbrev pub PutsCallee : Option LegDialog → Type 0
PutsCallee None = ⊥
PutsCallee (Some leg) = leg.end ≡ Callee

dialog_put : (end : End) (d : Dialog) (c : StandingCall) → end ≡ Callee → is_some (with_dialog_at end d c).call.callee ≡ true
dialog_put Caller d c is = absurd (false≢true (ap (λ e. is_same e Callee) is))
dialog_put Callee d c is = refl

leg_put : (c : StandingCall) (leg : Option LegDialog) → PutsCallee leg → is_some (with_leg leg c).call.callee ≡ true
leg_put c None h = absurd h
leg_put c (Some leg) h = dialog_put leg.end leg.dialog c h

taken_put : (c : StandingCall) (taken : Option TakenOffer) → is_some c.call.callee ≡ true → is_some (with_taken_if taken c).call.callee ≡ true
taken_put c None h = h
taken_put c (Some offer) h = h

map_some : {A B : Type 0} (f : A → B) (o : Option A) → is_some o ≡ true → is_some (option_map f o) ≡ true
map_some f None h = h
map_some f (Some a) h = refl

target_put : (end : End) (target : Uri) (c : Call) → is_some c.callee ≡ true → is_some (with_target end target c).callee ≡ true
target_put Caller target c h = h
target_put Callee target c h = map_some _ c.callee h

reached_put : (target : Option Uri) (c : Call) → is_some c.callee ≡ true → is_some (reached_call target c).callee ≡ true
reached_put None c h = h
reached_put (Some target) c h = target_put (offerer_of c.standing) target c h

last_put : (c : StandingCall) (answer : Option Sent) → is_some c.call.callee ≡ true → is_some (with_last answer c).call.callee ≡ true
last_put c None h = h
last_put c (Some answer) h = reached_put c.target c.call h

beside_put : (c : StandingCall) (kept : Beside) → PutsCallee kept.leg → (beside kept c).call.callee ≡ None → ⊥
beside_put c kept puts none =
    false≢true (ap is_some (sym none) ∙ last_put (with_taken_if kept.taken (with_leg kept.leg c)) kept.answer (taken_put (with_leg kept.leg c) kept.taken (leg_put c kept.leg puts)))

-- ---- a call takes an input that is no offer

-- with a fit answer to its first INVITE comes the dialog with the callee
abbrev pub Settles : StandingCall → Input → Option LegDialog → Type 0
Settles c input leg = is_fit_input c.call input ≡ true → c.call.callee ≡ None → (s : stage.Standing) → c.call.standing ≡ Some s → IsUnanswered s → PutsCallee leg

stays_unanswered : (x : End) (standing : Option stage.Standing) (n : stage.Standing) → standing ≡ Some n → StaysUnanswered x standing → x ≡ Caller → IsUnanswered n
stays_unanswered x None n is h first = absurd (none-some n is)
stays_unanswered x (Some m) n is h first = subst IsUnanswered (same_Some m n is) (record { stage = h.0; offerer = h.1 ∙ first })

input_unanswered : (c : StandingCall) (input : Input) (pool : pools.Contents) (now : ℕ) (kept : Beside) (s n : stage.Standing) (fit : Bool) → is_fit_input c.call input ≡ fit → IsNoOfferInput input
    → (is_fit_input c.call input ≡ true → ⊥) → c.call.standing ≡ Some s → IsUnanswered s → (call_row c.call input pool now).call.standing ≡ Some n → IsUnanswered n
input_unanswered c input pool now kept s n true is no_offer unfit stands first next = absurd (unfit is)
input_unanswered c input pool now kept s n false is no_offer unfit stands first next =
    stays_unanswered s.offerer (call_row c.call input pool now).call.standing n next (call_stays c.call s input pool now stands first.stage no_offer is) first.offerer

call_unanswered : (c : StandingCall) (input : Input) (pool : pools.Contents) (now : ℕ) (kept : Beside) (standing : Option stage.Standing) (n : stage.Standing) → c.call.standing ≡ standing → IsNoOfferInput input
    → Settles c input kept.leg → HasCallee c → c.call.callee ≡ None → (PutsCallee kept.leg → ⊥) → (call_row c.call input pool now).call.standing ≡ Some n → IsUnanswered n
call_unanswered c input pool now kept None n stands no_offer settles has none unput next = absurd (none-some n (sym (call_nowhere c.call input pool now stands) ∙ next))
call_unanswered c input pool now kept (Some s) n stands no_offer settles has none unput next =
    let first : IsUnanswered s = unanswered_by c.call.callee s none (has s stands) in
    input_unanswered c input pool now kept s n (is_fit_input c.call input) refl no_offer (λ fit. unput (settles fit none s stands first)) stands first next

does_callee : (calls : Standing) (table : transactions.Contents) (o : Occasion) (place made : ℕ) (w : ComingValue) (c : StandingCall) (input : Input) → IsNoOfferInput input → Settles c input w.leg
    → LegFits (consumes_input input) made w.leg c → slice_get calls.calls place ≡ Some c → CalleeStep made calls.calls (does calls table o place w c (call_row c.call input calls.pool o.now))
does_callee calls table o place made w c input no_offer settles leg there =
    let step = call_row c.call input calls.pool o.now in
    let put = put_with w (messages_of table o w c step) in
    let d = beside put (with_step c step) in
    let fits = takes_fits c.call input calls.pool o.now no_offer in
    let grows : CallGrows c.call d.call =
    grows_from c.call (consumes_input input) step d.call fits (beside_grows (with_step c step) put (leg_grows_on c.call (consumes_input input) step w.leg fits leg.grows)) in
    let same = same_beside made c step.call put (call_ids c.call input calls.pool o.now) leg.tags in
    record {
      calls = λ all.
          put_or_gone HasCallee calls.calls place d (is_some step.call.standing)
          (λ stands n is.
          stage_by d.call.callee n
          (λ none.
          call_unanswered c input calls.pool o.now put c.call.standing n refl no_offer settles (all_at HasCallee calls.calls place c all there) (callee_back c.call.callee d.call.callee grows.callee none)
          (λ puts. beside_put (with_step c step) put puts none) (sym (beside_standing (with_step c step) put) ∙ is))) all;
      stayed = λ t tag each.
          put_or_gone (AsksFirst t) calls.calls place d (is_some step.call.standing) (λ stands. asks_on t c d same.callee grows (all_at (AsksFirst t) calls.calls place c each there)) each;
      began = λ all t opens offers.
          absurd (none_offered (lent_scene (scene table o w c step.description)) step.actions t fits.none_offered (said_offered (scene table o w c step.description) (passed_id table c) step.actions t opens offers));
    }

takes_by_callee : (calls : Standing) (table : transactions.Contents) (o : Occasion) (place made : ℕ) (input : Input) (leg : Option LegDialog) (request : Option AskerValue) (c : Option StandingCall)
    → IsNoOfferInput input → slice_get calls.calls place ≡ c
    → ((d : StandingCall) → slice_get calls.calls place ≡ Some d → LegFits (consumes_input input) made leg d × Settles d input leg)
    → CalleeStep made calls.calls (takes_by calls table o place input leg request c)
takes_by_callee calls table o place made input leg request None no_offer there fits = nothing_callee made calls
takes_by_callee calls table o place made input leg request (Some c) no_offer there fits =
    let fit = fits c there in
    does_callee calls table o place made (without_offer leg request) c input no_offer fit.1 fit.0 there

pub takes_callee : (calls : Standing) (table : transactions.Contents) (o : Occasion) (place made : ℕ) (input : Input) (leg : Option LegDialog) (request : Option AskerValue) → IsNoOfferInput input
    → ((d : StandingCall) → slice_get calls.calls place ≡ Some d → LegFits (consumes_input input) made leg d × Settles d input leg) → CalleeStep made calls.calls (takes_row calls table o place input leg request)
unfolding takes_row
takes_callee calls table o place made input leg request no_offer fits = takes_by_callee calls table o place made input leg request (slice_get calls.calls place) no_offer refl fits

-- ---- the first INVITE

said_invites : (d : Dialog) (via : Via) (hops : ℕ) (further : List Header) (body : List ℕ) (made : ℕ) (b : Bool) (t : Transaction)
    → OpensIn t (asks_if (cond b (Some (request_in d via (method_text InviteMethod) (following d) hops further body)) None) made).changes → is_invite t.parts ≡ true
unfolding request_in parts_in
said_invites d via hops further body made false t opens = absurd opens
said_invites d via hops further body made true t opens =
    subst (λ p. is_invite p ≡ true) (sym (asked_parts (request_in d via (method_text InviteMethod) (following d) hops further body) made t opens)) refl

offer_invites : (s : Scene) (n : ℕ) (d : Option Dialog) (description : Option Description) (t : Transaction) → OpensIn t (says_offer s n d Invite description).changes → is_invite t.parts ≡ true
offer_invites s n None description t opens = absurd opens
offer_invites s n (Some d) None t opens = absurd opens
offer_invites s n (Some d) (Some description) t opens =
    said_invites d (server_via s.server (branch s n)) _ _ _ 1 (nat_lt (last_number d) (max_for InviteMethod)) t opens

first_dressed : (s : Scene) (n : ℕ) (t : Transaction) → OpensIn t (dressed s n (Trying Caller ∷ Offer Callee Invite ∷ [])).changes → is_invite t.parts ≡ true
unfolding dress_one
first_dressed s n t opens = elim (opens_split t (says_trying s.offer).changes _ opens) [
  | inl h ↦ absurd (trying_none s.offer t h)
  | inr h ↦ elim (opens_split t (says_offer s (n + (says_trying s.offer).made) (dialog_with Callee s) Invite (option_copied s.description)).changes [] h) [
    | inl k ↦ offer_invites s (n + (says_trying s.offer).made) (dialog_with Callee s) (option_copied s.description) t k
    | inr k ↦ absurd k
  ]
]

first_invites : (s : SceneValue) (c : Call) (offer : Description) (pool : pools.Contents) (now : ℕ) (t : Transaction) → OpensIn t (messages s None (first_call_row c offer pool now).actions).dressed.changes → is_invite t.parts ≡ true
unfolding messages first_call_row
first_invites s c offer pool now t opens = elim (opens_split t (dressed (lent_scene s) s.tokens (Trying Caller ∷ Offer Callee Invite ∷ [])).changes (given_up None (find is_abandon (first_call_row c offer pool now).actions)) opens) [
  | inl h ↦ first_dressed (lent_scene s) s.tokens t h
  | inr h ↦ absurd (given_up_none None (find is_abandon (first_call_row c offer pool now).actions) t h)
]

first_unanswered : (c : Call) (offer : Description) (pool : pools.Contents) (now : ℕ) (n : stage.Standing) → (first_call_row c offer pool now).call.standing ≡ Some n → IsUnanswered n
unfolding first_call_row
first_unanswered c offer pool now n is = subst IsUnanswered (same_Some _ n is) (record { stage = refl; offerer = refl })

begins_by_callee : (calls : Standing) (o : Occasion) (r : Request) (id : ℕ) (source : Addr) (target : Uri) (offer : Description) (contact : Option Uri) → tag_text r.parts.to.params ≡ [] → o.tokens < 2 ^ 63
    → KnowsCalls o.tokens calls.calls → CalleeStep o.tokens calls.calls (begins_by calls o r id source target offer contact)
unfolding new_leg
begins_by_callee calls o r id source target offer None e few knows = nothing_callee o.tokens calls
begins_by_callee calls o r id source target offer (Some contact) e few knows =
    let c = first_standing (calls.begun + 1) o r id source contact in
    let step = first_call_row c.call offer calls.pool o.now in
    let leg = first_leg o r target in
    let s = first_scene o (first_asker o r id source) r.max_forwards leg step.description in
    let d = with_step c step in
    let new : HasNewTags o.tokens d = new_tags o r id (calls.begun + 1) source contact step.call (first_ids c.call offer calls.pool o.now) e few in
    let stands = first_stands c.call offer calls.pool o.now in
    record {
      calls = λ all. pushed_all HasCallee d calls.calls (is_some step.call.standing) stands all (λ n is. stage_by d.call.callee n (λ none. first_unanswered c.call offer calls.pool o.now n is));
      stayed = λ t tag each.
          pushed_all (AsksFirst t) d calls.calls (is_some step.call.standing) stands each (λ same none. absurd (old_and_new o.tokens new.salt new.second (from_tag t) tag new.new_second new.few (same ∙ new.callee)));
      began = λ all t opens offers.
          let is : IsOfferIn leg t = offered_first s leg c.call offer calls.pool o.now t refl opens offers in
          pushed_all (AsksFirst t) d calls.calls (is_some step.call.standing) stands
          (All-weaker (HasMadeTags o.tokens) (AsksFirst t)
          (λ y made same none. absurd (old_and_new o.tokens o.salt (o.tokens + 3) (from_tag t) (made_tag o.tokens y (from_tag t) made (inr same)) (omega arith) (omega (arith, few)) is.tag)) calls.calls knows.tags)
          (λ same none. first_invites s c.call offer calls.pool o.now t opens);
    }

pub first_callee : (calls : Standing) (o : Occasion) (r : Request) (id : ℕ) (source : Addr) (target : Uri) (offer : Description) → tag_text r.parts.to.params ≡ [] → o.tokens < 2 ^ 63
    → KnowsCalls o.tokens calls.calls → CalleeStep o.tokens calls.calls (first_row calls o r id source target offer)
unfolding first_row
first_callee calls o r id source target offer e few knows = begins_by_callee calls o r id source target offer (reached_at (contacts_of r.headers)) e few knows

-- ---- an offer inside a call

settled_answered : (n : stage.Standing) → is_settled n.stage ≡ true → IsUnanswered n → ⊥
settled_answered n settled first = false≢true (ap is_unanswered (sym (settled_stage n.stage settled)) ∙ first.stage)

-- it has a dialog with its callee
settled_callee : (c : StandingCall) (standing : Option stage.Standing) → c.call.standing ≡ standing → holds_in is_settled standing ≡ true → HasCallee c → c.call.callee ≡ None → ⊥
settled_callee c None is settled has none = false≢true settled
settled_callee c (Some s) is settled has none = settled_answered s settled (unanswered_by c.call.callee s none (has s is))

-- its request is none of the callee's leg before there is a dialog
passed_asks : (made : ℕ) (calls : List StandingCall) (place : ℕ) (x : End) (c d : StandingCall) (t : Transaction) (o : Option Dialog) → KnowsCalls made calls → slice_get calls place ≡ Some c → SameTags c d
    → (d.call.callee ≡ None → ⊥) → dialog_of x c.call ≡ o → IsOfferTo o t → All (AsksFirst t) (slice_set calls place d)
passed_asks made calls place x c d t None knows there same had is offered = absurd offered
passed_asks made calls place x c d t (Some leg) knows there same had is offered =
    let tag : from_tag t ≡ tag_to x c = offer_tag made x c leg t (call_at made calls place c knows there) is offered in
    All-weaker (λ y. has_tag (from_tag t) y ≡ true → AsksFirst t y) (AsksFirst t) (λ y h same_tag none. h (has_tag_of y (from_tag t) (inr same_tag)) same_tag none) (slice_set calls place d)
    (alone_tagged (AsksFirst t) (from_tag t) calls place c d knows.apart there (tag_of_end x c (from_tag t) tag) (λ has same_tag none. absurd (had none)))

passed_callee : (calls : Standing) (table : transactions.Contents) (o : Occasion) (place : ℕ) (w : ComingValue) (x : End) (c : StandingCall) (step : Step)
    → Passing o.tokens calls.calls place x c step (beside (put_with w (messages_of table o w c step)) (with_step c step)) → dialog_in (other x) w.leg c.call ≡ dialog_of (other x) c.call
    → CalleeStep o.tokens calls.calls (does calls table o place w c step)
passed_callee calls table o place w x c step p at_scene =
    let s = scene table o w c step.description in
    let d = beside (put_with w (messages_of table o w c step)) (with_step c step) in
    let grows : CallGrows c.call d.call = call_grows_then c.call step.call d.call (passes_grows c.call x step p.on) p.keeps in
    let has : All HasCallee calls.calls → d.call.callee ≡ None → ⊥ = λ all none.
    settled_callee c c.call.standing refl p.settled (all_at HasCallee calls.calls place c all p.there) (callee_back c.call.callee d.call.callee grows.callee none) in
    record {
      calls = λ all. put_or_gone HasCallee calls.calls place d (is_some step.call.standing) (λ stands n is. stage_by d.call.callee n (λ none. absurd (has all none))) all;
      stayed = λ t tag each. put_or_gone (AsksFirst t) calls.calls place d (is_some step.call.standing) (λ stands. asks_on t c d p.same.callee grows (all_at (AsksFirst t) calls.calls place c each p.there)) each;
      began = λ all t opens offers.
          let offered : IsOfferTo (dialog_of (other x) c.call) t =
          subst (λ y. IsOfferTo y t) (scene_dialog table o w c step.description (other x) ∙ at_scene) (p.on.offered (lent_scene s) t (said_offered s (passed_id table c) step.actions t opens offers)) in
          put_all (AsksFirst t) (is_some step.call.standing) (slice_set calls.calls place d) (remove calls.calls place) (ap is_some p.on.stands)
          (passed_asks o.tokens calls.calls place (other x) c d t (dialog_of (other x) c.call) p.knows p.there p.same (has all) refl offered);
    }

offers_by_callee : (calls : Standing) (table : transactions.Contents) (o : Occasion) (place : ℕ) (end : End) (method : OfferMethod) (offer : Description) (r : Request) (id : ℕ) (source : Addr) (c : StandingCall)
    → slice_get calls.calls place ≡ Some c → holds_in is_settled c.call.standing ≡ true → KnowsCalls o.tokens calls.calls
    → CalleeStep o.tokens calls.calls (offers_by calls table o place (inputs.Offer end method (Some offer)) end r id source (counts calls.calls place end r.parts.cseq.number) (Some c))
offers_by_callee calls table o place end method offer r id source c there settled knows =
    let w = offer_coming (counts calls.calls place end r.parts.cseq.number) end r id source c in
    let input = inputs.Offer end method (Some offer) in
    let step = call_row c.call input calls.pool o.now in
    let put = put_with w (messages_of table o w c step) in
    let on = passes_on c.call end method offer calls.pool o.now settled in
    passed_callee calls table o place w end c step (
    record {
      there = there;
      knows = knows;
      settled = settled;
      on = on;
      same = same_beside o.tokens c step.call put (call_ids c.call input calls.pool o.now) (counts_fits o.tokens calls.calls place end r.parts.cseq.number c knows there);
      keeps = beside_keeps (with_step c step) put (counts_keeps_in calls.calls place end r.parts.cseq.number c step.call there on.mine);
      stands = beside_standing (with_step c step) put ∙ on.stands;
    }
    ) (counts_in_other calls.calls place end r.parts.cseq.number c there)

pub offers_callee : (calls : Standing) (table : transactions.Contents) (o : Occasion) (place : ℕ) (end : End) (method : OfferMethod) (offer : Description) (r : Request) (id : ℕ) (source : Addr) (c : StandingCall)
    → slice_get calls.calls place ≡ Some c → holds_in is_settled c.call.standing ≡ true → KnowsCalls o.tokens calls.calls
    → CalleeStep o.tokens calls.calls (offers_row calls table o place (inputs.Offer end method (Some offer)) end r id source)
unfolding offers_row
offers_callee calls table o place end method offer r id source c there settled knows =
    subst (λ y. CalleeStep o.tokens calls.calls (offers_by calls table o place (inputs.Offer end method (Some offer)) end r id source (counts calls.calls place end r.parts.cseq.number) y)) (sym there)
    (offers_by_callee calls table o place end method offer r id source c there settled knows)

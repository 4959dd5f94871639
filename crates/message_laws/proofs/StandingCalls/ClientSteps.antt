-- The steps of calls: what their requests are made of is sound, and so are the requests that they begin; and no dialog
-- counts too far.
use Rattle.std.proofs.Common.{◌≡◌, ℕ, ◌+◌, true, List, [], ◌∷◌, Option, Some, None, Ok, is_some, position, refl, subst, sym, arith}
use Rattle.std.specs.Prelude.{slice_get}
use Rattle.std.specs.List.{All, list_all}
use Rattle.std.proofs.lemmas.Bool.{and_parts}
use Rattle.std.proofs.lemmas.List.Quantifiers.{position-Some}
use Rattle.text.specs.Class.{is_token_byte}
use Rattle.sip_uri.specs.declared.uri.Addr.{Addr}
use Rattle.sip_uri.specs.declared.uri.NameAddr.{NameAddr}
use Rattle.sip_uri.specs.declared.uri.Param.{Param}
use Rattle.sip_uri.specs.declared.uri.Uri.{Uri}
use Rattle.sip_message.specs.Contact.{contacts_of}
use Rattle.sip_message.specs.Read.{message_of}
use Rattle.sip_message.specs.Words.{tag_text}
use Rattle.sip_message.specs.declared.message.Message.TheVariants as Kinds
use Rattle.sip_message.specs.declared.message.Parts.{Parts}
use Rattle.sip_message.specs.declared.message.Request.{Request}
use Rattle.sip_message.specs.declared.message.Response.{Response}
use Rattle.sip_writing.specs.Requests.{IsEnd}
use Rattle.sdp.specs.declared.description.Description.{Description}
use Rattle.dialogs.specs.Making.{callers_dialog, reached_at}
use Rattle.dialogs.specs.declared.state.Dialog.{Dialog}
use Rattle.transactions.specs.Contents as transactions
use Rattle.transactions.specs.Slots.{at, is_waiting_invite}
use Rattle.transactions.specs.declared.transaction.Transaction.{Transaction}
use Rattle.call_media.specs.declared.end.End.TheVariants.{Callee, Caller}
use Rattle.call_core.specs.CallRows.{call_row, first_call_row}
use Rattle.call_core.specs.Plans.{Step}
use Rattle.call_core.specs.declared.action.Action.{Action}
use Rattle.call_core.specs.declared.action.Action.TheVariants.{Ack, Bye}
use Rattle.call_core.specs.declared.input.Input.{Input}
use Rattle.calls.specs.Carrying.{with_step}
use Rattle.calls.specs.Changes.{beside}
use Rattle.calls.specs.State.{Standing}
use Rattle.calls.specs.declared.change.LegDialog.{LegDialog}
use Rattle.calls.specs.declared.standing_call.StandingCall.{StandingCall}
use Rattle.call_messages.specs.Messages.{new_leg}
use Rattle.call_steps.specs.Effects as steps
use Rattle.call_steps.specs.Effects.{no_effect}
use Rattle.call_steps.specs.Messages.{messages}
use Rattle.call_steps.specs.Rows.{begins_by, counts, does, first_asker, first_leg, first_row, first_standing, fork_by, fork_row, forked, late_by, late_row, later_dialog, messages_of, offer_coming, offers_by, offers_row, put_with, takes_by, takes_row}
use Rattle.call_steps.specs.Scenes.{at_id, dialog_in, first_scene, fork_scene, passed_id, scene}
use Rattle.call_steps.specs.Values.{AskerValue, ComingValue, lent_scene, without_offer}
use Rattle.call_steps.specs.declared.occasion.Occasion.{Occasion}
use Rattle.message_laws.specs.Addresses.{IsReached}
use Rattle.message_laws.specs.Sound.{HasSoundLegs, IsSoundLeg, IsSoundLegIf, SaysDialog}
use Rattle.message_laws.proofs.AwaitedOffers.Awaiting.{all_at, put_or_gone}
use Rattle.message_laws.proofs.QuietEvents.Dressings.{tag_said}
use Rattle.message_laws.proofs.StandingCalls.Reading.{Reading, callers_sound}
use Rattle.message_laws.proofs.StandingCalls.SoundCalls.{IsSoundPut, coming_sound, counts_sound}
use Rattle.message_laws.proofs.TokenUse.TaggedSteps.{awaits_client}
use Rattle.message_laws.specs.SoundClients.{CountsLowIf, HasLowNumbers, IsSoundClientIf}
use Rattle.message_laws.specs.SoundScenes.{CanAskFrom, CanAskIn, CanAskInIf, CountsLow, IsSoundRequest, IsSoundRequestIf}
use Rattle.message_laws.proofs.StandingCalls.ClientSlots.{client_at}
use Rattle.message_laws.proofs.StandingCalls.LowCalls.{IsLowPut, beside_low, coming_low, counts_low, pushed_low, step_low}
use Rattle.message_laws.proofs.StandingCalls.LowNumbers.{HasNumberFor, KeepsLow, call_low, first_call_low}
use Rattle.message_laws.proofs.StandingCalls.SoundAsks.{AllSound, lent_asks, messages_sound}

-- what a step results in
pub record ClientStep (x : steps.Effect) : Type 0 where
  pub began : AllSound x.dressed.changes
  pub calls : All HasLowNumbers x.outcome.standing.calls

nothing_began : (calls : Standing) → All HasLowNumbers calls.calls → ClientStep (no_effect calls)
nothing_began calls all = record { began = λ t opens. absurd opens; calls = all }

-- what is known of the calls before it
pub record AreKnown (table : transactions.Contents) (calls : List StandingCall) : Type 0 where
  pub slots : All IsSoundClientIf table.slots
  pub legs : All HasSoundLegs calls
  pub low : All HasLowNumbers calls

-- ---- the INVITE that was passed on

waiting_sound : (slots : List (Option Transaction)) (tag : List ℕ) (id : ℕ) (t : Option Transaction) → All IsSoundClientIf slots → at slots id ≡ t → is_waiting_invite tag t ≡ true → IsSoundRequestIf t
unfolding is_waiting_invite
waiting_sound slots tag id None all there waits = tt
waiting_sound slots tag id (Some t) all there waits = client_at slots id t all there (awaits_client t.state (and_parts _ _ waits).0)

pub passed_sound : (slots : List (Option Transaction)) (tag : List ℕ) (id : Option ℕ) → All IsSoundClientIf slots → position (is_waiting_invite tag) slots ≡ id → IsSoundRequestIf (at_id slots id)
passed_sound slots tag None all there = tt
passed_sound slots tag (Some id) all there = waiting_sound slots tag id (at slots id) all refl (position-Some (is_waiting_invite tag) slots id None there).1

-- ---- the scene of a live call

pub can_ask_in : (d : Option Dialog) → IsSoundLegIf d → CountsLowIf d → CanAskInIf d
can_ask_in None sound low = tt
can_ask_in (Some d) sound low = record { sound = sound.sound; low = low }

pub scene_asks : (table : transactions.Contents) (o : Occasion) (w : ComingValue) (c : StandingCall) (description : Option Description) → IsReached o.server → All IsSoundClientIf table.slots → HasSoundLegs c → HasLowNumbers c
    → IsSoundPut w.leg → IsLowPut w.leg → CanAskFrom (lent_scene (scene table o w c description))
scene_asks table o w c description reached slots legs low sound_put low_put =
    lent_asks (scene table o w c description) reached
    (can_ask_in (dialog_in Caller w.leg c.call) (coming_sound c Caller w.leg sound_put legs) (coming_low c Caller w.leg low_put low))
    (can_ask_in (dialog_in Callee w.leg c.call) (coming_sound c Callee w.leg sound_put legs) (coming_low c Callee w.leg low_put low))
    (passed_sound table.slots _ (passed_id table c) slots refl)

-- ---- a live call

does_asks : (calls : Standing) (table : transactions.Contents) (o : Occasion) (place : ℕ) (w : ComingValue) (c : StandingCall) (step : Step) → IsReached o.server → AreKnown table calls.calls → slice_get calls.calls place ≡ Some c
    → IsSoundPut w.leg → IsLowPut w.leg → KeepsLow c.call step.call → ClientStep (does calls table o place w c step)
does_asks calls table o place w c step reached k there sound low keeps =
    let put = put_with w (messages_of table o w c step) in
    let own = all_at HasLowNumbers calls.calls place c k.low there in
    record {
      began = messages_sound (scene table o w c step.description) (passed_id table c) step.actions
          (scene_asks table o w c step.description reached k.slots (all_at HasSoundLegs calls.calls place c k.legs there) own sound low);
      calls = put_or_gone HasLowNumbers calls.calls place (beside put (with_step c step)) (is_some step.call.standing)
          (λ stands. beside_low (with_step c step) put low (step_low c step.call keeps own)) k.low;
    }

takes_by_asks : (calls : Standing) (table : transactions.Contents) (o : Occasion) (place : ℕ) (input : Input) (leg : Option LegDialog) (request : Option AskerValue) (c : Option StandingCall) → IsReached o.server
    → AreKnown table calls.calls → slice_get calls.calls place ≡ c → IsSoundPut leg → IsLowPut leg → ((d : StandingCall) → HasNumberFor d.call input) → ClientStep (takes_by calls table o place input leg request c)
takes_by_asks calls table o place input leg request None reached k there sound low left = nothing_began calls k.low
takes_by_asks calls table o place input leg request (Some c) reached k there sound low left =
    does_asks calls table o place (without_offer leg request) c (call_row c.call input calls.pool o.now) reached k there sound low (call_low c.call input calls.pool o.now (left c))

-- of an input that is no offer
pub takes_asks : (calls : Standing) (table : transactions.Contents) (o : Occasion) (place : ℕ) (input : Input) (leg : Option LegDialog) (request : Option AskerValue) → IsReached o.server → AreKnown table calls.calls
    → IsSoundPut leg → IsLowPut leg → ((d : StandingCall) → HasNumberFor d.call input) → ClientStep (takes_row calls table o place input leg request)
unfolding takes_row
takes_asks calls table o place input leg request reached k sound low left = takes_by_asks calls table o place input leg request (slice_get calls.calls place) reached k refl sound low left

-- ---- an offer inside a call

offers_by_asks : (calls : Standing) (table : transactions.Contents) (o : Occasion) (place : ℕ) (input : Input) (end : _) (r : Request) (id : ℕ) (source : Addr) (leg : Option LegDialog) (c : Option StandingCall)
    → IsReached o.server → AreKnown table calls.calls → slice_get calls.calls place ≡ c → IsSoundPut leg → IsLowPut leg → ((d : StandingCall) → c ≡ Some d → HasNumberFor d.call input)
    → ClientStep (offers_by calls table o place input end r id source leg c)
offers_by_asks calls table o place input end r id source leg None reached k there sound low left = nothing_began calls k.low
offers_by_asks calls table o place input end r id source leg (Some c) reached k there sound low left =
    does_asks calls table o place (offer_coming leg end r id source c) c (call_row c.call input calls.pool o.now) reached k there sound low (call_low c.call input calls.pool o.now (left c refl))

pub offers_asks : (calls : Standing) (table : transactions.Contents) (o : Occasion) (place : ℕ) (input : Input) (end : _) (r : Request) (id : ℕ) (source : Addr) → IsReached o.server → AreKnown table calls.calls
    → ((d : StandingCall) → slice_get calls.calls place ≡ Some d → HasNumberFor d.call input) → ClientStep (offers_row calls table o place input end r id source)
unfolding offers_row
offers_asks calls table o place input end r id source reached k left =
    offers_by_asks calls table o place input end r id source (counts calls.calls place end r.parts.cseq.number) (slice_get calls.calls place) reached k refl
    (counts_sound calls.calls place end r.parts.cseq.number k.legs) (counts_low calls.calls place end r.parts.cseq.number k.low) left

-- ---- a call that begins

first_low : (o : Occasion) (r : Request) (to : Uri) → CountsLow (first_leg o r to)
unfolding new_leg
first_low o r to = omega arith

pub first_scene_asks : (o : Occasion) (asker : AskerValue) (hops : ℕ) (r : Request) (to : Uri) (description : Option Description) → IsReached o.server → IsSoundLeg (first_leg o r to)
    → CanAskFrom (lent_scene (first_scene o asker hops (first_leg o r to) description))
first_scene_asks o asker hops r to description reached leg =
    lent_asks (first_scene o asker hops (first_leg o r to) description) reached tt (record { sound = leg.sound; low = first_low o r to }) tt

begins_by_asks : (calls : Standing) (o : Occasion) (r : Request) (id : ℕ) (source : Addr) (to : Uri) (offer : Description) (contact : Option Uri) → IsReached o.server → All HasLowNumbers calls.calls
    → ((uri : Uri) → contact ≡ Some uri → IsSoundLeg (first_leg o r to)) → ClientStep (begins_by calls o r id source to offer contact)
begins_by_asks calls o r id source to offer None reached all leg = nothing_began calls all
begins_by_asks calls o r id source to offer (Some contact) reached all leg =
    let c = first_standing (calls.begun + 1) o r id source contact in
    let step = first_call_row c.call offer calls.pool o.now in
    let asker = first_asker o r id source in
    record {
      began = messages_sound (first_scene o asker r.max_forwards (first_leg o r to) step.description) None step.actions
          (first_scene_asks o asker r.max_forwards r to step.description reached (leg contact refl));
      calls = pushed_low (with_step c step) calls.calls (is_some step.call.standing)
          (step_low c step.call (first_call_low c.call offer calls.pool o.now) (record { caller = omega arith; callee = tt })) all;
    }

pub first_asks : (calls : Standing) (o : Occasion) (r : Request) (id : ℕ) (source : Addr) (to : Uri) (offer : Description) → IsReached o.server → All HasLowNumbers calls.calls
    → ((uri : Uri) → reached_at (contacts_of r.headers) ≡ Some uri → IsSoundLeg (first_leg o r to)) → ClientStep (first_row calls o r id source to offer)
unfolding first_row
first_asks calls o r id source to offer reached all leg = begins_by_asks calls o r id source to offer (reached_at (contacts_of r.headers)) reached all leg

-- ---- a 2xx that no call takes

pub fork_scene_asks : (o : Occasion) (leg : Dialog) → IsReached o.server → CanAskIn leg → CanAskFrom (lent_scene (fork_scene o leg))
fork_scene_asks o leg reached can = lent_asks (fork_scene o leg) reached tt can tt

alone_asks : (calls : Standing) (o : Occasion) (leg : Dialog) (actions : List Action) → IsReached o.server → CanAskIn leg → All HasLowNumbers calls.calls
    → ClientStep (forked calls (messages (fork_scene o leg) None actions))
alone_asks calls o leg actions reached can all = record { began = messages_sound (fork_scene o leg) None actions (fork_scene_asks o leg reached can); calls = all }

-- the dialog that it makes
pub fork_can : Reading → (text : List ℕ) (uri : Uri) (asked : Parts) (r : Response) (target : Uri) → message_of text ≡ Ok (Kinds.Response r) → SaysDialog asked → IsSoundRequest uri asked
    → reached_at (contacts_of r.headers) ≡ Some target → CanAskIn (callers_dialog asked r target)
fork_can reading text uri asked r target read says sound at_target = record {
  sound = callers_sound reading text asked r target read says (reading.contact r.headers target at_target);
  low = sound.values.number;
}

end_tag : (name : NameAddr) → IsEnd name → list_all is_token_byte (tag_text name.params) ≡ true
end_tag name h =
    subst (λ (params : List Param). list_all is_token_byte (tag_text params) ≡ true) (sym h.tagged) (subst (λ (tag : List ℕ). list_all is_token_byte tag ≡ true) (sym (tag_said h.tag)) h.token)

-- that of a later INVITE, with its own To
pub late_can : Reading → (text : List ℕ) (uri : Uri) (asked : Parts) (r : Response) (target : Uri) → message_of text ≡ Ok (Kinds.Response r) → SaysDialog asked → IsSoundRequest uri asked
    → reached_at (contacts_of r.headers) ≡ Some target → CanAskIn (later_dialog asked r target)
late_can reading text uri asked r target read says sound at_target = record {
  sound = record {
    call_id = says.call_id;
    call_id_value = says.call_id_value;
    our_tag = says.tag;
    their_tag = end_tag asked.to sound.to;
    ours = says.from;
    theirs = says.to;
    target = reading.contact r.headers target at_target;
  };
  low = sound.values.number;
}

fork_by_asks : (calls : Standing) (o : Occasion) (asked : Parts) (r : Response) (contact : Option Uri) → IsReached o.server → All HasLowNumbers calls.calls
    → ((target : Uri) → contact ≡ Some target → CanAskIn (callers_dialog asked r target)) → ClientStep (fork_by calls o asked r contact)
fork_by_asks calls o asked r None reached all can = nothing_began calls all
fork_by_asks calls o asked r (Some target) reached all can = alone_asks calls o (callers_dialog asked r target) (Ack Callee ∷ Bye Callee ∷ []) reached (can target refl) all

pub fork_asks : (calls : Standing) (o : Occasion) (asked : Parts) (r : Response) → IsReached o.server → All HasLowNumbers calls.calls
    → ((target : Uri) → reached_at (contacts_of r.headers) ≡ Some target → CanAskIn (callers_dialog asked r target)) → ClientStep (fork_row calls o asked r)
unfolding fork_row
fork_asks calls o asked r reached all can = fork_by_asks calls o asked r (reached_at (contacts_of r.headers)) reached all can

late_by_asks : (calls : Standing) (o : Occasion) (asked : Parts) (r : Response) (contact : Option Uri) → IsReached o.server → All HasLowNumbers calls.calls
    → ((target : Uri) → contact ≡ Some target → CanAskIn (later_dialog asked r target)) → ClientStep (late_by calls o asked r contact)
late_by_asks calls o asked r None reached all can = nothing_began calls all
late_by_asks calls o asked r (Some target) reached all can = alone_asks calls o (later_dialog asked r target) (Ack Callee ∷ []) reached (can target refl) all

pub late_asks : (calls : Standing) (o : Occasion) (asked : Parts) (r : Response) → IsReached o.server → All HasLowNumbers calls.calls
    → ((target : Uri) → reached_at (contacts_of r.headers) ≡ Some target → CanAskIn (later_dialog asked r target)) → ClientStep (late_row calls o asked r)
unfolding late_row
late_asks calls o asked r reached all can = late_by_asks calls o asked r (reached_at (contacts_of r.headers)) reached all can

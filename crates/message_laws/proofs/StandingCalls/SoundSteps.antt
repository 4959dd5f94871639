-- The steps of calls: the dialogs afterwards are sound, and the requests that they begin say them.
use Rattle.std.proofs.Common.{◌≡◌, ℕ, ◌+◌, ◌<◌, ◌^◌, true, false, List, [], ◌∷◌, Option, Some, None, Ok, is_some, position, refl, arith}
use Rattle.std.specs.Prelude.{slice_get}
use Rattle.std.specs.List.{All}
use Rattle.std.proofs.lemmas.Bool.{and_parts}
use Rattle.std.proofs.lemmas.List.Quantifiers.{position-Some}
use Rattle.sip_uri.specs.declared.uri.Addr.{Addr}
use Rattle.sip_uri.specs.declared.uri.Uri.{Uri}
use Rattle.sip_message.specs.Contact.{contacts_of}
use Rattle.sip_message.specs.Read.{message_of}
use Rattle.sip_message.specs.declared.message.Message.TheVariants as Kinds
use Rattle.sip_message.specs.declared.message.Parts.{Parts}
use Rattle.sip_message.specs.declared.message.Request.{Request}
use Rattle.sip_message.specs.declared.message.Response.{Response}
use Rattle.sdp.specs.declared.description.Description.{Description}
use Rattle.dialogs.specs.Making.{callees_dialog, callers_dialog, reached_at}
use Rattle.dialogs.specs.Sound.{IsSound}
use Rattle.dialogs.specs.declared.state.Dialog.{Dialog}
use Rattle.transaction_machines.specs.Machines.{is_server}
use Rattle.transactions.specs.Contents as transactions
use Rattle.transactions.specs.Slots.{at, is_waiting_invite}
use Rattle.transactions.specs.declared.transaction.Transaction.{Transaction}
use Rattle.call_media.specs.declared.end.End.{End}
use Rattle.call_media.specs.declared.end.End.TheVariants.{Callee, Caller}
use Rattle.call_media.specs.Ends.{other}
use Rattle.call_core.specs.CallRows.{call_row, first_call_row}
use Rattle.call_core.specs.Calls.{dialog_of}
use Rattle.call_core.specs.Plans.{Step}
use Rattle.call_core.specs.declared.action.Action.{Action}
use Rattle.call_core.specs.declared.action.Action.TheVariants.{Ack, Bye}
use Rattle.call_core.specs.declared.input.Input.{Input}
use Rattle.calls.specs.Carrying.{offerer_of, with_step}
use Rattle.calls.specs.Changes.{beside}
use Rattle.calls.specs.State.{Standing}
use Rattle.calls.specs.declared.change.LegDialog.{LegDialog}
use Rattle.calls.specs.declared.standing_call.StandingCall.{StandingCall}
use Rattle.call_rules.specs.Reach.{contact_address}
use Rattle.call_messages.specs.Messages.{new_leg}
use Rattle.call_steps.specs.Effects as steps
use Rattle.call_steps.specs.Effects.{no_effect}
use Rattle.call_steps.specs.Messages.{messages}
use Rattle.call_steps.specs.Rows.{answers_leg, begins_by, counts, dialog_after, does, first_asker, first_leg, first_row, first_standing, fork_by, fork_row, forked, late_by, late_row, later_dialog, leg_by, messages_of, offer_coming, offers_by, offers_row, put_with, refreshes, takes_by, takes_row}
use Rattle.call_steps.specs.Scenes.{at_id, dialog_in, first_scene, fork_scene, fresh, passed_id, scene}
use Rattle.call_steps.specs.Values.{AskerValue, ComingValue, without_offer}
use Rattle.call_steps.specs.declared.occasion.Occasion.{Occasion}
use Rattle.message_laws.specs.Addresses.{HasOctets}
use Rattle.message_laws.specs.Sound.{HasSoundLegs, IsSoundLeg, IsSoundLegIf, IsTarget, IsTargetIf, SaysDialog}
use Rattle.message_laws.proofs.AwaitedOffers.Awaiting.{all_at, put_or_gone}
use Rattle.message_laws.proofs.StandingCalls.Reading.{Reading, callees_leg, callers_sound}
use Rattle.message_laws.proofs.StandingCalls.SoundCalls.{IsSoundPut, IsSoundTaken, KeepsSound, beside_sound, call_sound, coming_sound, counts_sound, dialog_sound, first_call_sound, leg_at_sound, pushed_sound, refreshed_sound, step_legs}
use Rattle.message_laws.proofs.StandingCalls.SoundDressings.{AllSay, SaysEnds, SaysEndsIf, SaysIfInvite, said_says, sound_ends}
use Rattle.message_laws.proofs.TokenUse.TaggedSteps.{awaits_client}
use Rattle.message_laws.proofs.StandingCalls.Texts.{leg_call_id_is, leg_call_id_value}
use Rattle.message_laws.proofs.TokenUse.TokenRuns.{token_run}

-- what a step results in
pub record SoundStep (x : steps.Effect) : Type 0 where
  pub began : AllSay x.dressed.changes
  pub calls : All HasSoundLegs x.outcome.standing.calls

-- each request of the server's own says a dialog
abbrev pub AreSaid : List (Option Transaction) → Type 0
AreSaid slots = (id : ℕ) (t : Transaction) → at slots id ≡ Some t → is_server t.state ≡ false → SaysDialog t.parts

nothing_sound : (calls : Standing) → All HasSoundLegs calls.calls → SoundStep (no_effect calls)
nothing_sound calls all = record { began = λ t opens. absurd opens; calls = all }

-- ---- the INVITE that was passed on

waiting_says : (slots : List (Option Transaction)) (tag : List ℕ) (id : ℕ) (t : Option Transaction) → AreSaid slots → at slots id ≡ t → is_waiting_invite tag t ≡ true → SaysIfInvite t
unfolding is_waiting_invite
waiting_says slots tag id None said there waits = tt
waiting_says slots tag id (Some t) said there waits = said id t there (awaits_client t.state (and_parts _ _ waits).0)

passed_says : (slots : List (Option Transaction)) (tag : List ℕ) (id : Option ℕ) → AreSaid slots → position (is_waiting_invite tag) slots ≡ id → SaysIfInvite (at_id slots id)
passed_says slots tag None said there = tt
passed_says slots tag (Some id) said there = waiting_says slots tag id (at slots id) said refl (position-Some (is_waiting_invite tag) slots id None there).1

-- ---- a live call

ends_if : (d : Option Dialog) → IsSoundLegIf d → SaysEndsIf d
ends_if None h = tt
ends_if (Some d) h = sound_ends d h

does_sound : (calls : Standing) (table : transactions.Contents) (o : Occasion) (place : ℕ) (w : ComingValue) (c : StandingCall) (step : Step) → AreSaid table.slots → All HasSoundLegs calls.calls → HasSoundLegs c
    → IsSoundPut w.leg → IsSoundTaken w.taken → KeepsSound c.call step.call → SoundStep (does calls table o place w c step)
does_sound calls table o place w c step said all h leg taken keeps =
    let put = put_with w (messages_of table o w c step) in
    record {
      began = said_says (scene table o w c step.description) (passed_id table c) step.actions (
          record {
            caller = ends_if (dialog_in Caller w.leg c.call) (coming_sound c Caller w.leg leg h);
            callee = ends_if (dialog_in Callee w.leg c.call) (coming_sound c Callee w.leg leg h);
            passed = passed_says table.slots _ (passed_id table c) said refl;
          }
          );
      calls = put_or_gone HasSoundLegs calls.calls place (beside put (with_step c step)) (is_some step.call.standing)
          (λ stands. beside_sound (with_step c step) put leg taken (step_legs c step.call keeps h)) all;
    }

takes_by_sound : (calls : Standing) (table : transactions.Contents) (o : Occasion) (place : ℕ) (input : Input) (leg : Option LegDialog) (request : Option AskerValue) (c : Option StandingCall) → AreSaid table.slots
    → All HasSoundLegs calls.calls → slice_get calls.calls place ≡ c → IsSoundPut leg → SoundStep (takes_by calls table o place input leg request c)
takes_by_sound calls table o place input leg request None said all there sound = nothing_sound calls all
takes_by_sound calls table o place input leg request (Some c) said all there sound =
    does_sound calls table o place (without_offer leg request) c (call_row c.call input calls.pool o.now) said all (all_at HasSoundLegs calls.calls place c all there) sound tt
    (call_sound c.call input calls.pool o.now)

pub takes_sound : (calls : Standing) (table : transactions.Contents) (o : Occasion) (place : ℕ) (input : Input) (leg : Option LegDialog) (request : Option AskerValue) → AreSaid table.slots → All HasSoundLegs calls.calls
    → IsSoundPut leg → SoundStep (takes_row calls table o place input leg request)
unfolding takes_row
takes_sound calls table o place input leg request said all sound = takes_by_sound calls table o place input leg request (slice_get calls.calls place) said all refl sound

-- ---- an UPDATE without an offer, and an offer inside a call

pub refreshes_sound : (calls : List StandingCall) (place : ℕ) (end : End) (r : Request) → IsTargetIf (reached_at (contacts_of r.headers)) → All HasSoundLegs calls → IsSoundPut (refreshes calls place end r)
unfolding refreshes
refreshes_sound calls place end r is all =
    leg_at_sound (reached_at (contacts_of r.headers)) (counts calls place end r.parts.cseq.number) is (counts_sound calls place end r.parts.cseq.number all)

offers_by_sound : (calls : Standing) (table : transactions.Contents) (o : Occasion) (place : ℕ) (input : Input) (end : End) (r : Request) (id : ℕ) (source : Addr) (leg : Option LegDialog) (c : Option StandingCall)
    → AreSaid table.slots → All HasSoundLegs calls.calls → slice_get calls.calls place ≡ c → IsTargetIf (reached_at (contacts_of r.headers)) → IsSoundPut leg
    → SoundStep (offers_by calls table o place input end r id source leg c)
offers_by_sound calls table o place input end r id source leg None said all there is sound = nothing_sound calls all
offers_by_sound calls table o place input end r id source leg (Some c) said all there is sound =
    does_sound calls table o place (offer_coming leg end r id source c) c (call_row c.call input calls.pool o.now) said all (all_at HasSoundLegs calls.calls place c all there) sound is
    (call_sound c.call input calls.pool o.now)

pub offers_sound : (calls : Standing) (table : transactions.Contents) (o : Occasion) (place : ℕ) (input : Input) (end : End) (r : Request) (id : ℕ) (source : Addr) → AreSaid table.slots → All HasSoundLegs calls.calls
    → IsTargetIf (reached_at (contacts_of r.headers)) → SoundStep (offers_row calls table o place input end r id source)
unfolding offers_row
offers_sound calls table o place input end r id source said all is =
    offers_by_sound calls table o place input end r id source (counts calls.calls place end r.parts.cseq.number) (slice_get calls.calls place) said all refl is
    (counts_sound calls.calls place end r.parts.cseq.number all)

-- ---- a call that begins

-- the new leg has the names of the caller's INVITE, and a Call-ID and a tag that are made
pub first_ends : (o : Occasion) (r : Request) (contact target : Uri) → HasOctets o.server.ip → o.tokens < 2 ^ 63 → IsSound (callees_dialog r (fresh o 1) contact) → SaysEnds (first_leg o r target)
unfolding new_leg
first_ends o r contact target octets few sound = record {
  call_id = leg_call_id_is o.server o.salt (o.tokens + 2) octets (omega (arith, few));
  call_id_value = leg_call_id_value o.server o.salt (o.tokens + 2) octets (omega (arith, few));
  our_tag = token_run o.salt (o.tokens + 3) (omega (arith, few));
  ours = sound.theirs;
  theirs = sound.ours;
}

begins_by_sound : Reading → (calls : Standing) (o : Occasion) (text : List ℕ) (r : Request) (id : ℕ) (source : Addr) (target : Uri) (offer : Description) (contact : Option Uri) → message_of text ≡ Ok (Kinds.Request r)
    → is_some (contact_address (contacts_of r.headers)) ≡ true → reached_at (contacts_of r.headers) ≡ contact → HasOctets o.server.ip → o.tokens < 2 ^ 63 → All HasSoundLegs calls.calls
    → SoundStep (begins_by calls o r id source target offer contact)
begins_by_sound reading calls o text r id source target offer None read reached at_contact octets few all = nothing_sound calls all
begins_by_sound reading calls o text r id source target offer (Some contact) read reached at_contact octets few all =
    let c = first_standing (calls.begun + 1) o r id source contact in
    let step = first_call_row c.call offer calls.pool o.now in
    let leg = callees_leg reading text r (fresh o 1) contact read (token_run o.salt (o.tokens + 1) (omega (arith, few))) reached at_contact in
    record {
      began = said_says (first_scene o (first_asker o r id source) r.max_forwards (first_leg o r target) step.description) None step.actions (
          record { caller = tt; callee = first_ends o r contact target octets few leg.sound; passed = tt }
          );
      calls = pushed_sound (with_step c step) calls.calls (is_some step.call.standing)
          (step_legs c step.call (first_call_sound c.call offer calls.pool o.now) (record { caller = leg; callee = tt; target = tt })) all;
    }

pub first_sound : Reading → (calls : Standing) (o : Occasion) (text : List ℕ) (r : Request) (id : ℕ) (source : Addr) (target : Uri) (offer : Description) → message_of text ≡ Ok (Kinds.Request r)
    → is_some (contact_address (contacts_of r.headers)) ≡ true → HasOctets o.server.ip → o.tokens < 2 ^ 63 → All HasSoundLegs calls.calls → SoundStep (first_row calls o r id source target offer)
unfolding first_row
first_sound reading calls o text r id source target offer read reached octets few all =
    begins_by_sound reading calls o text r id source target offer (reached_at (contacts_of r.headers)) read reached refl octets few all

-- ---- a 2xx that no call takes

alone_sound : (calls : Standing) (o : Occasion) (leg : Dialog) (actions : List Action) → SaysEnds leg → All HasSoundLegs calls.calls → SoundStep (forked calls (messages (fork_scene o leg) None actions))
alone_sound calls o leg actions says all = record { began = said_says (fork_scene o leg) None actions (record { caller = tt; callee = says; passed = tt }); calls = all }

fork_by_sound : (calls : Standing) (o : Occasion) (asked : Parts) (r : Response) (contact : Option Uri) → SaysDialog asked → All HasSoundLegs calls.calls → SoundStep (fork_by calls o asked r contact)
fork_by_sound calls o asked r None says all = nothing_sound calls all
fork_by_sound calls o asked r (Some target) says all =
    alone_sound calls o (callers_dialog asked r target) (Ack Callee ∷ Bye Callee ∷ [])
    (record { call_id = says.call_id; call_id_value = says.call_id_value; our_tag = says.tag; ours = says.from; theirs = says.to }) all

pub fork_sound : (calls : Standing) (o : Occasion) (asked : Parts) (r : Response) → SaysDialog asked → All HasSoundLegs calls.calls → SoundStep (fork_row calls o asked r)
unfolding fork_row
fork_sound calls o asked r says all = fork_by_sound calls o asked r (reached_at (contacts_of r.headers)) says all

late_by_sound : (calls : Standing) (o : Occasion) (asked : Parts) (r : Response) (contact : Option Uri) → SaysDialog asked → All HasSoundLegs calls.calls → SoundStep (late_by calls o asked r contact)
late_by_sound calls o asked r None says all = nothing_sound calls all
late_by_sound calls o asked r (Some target) says all =
    alone_sound calls o (later_dialog asked r target) (Ack Callee ∷ []) (record { call_id = says.call_id; call_id_value = says.call_id_value; our_tag = says.tag; ours = says.from; theirs = says.to }) all

pub late_sound : (calls : Standing) (o : Occasion) (asked : Parts) (r : Response) → SaysDialog asked → All HasSoundLegs calls.calls → SoundStep (late_row calls o asked r)
unfolding late_row
late_sound calls o asked r says all = late_by_sound calls o asked r (reached_at (contacts_of r.headers)) says all

-- ---- the dialog of a 2xx that a call takes

made_sound : Reading → (text : List ℕ) (asked : Parts) (r : Response) (target : Uri) (d : Option Dialog) → message_of text ≡ Ok (Kinds.Response r) → SaysDialog asked → IsTarget target → IsSoundLegIf d
    → IsSoundLeg (dialog_after asked r target d)
made_sound reading text asked r target None read says is h = record { sound = callers_sound reading text asked r target read says is.read; leads = is.leads }
made_sound reading text asked r target (Some d) read says is h = refreshed_sound d target is h

leg_by_sound : Reading → (text : List ℕ) (asked : Parts) (r : Response) (target : Option Uri) (calls : List StandingCall) (place : ℕ) (c : Option StandingCall) → message_of text ≡ Ok (Kinds.Response r) → SaysDialog asked
    → IsTargetIf target → slice_get calls place ≡ c → All HasSoundLegs calls → IsSoundPut (leg_by asked r target c)
leg_by_sound reading text asked r None calls place c read says is there all = tt
leg_by_sound reading text asked r (Some target) calls place None read says is there all = tt
leg_by_sound reading text asked r (Some target) calls place (Some c) read says is there all =
    let end = other (offerer_of c.call.standing) in
    made_sound reading text asked r target (dialog_of end c.call) read says is (dialog_sound c end (all_at HasSoundLegs calls place c all there))

pub answers_sound : Reading → (text : List ℕ) (asked : Parts) (r : Response) (calls : List StandingCall) (place : ℕ) → message_of text ≡ Ok (Kinds.Response r) → SaysDialog asked
    → IsTargetIf (reached_at (contacts_of r.headers)) → All HasSoundLegs calls → IsSoundPut (answers_leg calls place asked r)
unfolding answers_leg
answers_sound reading text asked r calls place read says is all = leg_by_sound reading text asked r (reached_at (contacts_of r.headers)) calls place (slice_get calls place) read says is refl all

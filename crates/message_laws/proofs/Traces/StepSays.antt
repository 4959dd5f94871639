-- What each step of a call says.
use Rattle.std.proofs.Common.{◌≡◌, ◌∙◌, ℕ, ◌+◌, ◌≤◌, Bool, true, false, cond, List, [], ◌∷◌, codes, Option, Some, None, Ok, refl, sym, ap, subst, arith}
use Rattle.std.specs.Prelude.{IsTrue, slice_get}
use Rattle.std.specs.List.{All, list_all}
use Rattle.std.specs.Char.{is_ascii_digit}
use Rattle.std.proofs.lemmas.Option.{none-some}
use Rattle.events.specs.declared.sent.Sent.{Sent}
use Rattle.text.specs.Class.{is_run_of, is_token_byte}
use Rattle.text.specs.Number.{number_upto}
use Rattle.text.proofs.Numbers.{number_is}
use Rattle.sip_uri.specs.declared.uri.Addr.{Addr}
use Rattle.sip_uri.specs.declared.uri.NameAddr.{NameAddr}
use Rattle.sip_uri.specs.declared.uri.Uri.{Uri}
use Rattle.sip_message.specs.Contact.{contacts_of}
use Rattle.sip_message.specs.Grammar.{ReadsMessage, SaysHops}
use Rattle.sip_message.specs.Lookup.{values_named}
use Rattle.sip_message.specs.Read.{message_of}
use Rattle.sip_message.specs.Words.{tag_text}
use Rattle.sip_message.specs.declared.message.Message.TheVariants as Kinds
use Rattle.sip_message.specs.declared.message.Request.{Request}
use Rattle.sip_message.specs.declared.message.Response.{Response}
use Rattle.sip_writing.specs.Requests.{IsEnd}
use Rattle.sdp.specs.declared.description.Description.{Description}
use Rattle.dialogs.specs.Making.{callers_dialog, reached_at}
use Rattle.dialogs.specs.Sound.{IsReadUri}
use Rattle.dialogs.specs.declared.state.Dialog.{Dialog}
use Rattle.transactions.specs.Contents as transactions
use Rattle.transactions.specs.declared.transaction.Transaction.{Transaction}
use Rattle.call_media.specs.declared.end.End.{End}
use Rattle.call_media.specs.declared.end.End.TheVariants.{Callee, Caller}
use Rattle.call_core.specs.CallRows.{call_row, first_call_row}
use Rattle.call_core.specs.Plans.{Step}
use Rattle.call_core.specs.declared.action.Action.{Action}
use Rattle.call_core.specs.declared.action.Action.TheVariants.{Ack, Bye}
use Rattle.call_core.specs.declared.input.Input.{Input}
use Rattle.calls.specs.State.{Standing}
use Rattle.calls.specs.declared.change.LegDialog.{LegDialog}
use Rattle.calls.specs.declared.standing_call.StandingCall.{StandingCall}
use Rattle.call_messages.specs.Messages.{new_leg}
use Rattle.call_steps.specs.Effects as steps
use Rattle.call_steps.specs.Messages.{messages}
use Rattle.call_steps.specs.Rows.{begins_by, counts, does, first_asker, first_leg, first_row, first_standing, fork_by, fork_row, forked, late_by, late_row, later_dialog, offer_coming, offers_by, offers_row, takes_by, takes_row}
use Rattle.call_steps.specs.Scenes.{first_scene, fork_scene, passed_id, scene}
use Rattle.call_steps.specs.Values.{AskerValue, ComingValue, without_offer}
use Rattle.call_steps.specs.declared.occasion.Occasion.{Occasion}
use Rattle.message_laws.specs.Addresses.{IsReached, IsServerAddress}
use Rattle.message_laws.specs.Bodies.{IsOfReadIf, KnowsStanding, WasRead, WasReadIn}
use Rattle.message_laws.specs.Sending.{CallWasSent}
use Rattle.message_laws.specs.Sound.{HasSoundLegs, IsSoundLeg, SaysDialog}
use Rattle.message_laws.proofs.AwaitedOffers.Awaiting.{all_at}
use Rattle.message_laws.proofs.Messages.BodyCalls.{call_known, first_known}
use Rattle.message_laws.proofs.Messages.BodySteps.{call_at}
use Rattle.message_laws.proofs.QuietEvents.Dressings.{tag_said}
use Rattle.message_laws.proofs.StandingCalls.Reading.{Reading, callers_sound}
use Rattle.message_laws.proofs.Askers.Speaking.{IsShortIf}
use Rattle.message_laws.proofs.Messages.WrittenLengths.{written_short}
use Rattle.message_laws.specs.SoundClients.{HasLowNumbers}
use Rattle.message_laws.specs.SoundScenes.{IsSoundRequest}
use Rattle.message_laws.proofs.Traces.ReadActions.{IsLeg, lent_writable, step_says}
use Rattle.message_laws.proofs.Traces.Legs.{AreRead, IsPut, coming_leg, passed_read}
use Rattle.message_laws.proofs.Traces.Saying.{Says, silent}

-- ---- what is known where a step is taken

pub record IsGround (before : List Sent) (calls : Standing) (table : transactions.Contents) (o : Occasion) : Type 0 where
  pub server : IsReached o.server
  pub read : AreRead table.slots
  pub sound : All HasSoundLegs calls.calls
  pub low : All HasLowNumbers calls.calls
  pub again : All (CallWasSent before) calls.calls
  pub address : IsServerAddress o.range.ip
  pub media : KnowsStanding o.range.ip calls

-- this many tokens are made when it is taken
abbrev pub SaysStep : List Sent → Occasion → steps.Effect → Type 0
SaysStep before o x = Says before (o.tokens + x.dressed.made) x.dressed

-- ---- descriptions, and hops

short_of : (ip : List ℕ) (description : Option Description) → IsOfReadIf ip description → IsShortIf description
short_of ip None h = tt
short_of ip (Some d) h = written_short ip d h

hops_by : (values : List (List ℕ)) (hops : ℕ) → SaysHops values hops → hops ≤ 255
hops_by [] hops h = omega (arith, h)
hops_by (text ∷ []) hops h = one (is_run_of is_ascii_digit text) h
  where
    one : (b : Bool) → cond b (number_upto 255 text) None ≡ Some hops → hops ≤ 255
    one true e = number_is 255 hops text e
    one false e = absurd (none-some hops e)
hops_by (one ∷ two ∷ more) hops h = absurd h

pub hops_low : (text : List ℕ) (r : Request) → ReadsMessage text (Kinds.Request r) → r.max_forwards ≤ 255
hops_low text r reads = hops_by (values_named (codes "Max-Forwards") reads.fields) r.max_forwards reads.says.says_hops

-- ---- a live call

does_says : (before : List Sent) (calls : Standing) (table : transactions.Contents) (o : Occasion) (place : ℕ) (w : ComingValue) (c : StandingCall) (step : Step) → IsGround before calls table o → slice_get calls.calls place ≡ Some c
    → IsPut w.leg → w.hops ≤ 255 → IsShortIf step.description → SaysStep before o (does calls table o place w c step)
does_says before calls table o place w c step k there put hops short =
    let sound = all_at HasSoundLegs calls.calls place c k.sound there in
    let low = all_at HasLowNumbers calls.calls place c k.low there in
    step_says before _ (scene table o w c step.description) (passed_id table c) step.actions
    (lent_writable before (scene table o w c step.description) (
    record {
      server = k.server;
      caller = coming_leg c Caller w.leg put sound low;
      callee = coming_leg c Callee w.leg put sound low;
      passed = passed_read table.slots _ (passed_id table c) k.read refl;
      again = all_at (CallWasSent before) calls.calls place c k.again there;
      hops = hops;
      short = short;
    }
    )) (omega arith)

call_short : (before : List Sent) (calls : Standing) (table : transactions.Contents) (o : Occasion) (place : ℕ) (c : StandingCall) (input : Input) → IsGround before calls table o → slice_get calls.calls place ≡ Some c → WasReadIn input
    → IsShortIf (call_row c.call input calls.pool o.now).description
call_short before calls table o place c input k there read =
    short_of o.range.ip (call_row c.call input calls.pool o.now).description
    (call_known o.range.ip k.address c.call (call_at o.range.ip calls.calls place c k.media.calls there) calls.pool k.media.pairs o.now input read).sent

takes_by_says : (before : List Sent) (calls : Standing) (table : transactions.Contents) (o : Occasion) (place : ℕ) (input : Input) (leg : Option LegDialog) (request : Option AskerValue) (c : Option StandingCall) → IsGround before calls table o
    → slice_get calls.calls place ≡ c → IsPut leg → WasReadIn input → SaysStep before o (takes_by calls table o place input leg request c)
takes_by_says before calls table o place input leg request None k there put read = silent
takes_by_says before calls table o place input leg request (Some c) k there put read =
    does_says before calls table o place (without_offer leg request) c (call_row c.call input calls.pool o.now) k there put (omega arith) (call_short before calls table o place c input k there read)

pub takes_says : (before : List Sent) (calls : Standing) (table : transactions.Contents) (o : Occasion) (place : ℕ) (input : Input) (leg : Option LegDialog) (request : Option AskerValue) → IsGround before calls table o → IsPut leg
    → WasReadIn input → SaysStep before o (takes_row calls table o place input leg request)
unfolding takes_row
takes_says before calls table o place input leg request k put read = takes_by_says before calls table o place input leg request (slice_get calls.calls place) k refl put read

-- ---- an offer inside a call

offers_by_says : (before : List Sent) (calls : Standing) (table : transactions.Contents) (o : Occasion) (place : ℕ) (input : Input) (end : End) (r : Request) (id : ℕ) (source : Addr) (leg : Option LegDialog) (c : Option StandingCall)
    → IsGround before calls table o → slice_get calls.calls place ≡ c → IsPut leg → r.max_forwards ≤ 255 → WasReadIn input → SaysStep before o (offers_by calls table o place input end r id source leg c)
offers_by_says before calls table o place input end r id source leg None k there put hops read = silent
offers_by_says before calls table o place input end r id source leg (Some c) k there put hops read =
    does_says before calls table o place (offer_coming leg end r id source c) c (call_row c.call input calls.pool o.now) k there put hops (call_short before calls table o place c input k there read)

pub offers_says : (before : List Sent) (calls : Standing) (table : transactions.Contents) (o : Occasion) (place : ℕ) (input : Input) (end : End) (r : Request) (id : ℕ) (source : Addr) → IsGround before calls table o
    → IsPut (counts calls.calls place end r.parts.cseq.number) → r.max_forwards ≤ 255 → WasReadIn input → SaysStep before o (offers_row calls table o place input end r id source)
unfolding offers_row
offers_says before calls table o place input end r id source k put hops read =
    offers_by_says before calls table o place input end r id source (counts calls.calls place end r.parts.cseq.number) (slice_get calls.calls place) k refl put hops read

-- ---- a call that begins

new_low : (o : Occasion) (r : Request) (target : Uri) → IsSoundLeg (first_leg o r target) → IsLeg (first_leg o r target)
unfolding new_leg
new_low o r target leg = record { sound = leg.sound; low = omega arith }

begins_by_says : (before : List Sent) (calls : Standing) (table : transactions.Contents) (o : Occasion) (r : Request) (id : ℕ) (source : Addr) (target : Uri) (offer : Description) (contact : Option Uri) → IsGround before calls table o
    → ((x : Uri) → contact ≡ Some x → IsSoundLeg (first_leg o r target)) → r.max_forwards ≤ 255 → WasRead offer → SaysStep before o (begins_by calls o r id source target offer contact)
begins_by_says before calls table o r id source target offer None k leg hops read = silent
begins_by_says before calls table o r id source target offer (Some contact) k leg hops read =
    let c = first_standing (calls.begun + 1) o r id source contact in
    let step = first_call_row c.call offer calls.pool o.now in
    let s = first_scene o (first_asker o r id source) r.max_forwards (first_leg o r target) step.description in
    let said = step_says before (o.tokens + (3 + (messages s None step.actions).dressed.made)) s None step.actions
    (lent_writable before s (
    record {
      server = k.server;
      caller = tt;
      callee = new_low o r target (leg contact refl);
      passed = tt;
      again = tt;
      hops = hops;
      short = short_of o.range.ip step.description (first_known o.range.ip k.address c.call (record { address = refl; offer = tt; session = tt }) calls.pool k.media.pairs o.now offer read).sent;
    }
    )) (omega arith) in
    record { sends = said.sends; begun = said.begun; keeps = said.keeps; calm = said.calm }

pub first_says : (before : List Sent) (calls : Standing) (table : transactions.Contents) (o : Occasion) (r : Request) (id : ℕ) (source : Addr) (target : Uri) (offer : Description) → IsGround before calls table o
    → ((x : Uri) → reached_at (contacts_of r.headers) ≡ Some x → IsSoundLeg (first_leg o r target)) → r.max_forwards ≤ 255 → WasRead offer → SaysStep before o (first_row calls o r id source target offer)
unfolding first_row
first_says before calls table o r id source target offer k leg hops read = begins_by_says before calls table o r id source target offer (reached_at (contacts_of r.headers)) k leg hops read

-- ---- a 2xx that no call takes

alone_says : (before : List Sent) (calls : Standing) (o : Occasion) (leg : Dialog) (actions : List Action) → IsReached o.server → IsLeg leg
    → SaysStep before o (forked calls (messages (fork_scene o leg) None actions))
alone_says before calls o leg actions server is =
    step_says before _ (fork_scene o leg) None actions (lent_writable before (fork_scene o leg) (record { server = server; caller = tt; callee = is; passed = tt; again = tt; hops = omega arith; short = tt })) (omega arith)

fork_leg : Reading → (text : List ℕ) (t : Transaction) (r : Response) (target : Uri) → message_of text ≡ Ok (Kinds.Response r) → SaysDialog t.parts → IsSoundRequest t.uri t.parts → IsReadUri target → IsLeg (callers_dialog t.parts r target)
fork_leg reading text t r target read says values is = record { sound = callers_sound reading text t.parts r target read says is; low = values.values.number }

fork_by_says : Reading → (before : List Sent) (calls : Standing) (o : Occasion) (text : List ℕ) (t : Transaction) (r : Response) (contact : Option Uri) → reached_at (contacts_of r.headers) ≡ contact → message_of text ≡ Ok (Kinds.Response r)
    → IsReached o.server → SaysDialog t.parts → IsSoundRequest t.uri t.parts → SaysStep before o (fork_by calls o t.parts r contact)
fork_by_says reading before calls o text t r None at_contact read server says values = silent
fork_by_says reading before calls o text t r (Some target) at_contact read server says values =
    alone_says before calls o (callers_dialog t.parts r target) (Ack Callee ∷ Bye Callee ∷ []) server (fork_leg reading text t r target read says values (reading.contact r.headers target at_contact))

pub fork_says : Reading → (before : List Sent) (calls : Standing) (o : Occasion) (text : List ℕ) (t : Transaction) (r : Response) → message_of text ≡ Ok (Kinds.Response r) → IsReached o.server → SaysDialog t.parts → IsSoundRequest t.uri t.parts
    → SaysStep before o (fork_row calls o t.parts r)
unfolding fork_row
fork_says reading before calls o text t r read server says values = fork_by_says reading before calls o text t r (reached_at (contacts_of r.headers)) refl read server says values

-- the tag of an end that was written
end_tag : (name : NameAddr) → IsEnd name → IsTrue (list_all is_token_byte (tag_text name.params))
end_tag name h = subst (λ (tag : List ℕ). list_all is_token_byte tag ≡ true) (sym (tag_said h.tag) ∙ ap tag_text (sym h.tagged)) h.token

late_leg : Reading → (text : List ℕ) (t : Transaction) (r : Response) (target : Uri) → message_of text ≡ Ok (Kinds.Response r) → SaysDialog t.parts → IsSoundRequest t.uri t.parts → IsReadUri target → IsLeg (later_dialog t.parts r target)
late_leg reading text t r target read says values is =
    let sound = (fork_leg reading text t r target read says values is).sound in
    record {
      sound = record { call_id = sound.call_id; call_id_value = sound.call_id_value; our_tag = sound.our_tag; their_tag = end_tag t.parts.to values.to; ours = sound.ours; theirs = sound.theirs; target = sound.target };
      low = values.values.number;
    }

late_by_says : Reading → (before : List Sent) (calls : Standing) (o : Occasion) (text : List ℕ) (t : Transaction) (r : Response) (contact : Option Uri) → reached_at (contacts_of r.headers) ≡ contact → message_of text ≡ Ok (Kinds.Response r)
    → IsReached o.server → SaysDialog t.parts → IsSoundRequest t.uri t.parts → SaysStep before o (late_by calls o t.parts r contact)
late_by_says reading before calls o text t r None at_contact read server says values = silent
late_by_says reading before calls o text t r (Some target) at_contact read server says values =
    alone_says before calls o (later_dialog t.parts r target) (Ack Callee ∷ []) server (late_leg reading text t r target read says values (reading.contact r.headers target at_contact))

pub late_says : Reading → (before : List Sent) (calls : Standing) (o : Occasion) (text : List ℕ) (t : Transaction) (r : Response) → message_of text ≡ Ok (Kinds.Response r) → IsReached o.server → SaysDialog t.parts → IsSoundRequest t.uri t.parts
    → SaysStep before o (late_row calls o t.parts r)
unfolding late_row
late_says reading before calls o text t r read server says values = late_by_says reading before calls o text t r (reached_at (contacts_of r.headers)) refl read server says values

-- A first offer that is passed on, as the agent's row has it: the call that begins, what it says, and the transactions
-- that begin.
use Rattle.std.proofs.Common.{◌≡◌, ℕ, ◌+◌, Bool, true, false, cond, is_some, List, [], ◌∷◌, ◌++◌, codes, Option, Some, None, Ok, refl, sym, ap, subst}
use Rattle.std.specs.Prelude.{IsTrue, nat_eq, unwrap_or}
use Rattle.std.specs.List.{All}
use Rattle.std.specs.Cmp.Lexicographic.{pointwise}
use Rattle.std.proofs.lemmas.Bool.{false≢true}
use Rattle.std.proofs.lemmas.List.Elements.{All-head, All-nil}
use Rattle.events.specs.declared.sent.Sent.{Sent}
use Rattle.sip_uri.specs.declared.uri.Uri.{Uri}
use Rattle.sip_message.specs.Contact.{contacts_of, is_one_address}
use Rattle.sip_message.specs.Grammar.{ReadsMessage}
use Rattle.sip_message.specs.Read.{message_of}
use Rattle.sip_message.specs.Words.{tag_text}
use Rattle.sip_message.specs.declared.contact.ContactValue.{ContactValue}
use Rattle.sip_message.specs.declared.contact.ContactValue.TheVariants.{Address, Star, Unreadable}
use Rattle.sip_message.specs.declared.message.Message.TheVariants as Kinds
use Rattle.sip_message.specs.declared.message.Request.{Request}
use Rattle.sdp.specs.declared.description.Description.{Description}
use Rattle.dialogs.specs.Making.{is_invite, reached_at}
use Rattle.transaction_machines.specs.Machines.{is_server}
use Rattle.transactions.specs.declared.transaction.Transaction.{Transaction}
use Rattle.call_media.specs.declared.end.End.TheVariants.{Callee, Caller}
use Rattle.call_core.specs.CallRows.{first_call_row}
use Rattle.call_core.specs.Plans.{Step}
use Rattle.call_core.specs.declared.action.Action.TheVariants.{Offer, Trying}
use Rattle.call_core.specs.declared.signal.OfferMethod.TheVariants.{Invite}
use Rattle.call_core.specs.declared.stage.Stage.TheVariants as stages
use Rattle.calls.specs.Carrying.{with_step}
use Rattle.calls.specs.State.{Standing}
use Rattle.calls.specs.declared.standing_call.StandingCall.{StandingCall}
use Rattle.call_steps.specs.Effects as steps
use Rattle.call_steps.specs.Messages.{messages}
use Rattle.call_steps.specs.Rows.{begins_as, begins_by, first_asker, first_leg, first_messages, first_row, first_standing}
use Rattle.call_steps.specs.Scenes.{first_scene}
use Rattle.call_steps.specs.Values.{SceneValue, lent_scene}
use Rattle.call_steps.specs.declared.messages.StepMessages.{StepMessages}
use Rattle.call_steps.specs.declared.occasion.Occasion.{Occasion}
use Rattle.plans.specs.CallRows.{occasion}
use Rattle.plans.specs.Office.{Office}
use Rattle.plans.specs.declared.setting.Setting.{Setting}
use Rattle.call_trace.specs.declared.call.Call.{Call}
use Rattle.call_trace.specs.declared.datagram.Datagram.{Datagram}
use Rattle.call_trace.specs.declared.datagram.Message.{Message}
use Rattle.message_laws.specs.Addresses.{IsSource}
use Rattle.message_laws.specs.Bodies.{IsOfReadIf}
use Rattle.message_laws.specs.Numbers.{begun_of}
use Rattle.message_laws.specs.OpenRequests.{HasRequest, IsAmong, IsOpenRequest}
use Rattle.message_laws.proofs.TokenUse.Apartness.{HasNewTags}
use Rattle.message_laws.proofs.Messages.BodyCalls.{first_known}
use Rattle.message_laws.proofs.TokenUse.Calls.{first_ids}
use Rattle.message_laws.proofs.AwaitedOffers.Coming.{OpensIn}
use Rattle.message_laws.proofs.QuietEvents.Describing.{BodiesDescribe}
use Rattle.message_laws.proofs.TokenUse.Grounds.{read_repeats}
use Rattle.message_laws.proofs.StandingCalls.OpenRequests.{opens_among, opens_right}
use Rattle.message_laws.proofs.StandingCalls.OpenSteps.{first_open}
use Rattle.message_laws.proofs.Messages.ReadBack.{SentIsRead, reads_back}
use Rattle.message_laws.proofs.Messages.ReadBodies.{body_read}
use Rattle.message_laws.proofs.Messages.ReadParts.{method_is}
use Rattle.message_laws.proofs.StandingCalls.Reading.{Reading as ReadsNames}
use Rattle.message_laws.proofs.StandingCalls.SoundRows.{callee_target, known_leg}
use Rattle.message_laws.proofs.TokenUse.TaggedSteps.{new_tags}
use Rattle.message_laws.proofs.AwaitedOffers.WaitFirst.{first_stands}
use Rattle.message_laws.proofs.Messages.WrittenLengths.{written_short}
use Rattle.message_laws.specs.SoundScenes.{IsSoundScene}
use Rattle.message_laws.proofs.Messages.AnyToken.{any_token_run}
use Rattle.message_laws.proofs.StandingCalls.ClientSteps.{first_scene_asks}
use Rattle.message_laws.proofs.Messages.SaidActions.{action_said}
use Rattle.message_laws.proofs.Traces.Scenes.{hops_low}
use Rattle.message_laws.specs.Kinds.{AreBegun}
use Rattle.message_laws.specs.Messages.{AreMessages}
use Rattle.message_laws.proofs.Traces.Effects.{ground, is_ready, says_step}
use Rattle.message_laws.proofs.AwaitedOffers.OwnOpens.{step_own}
use Rattle.message_laws.proofs.Traces.Receptions.{message_begins_none, message_keeps, opens_of}
use Rattle.message_laws.proofs.Traces.SentKinds.{known}
use Rattle.message_laws.proofs.Traces.StepSays as saying
use Rattle.media_laws.specs.Heard.{HearsActions}
use Rattle.media_laws.proofs.Scenes.HeardActions.{hears_actions}
use Rattle.media_laws.proofs.Scenes.Reading.{Reading}
use Rattle.media_laws.specs.Ties.{AreTied}
use Rattle.media_laws.specs.Beginning.{entries_of}
use Rattle.media_laws.specs.Offering.{IsFirstOffer}

-- an INVITE that was read names one Contact (RFC 3261 section 8.1.1.8)
abbrev pub NamesOne : Type 0
NamesOne = (text : List ℕ) (r : Request) → ReadsMessage text (Kinds.Request r) → IsTrue (is_invite r.parts) → IsTrue (is_one_address (contacts_of r.headers))

one_reached : (values : List ContactValue) → is_one_address values ≡ true → (contact : Uri) × (reached_at values ≡ Some contact)
one_reached [] h = absurd (false≢true h)
one_reached (Star ∷ more) h = absurd (false≢true h)
one_reached (Unreadable ∷ more) h = absurd (false≢true h)
one_reached (Address name ∷ []) h = (name.uri, refl)
one_reached (Address name ∷ next ∷ more) h = absurd (false≢true h)

pub first_reached : NamesOne → ReadsNames → (bytes : List ℕ) (r : Request) (s : Office) (now : ℕ) (to : Uri) (offer : Description) → message_of bytes ≡ Ok (Kinds.Request r) → IsFirstOffer s now r to offer
    → (contact : Uri) × (reached_at (contacts_of r.headers) ≡ Some contact)
first_reached one names bytes r s now to offer read p =
    let invite : is_invite r.parts ≡ true = subst (λ (name : List ℕ). pointwise nat_eq name (codes "INVITE") ≡ true) (sym (method_is bytes r (codes "INVITE") read p.invite)) refl in
    one_reached (contacts_of r.headers) (one bytes r (names.message bytes (Kinds.Request r) read) invite)

only_pushed : (P : StandingCall → Type 0) (b : Bool) (d : StandingCall) → b ≡ true → All P (cond b ([] ++ d ∷ []) []) → P d
only_pushed P true d is each = All-head P d [] each
only_pushed P false d is each = absurd (false≢true is)

module _ (names : ReadsNames) (describes : BodiesDescribe) (law : SentIsRead) (s : Office) (begun : List Transaction) (sent : List Sent) (t : List Datagram) (calls : List Call) (tied : AreTied s begun sent t calls) (e : Setting) (from : IsSource e.source) (bytes : List ℕ) (r : Request) (id : ℕ) (read : message_of bytes ≡ Ok (Kinds.Request r)) (to contact : Uri) (offer : Description) (p : IsFirstOffer s e.now r to offer) (reached : reached_at (contacts_of r.headers) ≡ Some contact) where
  abbrev o : Occasion
  o = occasion s e

  abbrev pub first_before : StandingCall
  first_before = first_standing (s.calls.begun + 1) o r id e.source contact

  abbrev pub first_step : Step
  first_step = first_call_row first_before.call offer s.calls.pool e.now

  abbrev pub first_value : SceneValue
  first_value = first_scene o (first_asker o r id e.source) r.max_forwards (first_leg o r to) first_step.description

  abbrev pub first_said : StepMessages
  first_said = first_messages o r id e.source to first_step

  abbrev pub first_call : StandingCall
  first_call = with_step first_before first_step

  -- ---- what it says

  of_read : IsOfReadIf s.range.ip first_step.description
  of_read =
      (first_known s.range.ip tied.scenes.descriptions.address first_before.call (record { address = refl; offer = tt; session = tt }) s.calls.pool tied.scenes.descriptions.calls.pairs e.now offer (body_read describes bytes (Kinds.Request r) offer read p.described)).sent

  sound : (answers : Bool) → IsSoundScene (lent_scene first_value) answers
  unfolding first_call_row
  sound answers = record {
    asks = first_scene_asks o (first_asker o r id e.source) r.max_forwards r to first_step.description tied.scenes.clients.server (known_leg names s e bytes r contact to tied.scenes.dialogs tied.scenes.few read reached p.bound);
    hops = hops_low names bytes r read;
    offer = λ h. record { repeats = read_repeats bytes (Kinds.Request r) read; from = from; token = any_token_run e.salt (s.tokens + 1) };
    request = tt;
    reads = reads_back law s.range.ip _ tied.scenes.descriptions.address of_read;
    short = written_short s.range.ip _ of_read;
  }

  pub first_heard : Reading → (ms : List Message) → AreMessages first_said.dressed.sends ms → HearsActions (lent_scene first_value) (s.tokens + 3) (Trying Caller ∷ Offer Callee Invite ∷ []) ms
  unfolding messages first_call_row
  first_heard reads ms are =
      hears_actions reads (lent_scene first_value) (s.tokens + 3) (Trying Caller ∷ Offer Callee Invite ∷ []) ms
      ((λ count. action_said describes (lent_scene first_value) count (Trying Caller) (sound true) tt), ((λ count. action_said describes (lent_scene first_value) count (Offer Callee Invite) (sound false) tt), tt)) are

  -- ---- the row of the agent

  pub first_is : first_row s.calls o r id e.source to offer ≡ begins_as s.calls o r id e.source to offer first_before
  unfolding first_row
  first_is = ap (begins_by s.calls o r id e.source to offer) reached

  pub first_listed : is_some first_step.call.standing ≡ true
  first_listed = first_stands first_before.call offer s.calls.pool e.now

  untagged : tag_text r.parts.to.params ≡ []
  untagged = ap (λ tag. unwrap_or tag []) p.no_tag

  pub first_tags : HasNewTags s.tokens first_call
  first_tags = new_tags o r id (s.calls.begun + 1) e.source contact first_step.call (first_ids first_before.call offer s.calls.pool e.now) untagged tied.scenes.few

  -- ---- what begins

  pub first_begun : AreBegun (entries_of s e r ++ first_said.dressed.changes) first_said.dressed.sends
  first_begun =
      let ready = is_ready sent s (known sent s tied.tokens tied.again tied.scenes.askers tied.scenes.dialogs tied.scenes.descriptions tied.scenes.clients) tied.scenes.few in
      let says = saying.first_says sent s.calls s.table o r id e.source to offer (ground sent s ready e)
      (λ contact at_contact. known_leg names s e bytes r contact to tied.scenes.dialogs tied.scenes.few read at_contact p.bound) (saying.hops_low bytes r (names.message bytes (Kinds.Request r) read))
      (body_read describes bytes (Kinds.Request r) offer read p.described) in
      let whole = says_step sent s.tokens (entries_of s e r) None (first_row s.calls o r id e.source to offer) tt (message_begins_none s e (Kinds.Request r)) (message_keeps s e (Kinds.Request r)) says in
      subst (λ (y : steps.Effect). AreBegun (entries_of s e r ++ y.dressed.changes) y.dressed.sends) first_is whole.begun

  pub first_own : (u : Transaction) → IsAmong (begun_of first_said.dressed.changes) u → is_server u.state ≡ false
  first_own u among = step_own first_value None first_step.actions u (opens_of first_said.dressed.changes u among)

  -- one of them is its open offer
  abbrev alone : Standing
  alone = record { calls = []; pool = s.calls.pool; begun = s.calls.begun; timers = s.calls.timers }

  abbrev Opens : List Transaction → Option Uri → Type 0
  Opens more at = ((u : Transaction) → OpensIn u (begins_by alone o r id e.source to offer at).dressed.changes → IsAmong more u) → All (HasRequest more) (begins_by alone o r id e.source to offer at).outcome.standing.calls

  alone_opens : (more : List Transaction) → Opens more (reached_at (contacts_of r.headers))
  unfolding first_row
  alone_opens more among =
      (first_open alone o r id e.source to offer (callee_target s tied.scenes.dialogs r e.now to p.bound).leads).kept [] more (λ u none. absurd none) among (All-nil (HasRequest []))

  pub first_request : (more : List Transaction) → more ≡ begun_of (entries_of s e r ++ first_said.dressed.changes) → (u : Transaction) × IsAmong more u × IsOpenRequest first_call u
  unfolding first_call_row
  first_request more is =
      let among : (u : Transaction) → OpensIn u first_said.dressed.changes → IsAmong more u = λ u opens.
      subst (λ l. IsAmong l u) (sym is) (opens_among (entries_of s e r ++ first_said.dressed.changes) u (opens_right u (entries_of s e r) first_said.dressed.changes opens)) in
      only_pushed (HasRequest more) (is_some first_step.call.standing) first_call first_listed (subst (Opens more) reached (alone_opens more) among) (record { offerer = Caller; stage = stages.Asked false }) refl refl refl

-- The events that a call takes: each message that their steps send is to one of its ends.
use Rattle.std.proofs.Common.{◌≡◌, ◌∙◌, ℕ, List, [], ◌∷◌, Option, Some, None, refl, ap, sym, subst}
use Rattle.std.specs.Option.{option_copied}
use Rattle.std.specs.Prelude.{option_map, slice_get}
use Rattle.std.proofs.lemmas.Option.{none-some, same_Some}
use Rattle.sip_uri.specs.declared.uri.Addr.{Addr}
use Rattle.sip_message.specs.declared.message.Message.TheVariants as Kinds
use Rattle.sip_message.specs.declared.message.Request.{Request}
use Rattle.transactions.specs.Changes.{change_of}
use Rattle.transactions.specs.Slots.{at}
use Rattle.transactions.specs.declared.change.Entry.{Entry}
use Rattle.transactions.specs.declared.outcome.Outgoing.{Outgoing}
use Rattle.transactions.specs.declared.transaction.Transaction.{Transaction}
use Rattle.events.specs.declared.event.Event.{Event}
use Rattle.events.specs.declared.sent.Sent.{Sent}
use Rattle.call_media.specs.declared.end.End.{End}
use Rattle.call_core.specs.CallRows.{call_row}
use Rattle.call_core.specs.Plans.{Step}
use Rattle.call_core.specs.declared.input.Input.{Input}
use Rattle.call_core.specs.declared.input.Input.TheVariants as inputs
use Rattle.call_core.specs.declared.stage.Standing.{Standing}
use Rattle.call_messages.specs.declared.scene.Asker.{Asker}
use Rattle.call_messages.specs.declared.scene.Scene.{Scene}
use Rattle.call_steps.specs.Messages.{messages}
use Rattle.call_steps.specs.Rows.{counts, messages_of, takes_by, takes_row}
use Rattle.call_steps.specs.Scenes.{asker_by, at_id, passed_id}
use Rattle.call_steps.specs.Values.{AskerValue, ComingValue, lent, lent_asker, without_offer}
use Rattle.calls.specs.declared.change.LegDialog.{LegDialog}
use Rattle.calls.specs.declared.standing_call.StandingCall.{StandingCall}
use Rattle.call_trace.specs.declared.datagram.Datagram.{Datagram}
use Rattle.call_trace.specs.declared.datagram.Message.{Message}
use Rattle.plans.specs.CallRows.{asker, occasion, tag_at, with_step}
use Rattle.plans.specs.Effect.{Effect}
use Rattle.plans.specs.declared.acks.KeptAck.{KeptAck}
use Rattle.plans.specs.declared.setting.Setting.{Setting}
use Rattle.responses.specs.Responding.{stateless}
use Rattle.event_rows.specs.Rows.{row}
use Rattle.event_rows.specs.State.{Contents, office}
use Rattle.message_laws.specs.Addresses.{IsSource}
use Rattle.message_laws.specs.Comings.{CanCome, KnowsScenes}
use Rattle.message_laws.specs.Messages.{AreMessages}
use Rattle.message_laws.proofs.QuietEvents.Describing.{BodiesDescribe}
use Rattle.message_laws.proofs.TokenUse.Events.{few_tokens}
use Rattle.message_laws.proofs.Messages.ReadBack.{SentIsRead}
use Rattle.message_laws.proofs.AwaitedOffers.Tagged.{scene_dialog}
use Rattle.media_laws.specs.Coming.{scene_at}
use Rattle.media_laws.specs.Standing.{AgentStands}
use Rattle.media_laws.proofs.EndTags.HeardSteps.{step_heard}
use Rattle.media_laws.proofs.Scenes.Reading.{Reading}
use Rattle.step_laws.specs.Coming.{BeginsTransaction}
use Rattle.step_laws.specs.Ends.{IsToAnEnd, SpeaksToEnds, again, in_dialog, of_invite, of_offer, of_request}
use Rattle.step_laws.specs.Leaving.{IsBye, IsCancel, StandsAt}
use Rattle.step_laws.specs.Sending.{EachGoes, RespondsTo}
use Rattle.step_laws.proofs.ByeEvents.{bye_can, bye_row}
use Rattle.step_laws.proofs.ComingRows.{setting_of}
use Rattle.step_laws.proofs.CancelEvents.{cancel_can, cancel_row}
use Rattle.step_laws.specs.Coming.{GoesUp}
use Rattle.step_laws.specs.Expiring.{CallTimerIsDue, RequestTimesOut}
use Rattle.step_laws.proofs.AnswerSends.{answer_can, why}
use Rattle.plans.specs.CallRows.{ack_by, ack_row}
use Rattle.step_laws.specs.Acks.{IsAwaitedAck}
use Rattle.step_laws.proofs.ComingRows.{passed_row, up_row}
use Rattle.step_laws.proofs.Expiry.{call_timer_is, due_at, same_dressed, timeout_is}
use Rattle.step_laws.proofs.Ringing.{provisional_can, provisional_class, provisional_silent}
use Rattle.sip_message.specs.declared.message.Response.{Response}
use Rattle.transactions.specs.Changes.{fire_of}
use Rattle.transactions.specs.Contents.{reception_of}
use Rattle.call_core.specs.declared.action.CallTimer.{CallTimer}
use Rattle.call_core.specs.declared.action.CallTimer.TheVariants as timers
use Rattle.call_rules.specs.Content.{described}
use Rattle.call_rules.specs.Responses.{response_rule}
use Rattle.call_rules.specs.declared.responses.ResponseRule.TheVariants as rule
use Rattle.call_steps.specs.Rows.{answers_leg}
use Rattle.event_rows.specs.Rows.{no_source}
use Rattle.message_laws.proofs.Traces.Comings.{alone_comes}
use Rattle.media_laws.proofs.OfferPairs.FirstAnswers.{ReadingLaws}
use Rattle.media_laws.proofs.Scenes.Silence.{success_silent}
use Rattle.plans.specs.CallRows.{responds_by, timer_input}
use Rattle.step_laws.proofs.Known.{legs_known, scenes_known}
use Rattle.step_laws.proofs.Speaking.{each_goes}

lent_back : {X : Type 0} (o : Option X) (x : X) → option_copied (option_map lent o) ≡ Some x → o ≡ Some x
lent_back None x is = absurd (none-some x is)
lent_back (Some y) x is = is

module _ (reads : Reading) (describes : BodiesDescribe) (law : SentIsRead) (s : Contents) (scenes : KnowsScenes (office s)) (e : Setting) (place : ℕ) (c : StandingCall) (there : slice_get s.calls.calls place ≡ Some c) (input : Input) (leg : Option LegDialog) (asked : Option AskerValue) (request : Option Request) (can : CanCome input (without_offer leg asked)) where
  abbrev step : Step
  step = call_row c.call input s.calls.pool e.now

  abbrev w : ComingValue
  w = without_offer leg asked

  abbrev scene : Scene
  scene = scene_at (office s) e w c step.description

  abbrev May : Addr → Message → Type 0
  May = IsToAnEnd s c leg request e.source

  offered_by : (o : Option Transaction) → at s.table.slots c.asked.id ≡ o → (a : Asker) → option_map lent_asker (asker_by c o) ≡ Some a → (status : ℕ) (to : Addr) (m : Message) → RespondsTo a.parts.now a.source status to m → May to m
  offered_by None is a has status to m h = absurd (none-some a has)
  offered_by (Some t) is a has status to m h =
      of_offer t is status (subst (λ (x : Asker). RespondsTo x.parts.now x.source status to m) (sym (same_Some (lent_asker (record { id = c.asked.id; parts = t.parts; source = c.asked.source; tag = _ })) a has)) h)

  module _ (to_request : (a : Asker) → option_map lent_asker asked ≡ Some a → (to : Addr) (m : Message) → RespondsTo a.parts.now a.source 200 to m → May to m) where
    step_speaks : (ms : List Message) → AreMessages (messages_of s.table (occasion (office s) e) w c step).dressed.sends ms → EachGoes May (messages_of s.table (occasion (office s) e) w c step).dressed.sends ms
    unfolding messages
    step_speaks ms are =
        each_goes scene May (λ a has status to m h. offered_by (at s.table.slots c.asked.id) refl a has status to m h) to_request
        (λ end d has name to m h. in_dialog end d (sym (scene_dialog s.table (occasion (office s) e) w c step.description end) ∙ has) name h)
        (λ t has to m h. of_invite t (lent_back (at_id s.table.slots (passed_id s.table c)) t has) h) (λ x has m is. again x (lent_back c.answer x has) refl is) step.actions s.tokens ms
        (step_heard reads describes law (office s) e place c input w scenes there can ms are)

    pub row_speaks : (ms : List Message) → AreMessages (takes_row s.calls s.table (occasion (office s) e) place input leg asked).dressed.sends ms → EachGoes May (takes_row s.calls s.table (occasion (office s) e) place input leg asked).dressed.sends ms
    unfolding takes_row
    row_speaks ms are =
        let sends : (o : Option StandingCall) → List Sent = λ o. (takes_by s.calls s.table (occasion (office s) e) place input leg asked o).dressed.sends in
        subst (λ o. EachGoes May (sends o) ms) (sym there) (step_speaks ms (subst (λ o. AreMessages (sends o) ms) there are))

    pub event_speaks : (x : Effect) (acks : List KeptAck) (begun : List Entry) (send : Option Outgoing) (id : Option ℕ)
        → x ≡ with_step acks begun send id (takes_row s.calls s.table (occasion (office s) e) place input leg asked) → send ≡ None → SpeaksToEnds s c leg request e.source x
    event_speaks x acks begun send id is silent =
        subst (SpeaksToEnds s c leg request e.source) (sym (is ∙ ap (λ o. with_step acks begun o id (takes_row s.calls s.table (occasion (office s) e) place input leg asked)) silent))
        (record { taken = refl; each = row_speaks })

-- ---- a request that gets 200

module _ (s : Contents) (c : StandingCall) (leg : Option LegDialog) (e : Setting) (r : Request) (id : ℕ) (tag : List ℕ) where
  pub request_of : (a : Asker) → option_map lent_asker (Some (asker r e id tag)) ≡ Some a → (to : Addr) (m : Message) → RespondsTo a.parts.now a.source 200 to m → IsToAnEnd s c leg (Some r) e.source to m
  request_of a has to m h = of_request r refl (subst (λ (x : Asker). RespondsTo x.parts.now x.source 200 to m) (sym (same_Some (lent_asker (asker r e id tag)) a has)) h)

module _ (reads : Reading) (describes : BodiesDescribe) (law : SentIsRead) (s : Contents) (event : Event) (t : List Datagram) (k : ℕ) (stands : AgentStands s t k) (source : Addr) (bytes : List ℕ) (r : Request) (id : ℕ) (from : IsSource source) (begins : BeginsTransaction s event source bytes r id) (place : ℕ) (c : StandingCall) (n : Standing) (at_place : StandsAt s place c n) where
  scenes : KnowsScenes (office s)
  scenes = scenes_known (office s) stands.0 stands.1 t stands.2.1.known (few_tokens s event begins.comes.counts)

  abbrev e : Setting
  e = setting_of s event source

  abbrev entries : List Entry
  entries = change_of s.table (Kinds.Request r) source ∷ []

  pub bye_speaks : (end : End) → IsBye s event r place end → SpeaksToEnds s c (counts s.calls.calls place end r.parts.cseq.number) (Some r) source (row s event)
  bye_speaks end is =
      event_speaks reads describes law s scenes e place c at_place.there (inputs.Bye end) (counts s.calls.calls place end r.parts.cseq.number) (Some (asker r e id stateless)) (Some r)
      (bye_can reads describes law s event scenes (legs_known (office s) stands.0 stands.1 t stands.2.1.known) source bytes r id from begins place c n at_place end is)
      (request_of s c (counts s.calls.calls place end r.parts.cseq.number) e r id stateless) (row s event) s.acks entries None None
      (bye_row reads describes law s event scenes (legs_known (office s) stands.0 stands.1 t stands.2.1.known) source bytes r id from begins place c n at_place end is) refl

  pub cancel_speaks : IsCancel s event r place → SpeaksToEnds s c None (Some r) source (row s event)
  cancel_speaks is =
      let tag = tag_at (slice_get s.calls.calls place) in
      event_speaks reads describes law s scenes e place c at_place.there inputs.Cancel None (Some (asker r e id tag)) (Some r)
      (cancel_can reads describes law s event t k stands source bytes r id from begins place c n at_place is) (request_of s c None e r id tag) (row s event) s.acks entries None None
      (cancel_row reads describes law s event t k stands source bytes r id from begins place c n at_place is) refl

-- ---- where nothing asks for a 200

pub nothing_asked : (s : Contents) (c : StandingCall) (leg : Option LegDialog) (source : Addr) (a : Asker) → None ≡ Some a → (to : Addr) (m : Message) → RespondsTo a.parts.now a.source 200 to m
    → IsToAnEnd s c leg None source to m
nothing_asked s c leg source a has to m h = absurd (none-some a has)

-- ---- a response

module _ (reads : Reading) (describes : BodiesDescribe) (law : SentIsRead) (s : Contents) (event : Event) (t : List Datagram) (k : ℕ) (stands : AgentStands s t k) (source : Addr) (bytes : List ℕ) (r : Response) (id : ℕ) (asked : Transaction) (up : GoesUp s event source bytes r id asked) (place : ℕ) (c : StandingCall) (n : Standing) (at_place : StandsAt s place c n) where
  pub provisional_speaks : response_rule s.calls.calls asked.parts r ≡ rule.Provisional place r.status → SpeaksToEnds s c None None source (row s event)
  provisional_speaks is =
      event_speaks reads describes law s (scenes_known (office s) stands.0 stands.1 t stands.2.1.known (few_tokens s event up.comes.counts)) (setting_of s event source) place c at_place.there (inputs.Provisional r.status) None None None
      (provisional_can reads describes law s event t k stands source bytes r id asked up place c n at_place is) (nothing_asked s c None source) (row s event) s.acks (change_of s.table (Kinds.Response r) source ∷ [])
      (reception_of s.table (Kinds.Response r)).send None
      (up_row s event source bytes r id asked up ∙ ap (responds_by (office s) (setting_of s event source) r (change_of s.table (Kinds.Response r) source ∷ []) (reception_of s.table (Kinds.Response r)).send id asked) is)
      (provisional_silent s.table r (provisional_class reads describes law s event t k stands source bytes r id asked up place c n at_place is))

module _ (reads : Reading) (laws : ReadingLaws) (describes : BodiesDescribe) (law : SentIsRead) (s : Contents) (event : Event) (t : List Datagram) (k : ℕ) (stands : AgentStands s t k) (source : Addr) (bytes : List ℕ) (r : Response) (id : ℕ) (asked : Transaction) (up : GoesUp s event source bytes r id asked) (place : ℕ) (c : StandingCall) (n : Standing) (at_place : StandsAt s place c n) where
  pub answer_speaks : response_rule s.calls.calls asked.parts r ≡ rule.Answer place → SpeaksToEnds s c (answers_leg s.calls.calls place asked.parts r) None source (row s event)
  answer_speaks is =
      event_speaks reads describes law s (scenes_known (office s) stands.0 stands.1 t stands.2.1.known (few_tokens s event up.comes.counts)) (setting_of s event source) place c at_place.there
      (inputs.Answer (described r.headers r.body)) (answers_leg s.calls.calls place asked.parts r) None None
      (answer_can reads laws describes law s event t k stands source bytes r id asked up place c n at_place is) (nothing_asked s c (answers_leg s.calls.calls place asked.parts r) source) (row s event) s.acks
      (change_of s.table (Kinds.Response r) source ∷ []) (reception_of s.table (Kinds.Response r)).send (Some id)
      (up_row s event source bytes r id asked up ∙ ap (responds_by (office s) (setting_of s event source) r (change_of s.table (Kinds.Response r) source ∷ []) (reception_of s.table (Kinds.Response r)).send id asked) is)
      (success_silent s.table r (why reads laws describes law s event t k stands source bytes r id asked up place c n at_place is).is)

-- ---- a timer

pub timer_comes : (kind : CallTimer) → CanCome (timer_input kind) (without_offer None None)
timer_comes timers.Limit = alone_comes inputs.Limit tt refl tt
timer_comes timers.Repeat = alone_comes inputs.Repeat tt refl tt
timer_comes timers.Wait = alone_comes inputs.Wait tt refl tt
timer_comes timers.Lifetime = alone_comes inputs.Lifetime tt refl tt

module _ (reads : Reading) (describes : BodiesDescribe) (law : SentIsRead) (s : Contents) (event : Event) (t : List Datagram) (k : ℕ) (stands : AgentStands s t k) (place : ℕ) (c : StandingCall) (n : Standing) (at_place : StandsAt s place c n) where
  pub timer_speaks : (kind : CallTimer) → CallTimerIsDue s event place kind → SpeaksToEnds s c None None no_source (row s event)
  timer_speaks kind h =
      let e = due_at s event in
      let same = same_dressed (office s) h.timer.key e place (timer_input kind) in
      let each = row_speaks reads describes law s (scenes_known (office s) stands.0 stands.1 t stands.2.1.known (few_tokens s event h.counts)) e place c at_place.there (timer_input kind) None None None (timer_comes kind) (nothing_asked s c None no_source) in
      subst (SpeaksToEnds s c None None no_source) (sym (call_timer_is s event place kind h))
      (record { taken = refl; each = subst (λ d. (ms : List Message) → AreMessages d.sends ms → EachGoes (IsToAnEnd s c None None no_source) d.sends ms) (sym same) each })

  pub timeout_speaks : RequestTimesOut s event place → SpeaksToEnds s c None None no_source (row s event)
  timeout_speaks h =
      event_speaks reads describes law s (scenes_known (office s) stands.0 stands.1 t stands.2.1.known (few_tokens s event h.counts)) (due_at s event) place c at_place.there inputs.TimedOut None None None
      (alone_comes inputs.TimedOut tt refl tt) (nothing_asked s c None no_source) (row s event) s.acks (fire_of h.timer.key ∷ []) None None (timeout_is s event place h) refl

-- ---- the ACK that the call waits for

module _ (reads : Reading) (describes : BodiesDescribe) (law : SentIsRead) (s : Contents) (event : Event) (t : List Datagram) (k : ℕ) (stands : AgentStands s t k) (source : Addr) (bytes : List ℕ) (r : Request) (place : ℕ) (h : IsAwaitedAck s event source bytes r place) (c : StandingCall) (n : Standing) (at_place : StandsAt s place c n) where
  pub ack_speaks : SpeaksToEnds s c None None source (row s event)
  unfolding ack_row
  ack_speaks =
      let entries = change_of s.table (Kinds.Request r) source ∷ [] in
      event_speaks reads describes law s (scenes_known (office s) stands.0 stands.1 t stands.2.1.known (few_tokens s event h.comes.counts)) (setting_of s event source) place c at_place.there inputs.Ack None None None
      (alone_comes inputs.Ack tt refl tt) (nothing_asked s c None source) (row s event) s.acks entries None None
      (passed_row s event source bytes r h.comes h.passes ∙ ap (ack_by (office s) (setting_of s event source) entries) h.call) refl

-- To whom a call speaks for a refusal, and the responses that no call takes.
use Rattle.std.proofs.Common.{◌≡◌, ◌∙◌, ℕ, List, [], ◌∷◌, ◌++◌, Option, None, inl, inr, refl, ap, sym, subst}
use Rattle.sip_uri.specs.declared.uri.Addr.{Addr}
use Rattle.sip_message.specs.Words.{class_of}
use Rattle.sip_message.specs.declared.message.Message.TheVariants as Kinds
use Rattle.sip_message.specs.declared.message.Response.{Response}
use Rattle.sip_message.specs.declared.words.Class.TheVariants.{Failure, Provisional, Success}
use Rattle.transaction_machines.specs.declared.state.State.{State}
use Rattle.transaction_machines.specs.declared.state.State.TheVariants as machine
use Rattle.transactions.specs.Changes.{change_of}
use Rattle.transactions.specs.Contents.{reception_of}
use Rattle.transactions.specs.declared.change.Entry.{Entry}
use Rattle.transactions.specs.declared.outcome.Outgoing.{Outgoing}
use Rattle.transactions.specs.declared.transaction.Transaction.{Transaction}
use Rattle.events.specs.declared.event.Event.{Event}
use Rattle.events.specs.declared.sent.Sent.{Sent}
use Rattle.call_core.specs.declared.input.Input.TheVariants as inputs
use Rattle.call_core.specs.declared.stage.Standing.{Standing}
use Rattle.call_rules.specs.Responses.{response_rule}
use Rattle.call_rules.specs.declared.responses.ResponseRule.TheVariants as rule
use Rattle.call_steps.specs.Rows.{takes_row}
use Rattle.calls.specs.declared.standing_call.StandingCall.{StandingCall}
use Rattle.call_trace.specs.declared.datagram.Datagram.{Datagram}
use Rattle.call_trace.specs.declared.datagram.Message.{Message}
use Rattle.plans.specs.CallRows.{occasion, of_plan, responds_by}
use Rattle.plans.specs.Plan.{goes, moves}
use Rattle.event_rows.specs.Rows.{row}
use Rattle.event_rows.specs.State.{Contents, office}
use Rattle.message_laws.specs.Messages.{AreMessages}
use Rattle.message_laws.proofs.Messages.ReadBack.{SentIsRead}
use Rattle.message_laws.proofs.QuietEvents.Describing.{BodiesDescribe}
use Rattle.message_laws.proofs.StandingCalls.Reading.{Reading as ReadsNames}
use Rattle.message_laws.proofs.TokenUse.Events.{few_tokens}
use Rattle.media_laws.specs.Standing.{AgentStands}
use Rattle.media_laws.proofs.Scenes.HeardActions.{split}
use Rattle.media_laws.proofs.Scenes.Reading.{Reading}
use Rattle.media_laws.proofs.Scenes.Silence.{success_silent}
use Rattle.step_laws.specs.Coming.{GoesUp}
use Rattle.step_laws.specs.Ends.{IsToAnEnd, IsToAnEndOrAcks, SpeaksOrAcks}
use Rattle.step_laws.specs.Leaving.{StandsAt}
use Rattle.step_laws.specs.Refusals.{IsRefusal, acks_of, own_acks}
use Rattle.step_laws.specs.Repeats.{SendsJust}
use Rattle.step_laws.specs.Sending.{AcksRefusal, AllGo, EachGoes, Sends, acks}
use Rattle.step_laws.proofs.ComingRows.{setting_of, up_row}
use Rattle.step_laws.proofs.Known.{scenes_known}
use Rattle.step_laws.proofs.OwnAcks.{own_acks_go}
use Rattle.step_laws.proofs.RefusalSends.{refusal_can, refusal_class, refusal_scenes}
use Rattle.step_laws.proofs.RepeatEvents.{moves_just}
use Rattle.step_laws.proofs.Ringing.{provisional_silent}
use Rattle.step_laws.proofs.SpeakingEvents.{nothing_asked, row_speaks}

-- ---- one list after another

each_behind : (P : Addr → Message → Type 0) (xs ys : List Sent) (ms ns : List Message) → EachGoes P xs ms → EachGoes P ys ns → EachGoes P (xs ++ ys) (ms ++ ns)
each_behind P [] ys ms ns one all = subst (λ l. EachGoes P ys (l ++ ns)) (sym one) all
each_behind P (d ∷ xs) ys [] ns one all = absurd one
each_behind P (d ∷ xs) ys (m ∷ ms) ns one all = (one.0, each_behind P xs ys ms ns one.1 all)

each_as : (P Q : Addr → Message → Type 0) → ((to : Addr) (m : Message) → P to m → Q to m) → (xs : List Sent) (ms : List Message) → EachGoes P xs ms → EachGoes Q xs ms
each_as P Q weaker [] ms each = each
each_as P Q weaker (d ∷ xs) [] each = each
each_as P Q weaker (d ∷ xs) (m ∷ ms) each = (weaker d.to m each.0, each_as P Q weaker xs ms each.1)

module _ (asked : Transaction) (r : Response) (P : Addr → Message → Type 0) (may : (to : Addr) (m : Message) → AcksRefusal asked r.parts to m → P to m) where
  none_each : (xs : List Sent) (ms : List Message) → AllGo [] xs ms → EachGoes P xs ms
  none_each xs ms all = subst (λ l. EachGoes P l ms) (sym all.0) all.1

  ack_each : (xs : List Sent) (ms : List Message) → AllGo (acks asked r.parts ∷ []) xs ms → EachGoes P xs ms
  ack_each [] ms all = absurd all
  ack_each (d ∷ xs) [] all = absurd all
  ack_each (d ∷ xs) (m ∷ ms) all = (may d.to m all.0, none_each xs ms all.1)

  own_each : (state : State) (xs : List Sent) (ms : List Message) → AllGo (acks_of state asked r.parts) xs ms → EachGoes P xs ms
  own_each (machine.InviteClient x) xs ms all = ack_each xs ms all
  own_each (machine.InviteServer x) xs ms all = none_each xs ms all
  own_each (machine.OtherClient x) xs ms all = none_each xs ms all
  own_each (machine.OtherServer x) xs ms all = none_each xs ms all

-- ---- a refusal

module _ (reads : Reading) (names : ReadsNames) (describes : BodiesDescribe) (law : SentIsRead) (s : Contents) (event : Event) (t : List Datagram) (k : ℕ) (stands : AgentStands s t k) (source : Addr) (bytes : List ℕ) (r : Response) (id : ℕ) (asked : Transaction) (up : GoesUp s event source bytes r id asked) where
  abbrev entries : List Entry
  entries = change_of s.table (Kinds.Response r) source ∷ []

  abbrev send : Option Outgoing
  send = (reception_of s.table (Kinds.Response r)).send

  module _ (place : ℕ) (c : StandingCall) (n : Standing) (at_place : StandsAt s place c n) (is : IsRefusal s asked r place) where
    abbrev May : Addr → Message → Type 0
    May = IsToAnEndOrAcks s c asked r source

    abbrev sends : List Sent
    sends = (takes_row s.calls s.table (occasion (office s) (setting_of s event source)) place (inputs.Refusal r.status) None None).dressed.sends

    all_speak : (ms : List Message) → AreMessages (goes send ++ sends) ms → EachGoes May (goes send ++ sends) ms
    all_speak ms are =
        let p = split (goes send) sends ms are in
        let scenes = refusal_scenes reads names describes law s event t k stands source bytes r id asked up place c n at_place is in
        let class = refusal_class reads names describes law s event t k stands source bytes r id asked up place c n at_place is in
        let acked = own_each asked r May (λ to m h. inl h) asked.state (goes send) p.first (own_acks_go reads names s scenes bytes r up.comes.read id asked up.stands class up.up p.first p.of_first) in
        let said = row_speaks reads describes law s scenes (setting_of s event source) place c at_place.there (inputs.Refusal r.status) None None None
        (refusal_can reads names describes law s event t k stands source bytes r id asked up place c n at_place is) (nothing_asked s c None source) p.rest p.of_rest in
        subst (EachGoes May (goes send ++ sends)) (sym p.whole) (each_behind May (goes send) sends p.first p.rest acked (each_as (IsToAnEnd s c None None source) May (λ to m h. inr h) sends p.rest said))

    pub refusal_speaks : SpeaksOrAcks s c asked r source (row s event)
    refusal_speaks =
        subst (SpeaksOrAcks s c asked r source) (sym (up_row s event source bytes r id asked up ∙ ap (responds_by (office s) (setting_of s event source) r entries send id asked) is))
        (record { taken = refl; each = all_speak })

  -- ---- a response that no call takes

  module _ (is : response_rule s.calls.calls asked.parts r ≡ rule.Silent) where
    moved : row s event ≡ of_plan (office s) (moves entries send)
    moved = up_row s event source bytes r id asked up ∙ ap (responds_by (office s) (setting_of s event source) r entries send id asked) is

    pub refusal : class_of r.status ≡ Failure → Sends (own_acks asked r) (row s event)
    refusal class =
        subst (Sends (own_acks asked r)) (sym moved)
        (record { taken = refl; all = own_acks_go reads names s (scenes_known (office s) stands.0 stands.1 t stands.2.1.known (few_tokens s event up.comes.counts)) bytes r up.comes.read id asked up.stands class up.up })

    pub success : class_of r.status ≡ Success → SendsJust [] (row s event)
    success class = moves_just s entries send None (row s event) moved (success_silent s.table r class)

    pub provisional : class_of r.status ≡ Provisional → SendsJust [] (row s event)
    provisional class = moves_just s entries send None (row s event) moved (provisional_silent s.table r class)

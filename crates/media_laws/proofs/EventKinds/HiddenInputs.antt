-- What a call that the trace no longer lists takes moves no call of the trace, and the trace's calls show the
-- server's afterwards.
use Rattle.std.proofs.Common.{Bool, is_some, List, None, Ok, Option, Some, [], ap, codes, false, inl, inr, refl, subst, sym, true, ℕ, ◌++◌, ◌∙◌, ◌≡◌}
use Rattle.std.specs.Prelude.{IsTrue, nat_lt, slice_get}
use Rattle.std.proofs.lemmas.Bool.{false≢true, ltb-false, ltb-true}
use Rattle.events.specs.declared.sent.Sent.{Sent}
use Rattle.sip_message.specs.Read.{message_of}
use Rattle.sip_message.specs.declared.message.Message.TheVariants as Kinds
use Rattle.sip_message.specs.declared.message.Response.{Response}
use Rattle.sip_message.specs.Words.{class_of}
use Rattle.sip_message.specs.declared.words.Class.TheVariants as classes
use Rattle.transactions.specs.Contents.{reception_of}
use Rattle.transactions.specs.declared.change.Entry.{Entry}
use Rattle.transactions.specs.declared.transaction.Transaction.{Transaction}
use Rattle.event_rows.specs.Rows.{is_unreachable_message}
use Rattle.call_core.specs.CallRows.{call_row, is_fit}
use Rattle.call_rules.specs.Content.{described}
use Rattle.call_core.specs.Calls.{holds_in}
use Rattle.call_core.specs.declared.call.Call.{Call as ServerCall}
use Rattle.call_steps.specs.Values.{AskerValue}
use Rattle.call_core.specs.declared.input.Input.{Input}
use Rattle.call_core.specs.declared.input.Input.TheVariants as inputs
use Rattle.call_core.specs.declared.signal.Signal.{Signal}
use Rattle.call_core.specs.declared.signal.Signal.TheVariants as signals
use Rattle.call_core.specs.declared.stage.Stage.TheVariants.{Cancelling}
use Rattle.call_core.specs.declared.stage.Standing.{Standing}
use Rattle.call_steps.specs.Rows.{answers_leg, counts, takes_row}
use Rattle.call_steps.specs.Values.{without_offer}
use Rattle.calls.specs.declared.change.LegDialog.{LegDialog}
use Rattle.calls.specs.declared.standing_call.StandingCall.{StandingCall}
use Rattle.plans.specs.CallRows.{asker, occasion, tag_at, takes, takes_request}
use Rattle.plans.specs.Effect.{Effect}
use Rattle.plans.specs.Office.{Office}
use Rattle.plans.specs.Plan.{goes}
use Rattle.plans.specs.declared.setting.Setting.{Setting}
use Rattle.call_trace.specs.declared.call.Call.{Call}
use Rattle.call_trace.specs.declared.datagram.Datagram.{Datagram}
use Rattle.call_trace.specs.declared.datagram.Message.{Message}
use Rattle.call_trace.specs.Events.{passed}
use Rattle.call_trace.specs.Lives.{Stands}
use Rattle.call_trace.specs.Messages.{is_final, offering}
use Rattle.call_trace.specs.Moves.{Move}
use Rattle.call_trace.specs.Stands.{AllApart, leg as leg_of}
use Rattle.calls.specs.Carrying.{offerer_of}
use Rattle.message_laws.proofs.Askers.AskerRows.{class_by, failure_by}
use Rattle.message_laws.proofs.QuietEvents.Describing.{BodiesDescribe}
use Rattle.message_laws.proofs.Messages.ReadParts.{response_status}
use Rattle.message_laws.proofs.Messages.ReadBack.{SentIsRead}
use Rattle.message_laws.proofs.StandingCalls.Reading.{Reading as ReadsNames}
use Rattle.message_laws.specs.Comings.{CanCome}
use Rattle.message_laws.proofs.Traces.Comings.{alone_comes, answer_comes, bye_comes, cancel_comes}
use Rattle.media_laws.specs.Responding.{RespondsToOffer}
use Rattle.media_laws.specs.Taking.{KnowsLegs}
use Rattle.message_laws.proofs.TokenUse.Rows.{answered_client}
use Rattle.media_laws.proofs.OfferPairs.FirstAnswers.{ReadingLaws}
use Rattle.media_laws.specs.Coming.{scene_at}
use Rattle.message_laws.specs.Messages.{AreMessages, IsTakenOf}
use Rattle.media_laws.specs.Listing.{is_listed as is_listed_call}
use Rattle.media_laws.specs.Shows.{ShowsCall}
use Rattle.media_laws.proofs.Scenes.HeardActions.{split}
use Rattle.media_laws.proofs.Scenes.Reading.{Reading}
use Rattle.media_laws.specs.Ties.{AreTied}
use Rattle.media_laws.proofs.Copies.EventMoves.{sends_are_idle}
use Rattle.media_laws.proofs.Scenes.ReadTexts.{taken_is}
use Rattle.media_laws.specs.Steps.{GoOn, IsAfter, IsSignalOf, StandsShown, due_signal}
use Rattle.std.proofs.lemmas.Slice.Eq.{bytes_eq-Decides}
use Rattle.sip_message.specs.declared.message.Request.{Request}
use Rattle.call_media.specs.declared.end.End.{End}
use Rattle.responses.specs.Words.{is_method}
use Rattle.responses.specs.Responding.{stateless}
use Rattle.message_laws.specs.Addresses.{IsSource}
use Rattle.call_rules.specs.Speaking.{is_bye}
use Rattle.message_laws.specs.Sound.{HasSoundLegs}
use Rattle.message_laws.proofs.AwaitedOffers.Awaiting.{all_at}
use Rattle.sip_message.specs.declared.message.Parts.{Parts}
use Rattle.dialogs.specs.declared.state.Dialog.{Dialog as ServerDialog}
use Rattle.call_media.specs.Ends.{other}
use Rattle.call_media.specs.declared.end.End.TheVariants.{Callee, Caller}
use Rattle.call_media.specs.declared.session.OpenOffer.{OpenOffer}
use Rattle.call_core.specs.Calls.{awaits_answer, dialog_of}
use Rattle.sdp.specs.declared.description.Description.{Description}
use Rattle.call_trace.specs.declared.datagram.Dialog.{Dialog}
use Rattle.call_trace.specs.declared.call.Stage.TheVariants as traces
use Rattle.call_trace.specs.Events.{IsIdle, IsPartingTaken, calm, due, is_calm, unmoved}
use Rattle.call_trace.specs.Listed.{AllOf}
use Rattle.call_trace.specs.Moves.{tagged}
use Rattle.trace_reading.specs.Message.{dialog_named, trace_message}
use Rattle.call_messages.specs.declared.scene.Scene.{Scene}
use Rattle.message_laws.specs.CalleeDialogs.{FitsStage, HasCallee}
use Rattle.message_laws.specs.Knowing.{HasLegTag, HasMadeTags, IsTagOf as IsTagOfStanding}
use Rattle.message_laws.specs.Sound.{IsTargetIf}
use Rattle.message_laws.specs.Waiting.{IsOffering, from_tag}
use Rattle.message_laws.proofs.AwaitedOffers.Tagged.{tagged as is_tagged}
use Rattle.media_laws.specs.Coming.{HasNumbersLeft}
use Rattle.media_laws.proofs.Scenes.Fitting.{first_answer}
use Rattle.media_laws.proofs.Scenes.Legs.{first_in, leg_in}
use Rattle.message_laws.specs.Serving.{IsStaged}
use Rattle.media_laws.proofs.OfferPairs.ReachedAnswers.{answered_fits, counted, reached, target}
use Rattle.media_laws.specs.Lines.{IsTagOfNone}
use Rattle.media_laws.specs.Scenes.{LegIn}
use Rattle.media_laws.specs.Shows.{ShowsCallee, ShowsLegs, is_caller}
use Rattle.call_trace.proofs.Members.{all_at as all_members}
use Rattle.message_laws.specs.Messages.{IsRequestOf}
use Rattle.media_laws.proofs.Copies.SeenResponses.{provisional_calm}
use Rattle.media_laws.proofs.Copies.Taken.{none_has}
use Rattle.media_laws.proofs.EventKinds.HiddenSignals.{HasNoLine, MovesNone, hidden_answered, hidden_due, hidden_ignores, hidden_refused, hidden_rings_on, hidden_stage, hidden_tag, no_ack, no_bye, no_cancel}
use Rattle.media_laws.proofs.EndTags.Timers.{due_input}
use Rattle.media_laws.proofs.EventKinds.UnlistedCalls.{hidden_takes}

-- a request is calm
pub request_calm : (bytes : List ℕ) (r : Request) → IsTrue (is_calm offering (trace_message bytes (Kinds.Request r)))
unfolding trace_message
request_calm bytes r = refl

-- no offer is open, so that no answer is fit
none_fit : (c : ServerCall) (o : Option OpenOffer) (answer : Option Description) → is_some o ≡ false → is_fit c o answer ≡ false
none_fit c None answer none = refl
none_fit c (Some o) answer none = absurd (false≢true (sym none))

module _ (reads : Reading) (names : ReadsNames) (describes : BodiesDescribe) (law : SentIsRead) (keep : (k : ℕ) (t : List Datagram) (old new : List Call) (taken : Option Message) (sent : List Message) → Move offering t old taken sent new → Stands offering old k t → AllApart new) (s after : Office) (begun more : List Transaction) (sent : List Sent) (t : List Datagram) (old : List Call) (k : ℕ) (before : StandsShown s begun t old k) (later : IsAfter s after (begun ++ more)) (tied : AreTied s begun sent t old) (knows : KnowsLegs s) (e : Setting) (place : ℕ) (c : StandingCall) (n : Standing) (entries : List Entry) (there : slice_get s.calls.calls place ≡ Some c) (stands : c.call.standing ≡ Some n) (unlisted : is_listed_call c ≡ false) where
  abbrev After : Option Message → List Message → Type 0
  After taken ms = GoOn (ShowsCall after.table.slots (begun ++ more) (t ++ passed k taken ms)) after.calls.calls t old taken ms

  abbrev pub GoesOn : Option Message → Effect → Type 0
  GoesOn taken row = (x : Effect) → x ≡ row → (ms : List Message) → AreMessages x.plan.sends ms → after.calls.calls ≡ x.calls.standing.calls → After taken ms

  abbrev scene : Input → Option LegDialog → Option AskerValue → Scene
  scene input leg request = scene_at s e (without_offer leg request) c (call_row c.call input s.calls.pool e.now).description

  given_up : (sent : Bool) × (n.stage ≡ Cancelling sent)
  given_up = hidden_stage c n stands unlisted

  -- no call of the trace has a tag of this one
  of_none : (tag : List ℕ) → IsTagOfStanding c tag → IsTagOfNone old tag
  of_none tag of =
      hidden_tag s.tokens tag (ShowsCall s.table.slots begun t) (λ c d h. h.legs) s.calls.calls old place c tied.tokens.calls.tags tied.tokens.calls.apart there unlisted of tied.listed

  -- ---- timers

  pub hidden_times : (input : Input) (signal : Signal) → due_signal input ≡ Some signal → GoesOn None (takes s e entries None None place input None)
  hidden_times input signal is x eq ms are calls =
      let d = due_input c.call input signal is in
      hidden_takes reads describes law keep s after begun more t old k before later e place c n input signal None None there stands unlisted d.of d.can None [] ms
      (hidden_due t old None [] tt (scene input None None) s.tokens n given_up.0 given_up.1 signal d.due (unmoved (due refl)) ms)
      (subst (λ (y : Effect). AreMessages y.plan.sends ms) eq are) (calls ∙ ap (λ (y : Effect). y.calls.standing.calls) eq)

  -- ---- requests

  module _ (bytes : List ℕ) (r : Request) (taken : Option Message) (read : message_of bytes ≡ Ok (Kinds.Request r)) (took : IsTakenOf bytes taken) where
    took_calm : IsPartingTaken offering t taken old
    took_calm = unmoved (calm (trace_message bytes (Kinds.Request r)) (taken_is bytes (Kinds.Request r) taken read took) (request_calm bytes r))

    by_request : (input : Input) (signal : Signal) (leg : Option LegDialog) (request : Option AskerValue) → IsSignalOf c.call input signal → CanCome input (without_offer leg request) → HasNoLine signal → (ms : List Message)
        → AreMessages (takes_row s.calls s.table (occasion s e) place input leg request).dressed.sends ms → after.calls.calls ≡ (takes_row s.calls s.table (occasion s e) place input leg request).outcome.standing.calls → After taken ms
    by_request input signal leg request is can none ms are calls =
        hidden_takes reads describes law keep s after begun more t old k before later e place c n input signal leg request there stands unlisted is can taken [] ms
        (hidden_ignores t old taken [] tt (scene input leg request) s.tokens n given_up.0 given_up.1 signal none took_calm ms) are calls

    pub hidden_acks : GoesOn taken (takes s e entries None None place inputs.Ack None)
    hidden_acks x eq ms are calls =
        by_request inputs.Ack signals.Ack None None refl (alone_comes inputs.Ack tt refl tt) no_ack ms (subst (λ (y : Effect). AreMessages y.plan.sends ms) eq are) (calls ∙ ap (λ (y : Effect). y.calls.standing.calls) eq)

    pub hidden_byes : IsSource e.source → (id : ℕ) (end : End) → is_bye r.parts ≡ true → GoesOn taken (takes_request s e r entries id place (inputs.Bye end) (counts s.calls.calls place end r.parts.cseq.number) stateless)
    hidden_byes from id end is x eq ms are calls =
        by_request (inputs.Bye end) (signals.Bye end) (counts s.calls.calls place end r.parts.cseq.number) (Some (asker r e id stateless)) refl (bye_comes s e bytes r id place end before.scenes from read is) (no_bye end) ms
        (subst (λ (y : Effect). AreMessages y.plan.sends ms) eq are) (calls ∙ ap (λ (y : Effect). y.calls.standing.calls) eq)

    pub hidden_cancels : IsSource e.source → (id : ℕ) → is_method (codes "CANCEL") r ≡ true → GoesOn taken (takes_request s e r entries id place inputs.Cancel None (tag_at (slice_get s.calls.calls place)))
    hidden_cancels from id is x eq ms are calls =
        by_request inputs.Cancel signals.Cancel None (Some (asker r e id (tag_at (slice_get s.calls.calls place)))) refl (cancel_comes s e bytes r id place before.scenes from read ((bytes_eq-Decides r.method (codes "CANCEL")).0 is)) no_cancel ms
        (subst (λ (y : Effect). AreMessages y.plan.sends ms) eq are) (calls ∙ ap (λ (y : Effect). y.calls.standing.calls) eq)

  -- ---- responses

  module _ (bytes : List ℕ) (r : Response) (taken : Option Message) (read : message_of bytes ≡ Ok (Kinds.Response r)) (took : IsTakenOf bytes taken) where
    by_response : (input : Input) (signal : Signal) (acked : Option ℕ) (leg : Option LegDialog) → IsSignalOf c.call input signal → CanCome input (without_offer leg None)
        → ((first : List Message) (idle : AllOf (IsIdle offering t taken) first) → MovesNone t old taken first idle (scene input leg None) s.tokens n signal) → GoesOn taken (takes s e entries (reception_of s.table (Kinds.Response r)).send acked place input leg)
    by_response input signal acked leg is can moves x eq ms are calls =
        let sends = (takes_row s.calls s.table (occasion s e) place input leg None).dressed.sends in
        let p = split (goes (reception_of s.table (Kinds.Response r)).send) sends ms (subst (λ (y : Effect). AreMessages y.plan.sends ms) eq are) in
        let idle = sends_are_idle reads names s begun sent t old tied bytes r taken p.first read took p.of_first in
        subst (λ l. After taken l) (sym p.whole)
        (hidden_takes reads describes law keep s after begun more t old k before later e place c n input signal leg None there stands unlisted is can taken p.first p.rest (moves p.first idle p.rest) p.of_rest
        (calls ∙ ap (λ (y : Effect). y.calls.standing.calls) eq))

    pub hidden_ringing : class_of r.status ≡ classes.Provisional → GoesOn taken (takes s e entries (reception_of s.table (Kinds.Response r)).send None place (inputs.Provisional r.status) None)
    hidden_ringing class =
        by_response (inputs.Provisional r.status) (signals.Provisional r.status) None None refl
        (alone_comes (inputs.Provisional r.status) ((response_status bytes r read).low, ltb-true r.status 200 (class_by (nat_lt r.status 200) (nat_lt r.status 300) class)) refl tt)
        (λ first idle. hidden_rings_on t old taken first idle (scene (inputs.Provisional r.status) None None) s.tokens n given_up.0 given_up.1 r.status
        (calm (trace_message bytes (Kinds.Response r)) (taken_is bytes (Kinds.Response r) taken read took) (provisional_calm bytes r class)))

    module _ (id : ℕ) (x : Transaction) (to : RespondsToOffer s r id x c) where
      took_untagged : IsPartingTaken offering t taken old
      took_untagged =
          subst (λ o. IsPartingTaken offering t o old) (sym (taken_is bytes (Kinds.Response r) taken read took))
          (none_has s begun sent t old tied.trace tied.listed tied.tokens tied.waiting bytes r id x to.there to.answers (of_none (from_tag x) (is_tagged (from_tag x) c to.tag)) (is_final (trace_message bytes (Kinds.Response r)).kind) refl)

      pub hidden_refusal : class_of r.status ≡ classes.Failure → GoesOn taken (takes s e entries (reception_of s.table (Kinds.Response r)).send None place (inputs.Refusal r.status) None)
      hidden_refusal class =
          by_response (inputs.Refusal r.status) (signals.Refusal r.status) None None refl
          (alone_comes (inputs.Refusal r.status) (ltb-false r.status 300 (failure_by (nat_lt r.status 200) (nat_lt r.status 300) class), (response_status bytes r read).high) refl tt)
          (λ first idle. hidden_refused t old taken first idle (scene (inputs.Refusal r.status) None None) s.tokens n given_up.0 given_up.1 r.status took_untagged)

      -- a 2xx: ACK and BYE go in the dialog that it makes, or in that with the callee
      module _ (laws : ReadingLaws) (reaches : is_unreachable_message (Kinds.Response r) ≡ false) (class : class_of r.status ≡ classes.Success) where
        abbrev answered : Input
        answered = inputs.Answer (described r.headers r.body)

        abbrev leg : Option LegDialog
        leg = answers_leg s.calls.calls place x.parts r

        -- as a trace would name its legs
        abbrev named : Dialog → Call
        named callee = record { caller = dialog_named c.call.caller.id; callee = callee; stage = traces.Asked; offer = None }

        made_tags : HasMadeTags s.tokens c
        made_tags = all_at (HasMadeTags s.tokens) s.calls.calls place c tied.tokens.calls.tags there

        is_offering : IsOffering x
        is_offering = record { client = answered_client r.parts x to.answers; offers = to.offers }

        asked_there : (q : Message) × IsRequestOf x.parts q
        asked_there =
            let b = tied.trace.stands id x to.there is_offering in
            let i = tied.trace.asked b.0 b.1 b.2 in
            (i.1.message, subst (λ (p : Parts). IsRequestOf p i.1.message) b.3 i.3)

        first_leg : n.offerer ≡ Caller → c.call.callee ≡ None → (callee : Dialog) × LegIn (scene answered leg None) (other n.offerer) callee × IsTagOfNone old callee.ours
        first_leg first none =
            let q = asked_there in
            let uri = reached laws.reading laws.names s place c n r id x bytes knows tied.waiting there stands to read reaches class first none in
            let came = first_answer s.calls.calls place x.parts r c uri.0 there uri.1 (ap offerer_of stands ∙ first) none in
            let callee : Dialog = record { call_id = q.0.call_id; ours = q.0.from_tag; theirs = [] } in
            let is_target = subst IsTargetIf uri.1 (target laws.reading laws.names s place c n r id x bytes knows tied.waiting there stands to read reaches class) in
            let is_counted = counted laws.reading laws.names s place c n r id x bytes knows tied.waiting there stands to read reaches class first in
            let in_callee = first_in s e (without_offer leg None) c (call_row c.call answered s.calls.pool e.now).description (named callee) (record { by_caller = true; came = q.0; went = q.0 }) x.parts bytes r uri.0 none came is_target is_counted q.1 refl refl in (
              tagged callee (trace_message bytes (Kinds.Response r)).to_tag,
              subst (λ end. LegIn (scene answered leg None) end (tagged callee (trace_message bytes (Kinds.Response r)).to_tag)) (sym (ap other first)) in_callee,
              subst (IsTagOfNone old) (sym q.1.from_tag) (of_none (from_tag x) (is_tagged (from_tag x) c to.tag)),
            )

        own_leg : (end : End) (callee d : ServerDialog) → c.call.callee ≡ Some callee → dialog_of end c.call ≡ Some d → IsTagOfStanding c (leg_of (named (dialog_named callee.id)) (is_caller end)).ours
        own_leg Caller callee d some is = inl refl
        own_leg Callee callee d some is = inr (subst (HasLegTag c.callee_tag) some made_tags.leg)

        later_leg : (callee d : ServerDialog) → c.call.callee ≡ Some callee → dialog_of (other n.offerer) c.call ≡ Some d → (y : Dialog) × LegIn (scene answered leg None) (other n.offerer) y × IsTagOfNone old y.ours
        later_leg callee d some is =
            let shows : ShowsLegs c (named (dialog_named callee.id)) = record { caller = refl; callee = subst (λ o. ShowsCallee c.callee_tag o (dialog_named callee.id)) (sym some) refl } in
            let fits = answered_fits laws.reading laws.names s place c n r id x bytes knows tied.waiting there stands to read reaches class d (subst (λ (y : End). dialog_of (other y) c.call ≡ Some d) (sym (ap offerer_of stands)) is) in (
              leg_of (named (dialog_named callee.id)) (is_caller (other n.offerer)),
              leg_in s e (without_offer leg None) c (call_row c.call answered s.calls.pool e.now).description (named (dialog_named callee.id)) (other n.offerer) d (all_at HasSoundLegs s.calls.calls place c knows.dialogs.calls there)
                  (all_at HasNumbersLeft s.calls.calls place c knows.left there) shows fits is,
              of_none (leg_of (named (dialog_named callee.id)) (is_caller (other n.offerer))).ours (own_leg (other n.offerer) callee d some is),
            )

        either_end : (end : End) (callee : ServerDialog) → c.call.callee ≡ Some callee → (d : ServerDialog) × (dialog_of end c.call ≡ Some d)
        either_end Caller callee some = (c.call.caller, refl)
        either_end Callee callee some = (callee, some)

        leg_there : (o : Option ServerDialog) → c.call.callee ≡ o → (y : Dialog) × LegIn (scene answered leg None) (other n.offerer) y × IsTagOfNone old y.ours
        leg_there None none = first_leg (subst (λ o. FitsStage o n) none (all_at HasCallee s.calls.calls place c knows.callees.calls there n stands)).offerer none
        leg_there (Some callee) some = let d = either_end (other n.offerer) callee some in later_leg callee d.0 some d.1

        nothing_open : is_some c.call.media.offer ≡ false
        nothing_open = (all_members (λ (y : StandingCall). IsStaged y.call) s.calls.calls place c before.staged there).offer ∙ (ap (holds_in awaits_answer) stands ∙ ap awaits_answer given_up.1)

        pub hidden_success : GoesOn taken (takes s e entries (reception_of s.table (Kinds.Response r)).send (Some id) place answered leg)
        hidden_success =
            let y = leg_there c.call.callee refl in
            by_response answered signals.UnfitAnswer (Some id) leg (none_fit c.call c.call.media.offer (described r.headers r.body) nothing_open, refl)
            (answer_comes describes names s bytes r id place x before.scenes read to.there (answered_client r.parts x to.answers))
            (λ first idle. hidden_answered t old taken first idle (scene answered leg None) s.tokens n given_up.0 given_up.1 y.0 took_untagged y.1 y.2)

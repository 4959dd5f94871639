-- A request: a call takes it, or the server answers it by itself.
use Rattle.std.proofs.Common.{List, None, Ok, Option, Some, [], ap, codes, refl, subst, true, ℕ, ◌++◌, ◌∙◌, ◌≡◌}
use Rattle.std.specs.Prelude.{slice_get}
use Rattle.events.specs.declared.sent.Sent.{Sent}
use Rattle.sip_message.specs.Read.{message_of}
use Rattle.sip_message.specs.declared.message.Message.TheVariants as Kinds
use Rattle.sip_message.specs.Words.{is_method as is_ack}
use Rattle.transactions.specs.declared.change.Entry.{Entry}
use Rattle.transactions.specs.declared.transaction.Transaction.{Transaction}
use Rattle.call_core.specs.declared.input.Input.TheVariants as inputs
use Rattle.call_steps.specs.Rows.{counts}
use Rattle.calls.specs.declared.standing_call.StandingCall.{StandingCall}
use Rattle.plans.specs.CallRows.{asker, occasion, puts_if, tag_at, takes, takes_request, with_step}
use Rattle.plans.specs.Effect.{Effect}
use Rattle.plans.specs.Office.{Office}
use Rattle.plans.specs.declared.setting.Setting.{Setting}
use Rattle.call_trace.specs.declared.call.Call.{Call}
use Rattle.call_trace.specs.declared.datagram.Datagram.{Datagram}
use Rattle.call_trace.specs.declared.datagram.Message.{Message}
use Rattle.call_trace.specs.Events.{calm, passed, unmoved}
use Rattle.call_trace.specs.Messages.{offering}
use Rattle.call_trace.specs.Moves.{Move}
use Rattle.message_laws.proofs.Traces.Comings.{alone_comes, bye_comes, cancel_comes}
use Rattle.message_laws.specs.Messages.{AreMessages, IsTakenOf}
use Rattle.media_laws.specs.Shows.{ShowsCall}
use Rattle.media_laws.specs.Ties.{AreTied}
use Rattle.media_laws.proofs.Scenes.ReadTexts.{taken_is}
use Rattle.media_laws.specs.Steps.{GoOn, IsAfter, StandsShown}
use Rattle.std.proofs.lemmas.Slice.Eq.{bytes_eq-Decides}
use Rattle.sip_message.specs.declared.message.Request.{Request}
use Rattle.call_media.specs.declared.end.End.{End}
use Rattle.call_rules.specs.Requests.{dialog_rule}
use Rattle.responses.specs.Responding.{stateless}
use Rattle.message_laws.specs.Addresses.{IsSource}
use Rattle.media_laws.proofs.Scenes.Fitting.{counts_fits}
use Rattle.message_laws.specs.Sound.{HasSoundLegs, IsTargetIf}
use Rattle.message_laws.proofs.AwaitedOffers.Awaiting.{all_at}
use Rattle.call_rules.specs.DialogRule.{Leaves}
use Rattle.sdp.specs.declared.description.Description.{Description}
use Rattle.trace_reading.specs.Message.{trace_message}
use Rattle.media_laws.specs.Known.{IsTied}
use Rattle.media_laws.proofs.EventKinds.Laws.{Laws}
use Rattle.media_laws.proofs.EventKinds.HiddenInputs.{hidden_acks, hidden_byes, hidden_cancels}
use Rattle.media_laws.proofs.EventKinds.Puts.{none_goes_on, put_goes_on}
use Rattle.media_laws.proofs.EndTags.RequestSteps.{ack_goes_on, bye_goes_on, cancel_goes_on}
use Rattle.media_laws.proofs.EventKinds.HiddenInputs.{request_calm}
use Rattle.call_trace.specs.Moves.{quiet}
use Rattle.sip_uri.specs.declared.uri.Uri.{Uri}
use Rattle.dialogs.specs.Making.{reached_at}
use Rattle.sip_message.specs.Contact.{contacts_of}
use Rattle.call_rules.specs.DialogRule as rules
use Rattle.call_steps.specs.Rows.{first_row, refreshes}
use Rattle.plans.specs.CallRows.{passes, puts_if}
use Rattle.plans.specs.declared.taken.Taken.TheVariants.{Done}
use Rattle.message_laws.proofs.Messages.RequestViews.{IsCancel, IsFirstInvite, IsPassedOffer, IsRefresh, RequestRow}
use Rattle.message_laws.proofs.Messages.RequestViews as requests
use Rattle.message_laws.proofs.StandingCalls.Reaching.{plain_may_offer, plain_reached}
use Rattle.message_laws.proofs.StandingCalls.Reading.{reached_target}
use Rattle.media_laws.proofs.Scenes.Leaving.{rule_fits}
use Rattle.media_laws.specs.Beginning.{BeginsAt, entries_of}
use Rattle.media_laws.specs.NextTags.{AreNextTagsNew}
use Rattle.media_laws.proofs.EventKinds.Cases.{first_case, later_case}
use Rattle.media_laws.proofs.OfferPairs.First.{first_goes_on}
use Rattle.media_laws.proofs.OfferPairs.FirstSteps.{first_reached}
use Rattle.media_laws.proofs.OfferPairs.Later.{later_goes_on}
use Rattle.media_laws.proofs.EventKinds.CaseMoves.{NoneTakesRequest}
use Rattle.media_laws.proofs.Scenes.Fitting.{counts_fits, refreshes_fits}
use Rattle.media_laws.proofs.EventKinds.CallInputs.{shown, takes_goes, ties}

module _ (laws : Laws) (s after : Office) (begun more : List Transaction) (sent : List Sent) (t : List Datagram) (old : List Call) (k : ℕ) (tied : IsTied s begun sent t old k) (later : IsAfter s after (begun ++ more)) (taken : Option Message) (ms : List Message) (e : Setting) (from : IsSource e.source) (bytes : List ℕ) (r : Request) (read : message_of bytes ≡ Ok (Kinds.Request r)) (id : ℕ) (x : Effect) (took : x.plan.taken ≡ Done → IsTakenOf bytes taken) (are : AreMessages x.plan.sends ms) (calls : after.calls.calls ≡ x.calls.standing.calls) where
  abbrev pub Goes : Type 0
  Goes = GoOn (ShowsCall after.table.slots (begun ++ more) (t ++ passed k taken ms)) after.calls.calls t old taken ms

  abbrev shows : StandsShown s begun t old k
  shows = shown laws s after begun more sent t old k tied later taken ms

  abbrev tie : AreTied s begun sent t old
  tie = ties laws s after begun more sent t old k tied later taken ms

  abbrev own : List Entry
  own = entries_of s e r

  -- a request is calm
  calm_move : IsTakenOf bytes taken → Move offering t old taken [] old
  calm_move is = quiet (unmoved (calm (trace_message bytes (Kinds.Request r)) (taken_is bytes (Kinds.Request r) taken read is) (request_calm bytes r))) tt refl

  -- ---- an end that leaves, or gives up its first offer, or acknowledges

  left_goes : (place : ℕ) (end : End) → dialog_rule s.calls.calls r ≡ Leaves place end → x ≡ takes_request s e r own id place (inputs.Bye end) (counts s.calls.calls place end r.parts.cseq.number) stateless → Goes
  left_goes place end rule is =
      let done = took (ap (λ (y : Effect). y.plan.taken) is) in
      let bye = (rule_fits s.calls.calls r (Leaves place end) rule).1 in
      takes_goes laws s after begun more sent t old k tied later taken ms e place (inputs.Bye end) (counts s.calls.calls place end r.parts.cseq.number) (Some (asker r e id stateless)) (λ c there. bye_comes s e bytes r id place end tied.known.scenes from read bye) (calm_move done)
      (λ c n there stands listed. bye_goes_on laws.reads laws.describes laws.sent laws.keep s after begun more sent t old k shows later tied.known.trace tied.known.again tied.known.legs e from place c n own there stands listed bytes r id taken read done end bye rule x is ms are calls)
      (λ c n there stands unlisted. hidden_byes laws.reads laws.names laws.describes laws.sent laws.keep s after begun more sent t old k shows later tie tied.known.legs e place c n own there stands unlisted bytes r taken read done from id end bye x is ms are calls)
      (subst (λ (y : Effect). AreMessages y.plan.sends ms) is are) (calls ∙ ap (λ (y : Effect). y.calls.standing.calls) is)

  cancelled_goes : (other place : ℕ) → IsCancel s r other → x ≡ takes_request s e r own id place inputs.Cancel None (tag_at (slice_get s.calls.calls place)) → Goes
  cancelled_goes other place why is =
      let done = took (ap (λ (y : Effect). y.plan.taken) is) in
      takes_goes laws s after begun more sent t old k tied later taken ms e place inputs.Cancel None (Some (asker r e id (tag_at (slice_get s.calls.calls place)))) (λ c there. cancel_comes s e bytes r id place tied.known.scenes from read ((bytes_eq-Decides r.method (codes "CANCEL")).0 why.method)) (calm_move done)
      (λ c n there stands listed. cancel_goes_on laws.reads laws.describes laws.sent laws.keep s after begun more sent t old k shows later tied.known.trace tied.known.again tied.known.legs e from place c n own there stands listed bytes r id taken read done why.method x is ms are calls)
      (λ c n there stands unlisted. hidden_cancels laws.reads laws.names laws.describes laws.sent laws.keep s after begun more sent t old k shows later tie tied.known.legs e place c n own there stands unlisted bytes r taken read done from id why.method x is ms are calls)
      (subst (λ (y : Effect). AreMessages y.plan.sends ms) is are) (calls ∙ ap (λ (y : Effect). y.calls.standing.calls) is)

  pub acked_goes : (entries : List Entry) (place : ℕ) → is_ack (codes "ACK") r.parts ≡ true → x ≡ takes s e entries None None place inputs.Ack None → Goes
  acked_goes entries place ack is =
      let done = took (ap (λ (y : Effect). y.plan.taken) is) in
      takes_goes laws s after begun more sent t old k tied later taken ms e place inputs.Ack None None (λ c there. alone_comes inputs.Ack tt refl tt) (calm_move done)
      (λ c n there stands listed. ack_goes_on laws.reads laws.describes laws.sent laws.keep s after begun more sent t old k shows later tied.known.trace tied.known.again tied.known.legs e from place c n entries there stands listed bytes r id taken read done ack x is ms are calls)
      (λ c n there stands unlisted. hidden_acks laws.reads laws.names laws.describes laws.sent laws.keep s after begun more sent t old k shows later tie tied.known.legs e place c n entries there stands unlisted bytes r taken read done x is ms are calls)
      (subst (λ (y : Effect). AreMessages y.plan.sends ms) is are) (calls ∙ ap (λ (y : Effect). y.calls.standing.calls) is)

  -- ---- what the server answers by itself

  stays : Move offering t old taken ms old → after.calls.calls ≡ s.calls.calls → Goes
  stays move same = none_goes_on laws.keep s after begun more t old k shows later taken ms move same

  sound_at : (place : ℕ) (c : StandingCall) → slice_get s.calls.calls place ≡ Some c → HasSoundLegs c
  sound_at place c there = all_at HasSoundLegs s.calls.calls place c tied.known.legs.dialogs.calls there

  counted_goes : (place : ℕ) (end : End) → Move offering t old taken ms old → after.calls.calls ≡ (puts_if s.calls place (counts s.calls.calls place end r.parts.cseq.number)).calls → Goes
  counted_goes place end move put =
      put_goes_on laws.keep s after begun more t old k shows later taken ms move place (counts s.calls.calls place end r.parts.cseq.number) (λ c there. counts_fits s.calls.calls place end r.parts.cseq.number c there (sound_at place c there)) put

  refreshed_goes : (place : ℕ) (end : End) → IsRefresh s r place end → Move offering t old taken ms old → after.calls.calls ≡ (puts_if s.calls place (refreshes s.calls.calls place end r)).calls → Goes
  refreshed_goes place end why move put =
      let target : IsTargetIf (reached_at (contacts_of r.headers)) = reached_target laws.names r.parts r.headers (plain_may_offer bytes s.calls.calls r place end (laws.names.message bytes (Kinds.Request r) read) why.rule why.inside) (plain_reached r end why.call.call why.passes) in
      put_goes_on laws.keep s after begun more t old k shows later taken ms move place (refreshes s.calls.calls place end r) (λ c there. refreshes_fits s.calls.calls place end r c there (sound_at place c there) target) put

  -- ---- all

  module _ (begins : (moment : ℕ) × BeginsAt s after more moment r id x) (new_tags : AreNextTagsNew s t) where
    offered_goes : (to : Uri) (offer : Description) → IsFirstInvite s e.now r to offer → x ≡ with_step s.acks own None None (first_row s.calls (occasion s e) r id e.source to offer) → Goes
    offered_goes to offer why is =
        let done = took (ap (λ (y : Effect). y.plan.taken) is) in
        let p = first_case s e.now r to offer why in
        let found = first_reached laws.one laws.names bytes r s e.now to offer read p in
        first_goes_on laws.reads laws.names laws.describes laws.sent laws.keep s after begun more sent t old k shows later tie tied.answers new_tags e from bytes r id taken read done to found.0 offer p found.1 begins.0 x is begins.1 ms are calls

    passed_goes : (place : ℕ) (end : End) (c : StandingCall) (offer : Description) → dialog_rule s.calls.calls r ≡ rules.Offers place end → IsPassedOffer s e.now r place end c offer → x ≡ passes s e r own id place end offer → Goes
    passed_goes place end c offer rule why is =
        let done = took (ap (λ (y : Effect). y.plan.taken) is) in
        later_goes_on laws.reads laws.names laws.describes laws.sent laws.keep s after begun more sent t old k shows later tie tied.known.legs tied.answers e from bytes r id taken read done place end c offer (later_case s e.now r place end c offer rule why) begins.0 x is begins.1 ms are calls

    pub request_goes : (row : RequestRow s e r own id x) → (NoneTakesRequest s e r own id x row → Move offering t old taken ms old) → Goes
    request_goes (requests.replied reply rule is) alone = stays (alone tt) (calls ∙ ap (λ (y : Effect). y.calls.standing.calls) is)
    request_goes (requests.unfit reason is) alone = stays (alone tt) (calls ∙ ap (λ (y : Effect). y.calls.standing.calls) is)
    request_goes (requests.asks_callee to offer why is) alone = offered_goes to offer why is
    request_goes (requests.cancelled other place why found is) alone = cancelled_goes other place why is
    request_goes (requests.left place end rule is) alone = left_goes place end rule is
    request_goes (requests.counted_alone place end reason why is) alone = counted_goes place end (alone tt) (calls ∙ ap (λ (y : Effect). y.calls.standing.calls) is)
    request_goes (requests.passed_on place end c offer rule why is) alone = passed_goes place end c offer rule why is
    request_goes (requests.refreshed place end why is) alone = refreshed_goes place end why (alone tt) (calls ∙ ap (λ (y : Effect). y.calls.standing.calls) is)

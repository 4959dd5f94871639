-- What each event sends: no 200 to a BYE but those that went before and the one to a BYE that comes in a dialog of a
-- call.
use Rattle.std.proofs.Common.{◌≡◌, ◌∙◌, ℕ, ◌==◌, ◌≤◌, ◌<◌, Bool, true, false, cond, List, [], ◌∷◌, ◌++◌, codes, find, nat_lt, Option, Some, None, Ok, refl, ap, sym, subst, arith}
use Rattle.std.specs.Prelude.{IsTrue, nat_eq, slice_get}
use Rattle.std.specs.Cmp.Lexicographic.{bytes_decides, pointwise}
use Rattle.std.specs.List.{All}
use Rattle.std.proofs.lemmas.Bool.{false≢true, ltb-false, ltb-true}
use Rattle.std.proofs.lemmas.List.Elements.{All-head, All-tail}
use Rattle.events.specs.declared.sent.Sent.{Sent}
use Rattle.sip_message.specs.Read.{message_of}
use Rattle.sip_message.specs.declared.message.Message.{Message as ReadMessage}
use Rattle.sip_message.specs.declared.message.Message.TheVariants as Kinds
use Rattle.sip_message.specs.declared.message.Request.{Request}
use Rattle.sip_message.specs.declared.message.Response.{Response}
use Rattle.transactions.specs.Contents.{reception_of}
use Rattle.transactions.specs.declared.change.Entry.{Entry}
use Rattle.transactions.specs.declared.outcome.Outgoing.{Outgoing}
use Rattle.transactions.specs.declared.outcome.Verdict.{Verdict}
use Rattle.transactions.specs.declared.outcome.Verdict.TheVariants as verdicts
use Rattle.transactions.specs.declared.transaction.Transaction.{Transaction}
use Rattle.call_core.specs.declared.input.Input.{Input}
use Rattle.call_core.specs.declared.input.Input.TheVariants as inputs
use Rattle.call_rules.specs.Content.{described}
use Rattle.call_rules.specs.Speaking.{is_bye}
use Rattle.call_steps.specs.Rows.{answers_leg, counts}
use Rattle.call_steps.specs.Values.{without_offer}
use Rattle.calls.specs.Finding.{place_by_ack}
use Rattle.calls.specs.declared.change.LegDialog.{LegDialog}
use Rattle.plans.specs.CallRows as rows
use Rattle.plans.specs.CallRows.{asker, of_plan, offer_method, okay_plan, tag_at, takes}
use Rattle.plans.specs.Effect.{Effect}
use Rattle.plans.specs.Office.{Office}
use Rattle.plans.specs.Plan.{goes, nothing}
use Rattle.plans.specs.Replies.{refuses_for, reply_row}
use Rattle.plans.specs.declared.acks.KeptAck.{KeptAck}
use Rattle.plans.specs.declared.reason.Reason.{Reason}
use Rattle.plans.specs.declared.rule.Reply.{Reply}
use Rattle.plans.specs.declared.setting.Setting.{Setting}
use Rattle.plans.specs.declared.taken.Taken.TheVariants as takens
use Rattle.responses.specs.Responding.{stateless}
use Rattle.responses.specs.Words.{is_method}
use Rattle.event_rows.specs.Rows.{is_full, received, received_by, request_by, rule_row}
use Rattle.event_rows.specs.Rules.{request_rule}
use Rattle.call_trace.specs.declared.call.Call.{Call}
use Rattle.call_trace.specs.declared.datagram.Datagram.{Datagram}
use Rattle.call_trace.specs.declared.datagram.Message.{Message}
use Rattle.call_trace.specs.Listed.{AllOf}
use Rattle.call_trace.specs.Messages.{offering}
use Rattle.call_trace.specs.Events.{is_plain}
use Rattle.call_trace.proofs.Members.{all_append}
use Rattle.trace_reading.specs.Message.{trace_message}
use Rattle.message_laws.specs.Addresses.{IsSource}
use Rattle.message_laws.specs.Quiet.{IsQuietReply}
use Rattle.message_laws.specs.Sending.{AckWasSent, WasSentIf}
use Rattle.message_laws.proofs.Messages.Answerable.{can_answer}
use Rattle.message_laws.proofs.Askers.AskerRows.{class_by, failure_by}
use Rattle.message_laws.proofs.Askers.LeavingRules.{leaves_by_bye}
use Rattle.message_laws.proofs.Messages.MessageViews.{IsResponseTo, ReceivedRow, acknowledged, begun_by, dropped, moved, received_view, requested, responded}
use Rattle.message_laws.proofs.QuietEvents.QuietRules.{alone_quiet, plain_other}
use Rattle.message_laws.proofs.Messages.ReadParts.{IsStatus, response_status, same_method}
use Rattle.message_laws.proofs.Messages.Repeats.{CanAnswer, FitsReply}
use Rattle.message_laws.proofs.Messages.RequestViews.{RequestRow, alone_fits, asks_callee, by_if, cancelled, counted_alone, left, passed_on, refreshed, replied, request_view, unfit}
use Rattle.message_laws.proofs.Messages.ResponseViews.{ResponseRow, ack_alone, again, answered, fork, provisional, refused, silent as passed_over}
use Rattle.message_laws.proofs.TokenUse.Rows.{answered_client}
use Rattle.message_laws.proofs.Askers.SpokenLines.{FitsInput, is_offer_input}
use Rattle.message_laws.specs.Comings.{CanCome}
use Rattle.message_laws.proofs.Traces.Comings.{alone_comes, answer_comes, bye_comes, cancel_comes}
use Rattle.message_laws.proofs.SentTexts.Registered.{answer_bound}
use Rattle.message_laws.specs.Asked.{KnowsAsked}
use Rattle.message_laws.specs.Messages.{AreMessages, IsMessage}
use Rattle.media_laws.proofs.Scenes.HeardActions.{split}
use Rattle.media_laws.specs.Ties.{AreTied}
use Rattle.media_laws.proofs.Copies.EventMoves.{sends_are_idle}
use Rattle.media_laws.proofs.Scenes.QuietSends.{SaysPlain, all_seen}
use Rattle.media_laws.proofs.Copies.Receptions.{LastGoes, last_sent, request_goes}
use Rattle.media_laws.proofs.Scenes.Replies.{okay_says, refuses_says, reply_says}
use Rattle.media_laws.proofs.EndTags.ByeTags.{IsTagged, all_idle, all_plain}
use Rattle.media_laws.proofs.EndTags.TagSteps.{IsRequestTagged, Laws, before_tagged, bye_tagged, first_tagged, fork_tagged, late_tagged, offers_tagged, silent, takes_tagged}

module _ (laws : Laws) (s : Office) (begun : List Transaction) (sent : List Sent) (t : List Datagram) (ds : List Call) (k : AreTied s begun sent t ds) (asked : KnowsAsked s) (e : Setting) where
  abbrev Tagged : List Message → Type 0
  Tagged ms = AllOf (IsTagged t s.tokens) ms

  -- what an effect sends
  abbrev pub Sends : Effect → Type 0
  Sends x = (ms : List Message) → AreMessages x.plan.sends ms → Tagged ms

  pub none_sent : (ms : List Message) → AreMessages [] ms → Tagged ms
  none_sent ms are = silent laws s begun sent t ds k asked e ms are

  pub plain_sent : (sends : List Sent) → SaysPlain sends → (ms : List Message) → AreMessages sends ms → Tagged ms
  plain_sent sends says ms are = all_plain t s.tokens ms (all_seen laws.reads (λ m. IsTrue (is_plain offering m)) sends ms says are)

  -- ---- what the transactions send

  pub goes_tagged : (send : Option Outgoing) → ((out : Outgoing) → send ≡ Some out → (m : Message) → IsMessage out.bytes m → IsTagged t s.tokens m) → (ms : List Message) → AreMessages (goes send) ms → Tagged ms
  goes_tagged None each ms are = none_sent ms are
  goes_tagged (Some out) each [] are = absurd are
  goes_tagged (Some out) each (m ∷ []) are = (each out refl m are.0, tt)
  goes_tagged (Some out) each (m ∷ n ∷ ms) are = absurd are.1

  pub last_tagged : (out : Outgoing) (m : Message) → LastGoes s.table.slots out → IsMessage out.bytes m → IsTagged t s.tokens m
  last_tagged out m h is = before_tagged laws s begun sent t ds k asked e out.bytes m (subst (WasSentIf sent) h.kept (last_sent sent s.table.slots h.id h.transaction k.again.slots h.stands)) is

  request_sent : (r : Request) (ms : List Message) → AreMessages (goes (reception_of s.table (Kinds.Request r)).send) ms → Tagged ms
  request_sent r ms are = goes_tagged (reception_of s.table (Kinds.Request r)).send (λ out is m message. last_tagged out m (request_goes s.table r out is).goes message) ms are

  response_sent : (text : List ℕ) (r : Response) → message_of text ≡ Ok (Kinds.Response r) → (ms : List Message) → AreMessages (goes (reception_of s.table (Kinds.Response r)).send) ms → Tagged ms
  response_sent text r read ms are =
      all_idle t s.tokens (Some (trace_message text (Kinds.Response r))) ms
      (sends_are_idle laws.reads laws.names s begun sent t ds k text r (Some (trace_message text (Kinds.Response r))) ms read (record { message = Kinds.Response r; reads = laws.names.message text (Kinds.Response r) read; seen = refl }) are)

  -- after them what a call says
  behind_goes : (send : Option Outgoing) (sends : List Sent) → ((ms : List Message) → AreMessages (goes send) ms → Tagged ms) → ((ms : List Message) → AreMessages sends ms → Tagged ms) → (ms : List Message) → AreMessages (goes send ++ sends) ms
      → Tagged ms
  behind_goes send sends first rest ms are =
      let x = split (goes send) sends ms are in
      subst Tagged (sym x.whole) (all_append (IsTagged t s.tokens) x.first x.rest (first x.first x.of_first) (rest x.rest x.of_rest))

  acks_tagged : (id : ℕ) (acks : List KeptAck) → All (AckWasSent sent) acks → (ms : List Message) → AreMessages (rows.again (find (λ (a : KeptAck). a.id == id) acks)) ms → Tagged ms
  acks_tagged id [] all ms are = none_sent ms are
  acks_tagged id (ack ∷ acks) all ms are = found (ack.id == id) (acks_tagged id acks (All-tail (AckWasSent sent) ack acks all) ms) are
    where
      one : (ms : List Message) → AreMessages (ack.sent ∷ []) ms → Tagged ms
      one [] a = absurd a
      one (m ∷ []) a = (before_tagged laws s begun sent t ds k asked e ack.sent.bytes m (All-head (AckWasSent sent) ack acks all) a.0, tt)
      one (m ∷ n ∷ ms) a = absurd a.1

      found : (b : Bool) → (AreMessages (rows.again (find (λ (a : KeptAck). a.id == id) acks)) ms → Tagged ms) → AreMessages (rows.again (cond b (Some ack) (find (λ (a : KeptAck). a.id == id) acks))) ms → Tagged ms
      found true rest a = one ms a
      found false rest a = rest a

  -- a call takes an input that comes alone
  pub takes_sent : (begun_entries : List Entry) (send : Option Outgoing) (id : Option ℕ) (place : ℕ) (input : Input) (leg : Option LegDialog) → ((ms : List Message) → AreMessages (goes send) ms → Tagged ms) → FitsInput input
      → is_offer_input input ≡ false → CanCome input (without_offer leg None) → Sends (takes s e begun_entries send id place input leg)
  takes_sent begun_entries send id place input leg first fits none can ms are =
      behind_goes send _ first (takes_tagged laws s begun sent t ds k asked e place input leg None fits none can tt) ms are

  -- ---- a request that begins transaction id

  module _ (from : IsSource e.source) (text : List ℕ) (r : Request) (read : message_of text ≡ Ok (Kinds.Request r)) (entries : List Entry) (id : ℕ) where
    can : CanAnswer s e r
    can = can_answer text s e r read from k.scenes.few

    says : (reply : Reply) → FitsReply r reply → IsQuietReply r reply → Sends (of_plan s (reply_row s e r entries id reply))
    says reply fits quiet =
        plain_sent (reply_row s e r entries id reply).sends (reply_says s e r entries id reply can k.scenes.askers.least (answer_bound laws.names s e r entries id k.scenes.dialogs.bindings) fits quiet)

    refuses : (reason : Reason) → Sends (of_plan s (refuses_for s e r entries id reason))
    refuses reason = plain_sent (refuses_for s e r entries id reason).sends (refuses_says s e r entries id reason can k.scenes.askers.least)

    no_bye : is_method (codes "INVITE") r ≡ true → is_bye r.parts ≡ false
    no_bye is = ap (λ name. pointwise nat_eq name (codes "BYE")) (same_method text r read ∙ (bytes_decides r.method (codes "INVITE")).0 is)

    cancel_tag : (tag : List ℕ) → r.method ≡ codes "CANCEL" → IsRequestTagged s.tokens (Some (asker r e id tag))
    cancel_tag tag is by = absurd (false≢true (sym (ap (λ name. pointwise nat_eq name (codes "BYE")) (same_method text r read ∙ is)) ∙ by))

    pub case_sent : (x : Effect) → RequestRow s e r entries id x → Sends x
    case_sent x (replied reply rule is) = subst Sends (sym is) (says reply (alone_fits s r e.now reply rule) (alone_quiet s r e.now reply (same_method text r read) rule))
    case_sent x (unfit reason is) = subst Sends (sym is) (refuses reason)
    case_sent x (asks_callee to offer why is) = subst Sends (sym is) (first_tagged laws s begun sent t ds k asked e text r id to offer from read why.bound why.described (no_bye why.invite))
    case_sent x (cancelled other place why found is) =
        let method : r.method ≡ codes "CANCEL" = (bytes_decides r.method (codes "CANCEL")).0 why.method in
        subst Sends (sym is)
        (takes_tagged laws s begun sent t ds k asked e place inputs.Cancel None (Some (asker r e id (tag_at (slice_get s.calls.calls place)))) tt refl (cancel_comes s e text r id place k.scenes from read method) (cancel_tag _ method))
    case_sent x (left place end rule is) =
        let bye = leaves_by_bye s.calls.calls r place end rule in
        subst Sends (sym is)
        (takes_tagged laws s begun sent t ds k asked e place (inputs.Bye end) (counts s.calls.calls place end r.parts.cseq.number) (Some (asker r e id stateless)) tt refl (bye_comes s e text r id place end k.scenes from read bye)
        (bye_tagged laws s begun sent t ds k asked e r id place end rule))
    case_sent x (counted_alone place end reason why is) = subst Sends (sym is) (refuses reason)
    case_sent x (passed_on place end c offer rule why is) = subst Sends (sym is) (offers_tagged laws s begun sent t ds k asked e text r id place end (offer_method r) offer from read why.described rule)
    case_sent x (refreshed place end why is) =
        subst Sends (sym is) (plain_sent (okay_plan s e r entries id).sends (okay_says s e r entries id can k.scenes.askers.server (plain_other s.calls.calls r place end why.rule)))

  -- ---- any request

  ack_by_sent : (entries : List Entry) (place : Option ℕ) → Sends (rows.ack_by s e entries place)
  ack_by_sent entries None = none_sent
  ack_by_sent entries (Some place) = takes_sent entries None None place inputs.Ack None none_sent tt refl (alone_comes inputs.Ack tt refl tt)

  ack_sent : (r : Request) (entries : List Entry) → Sends (rows.ack_row s e r entries)
  unfolding rows.ack_row
  ack_sent r entries = ack_by_sent entries (place_by_ack r.parts s.calls.calls)

  request_by_sent : IsSource e.source → (text : List ℕ) (r : Request) → message_of text ≡ Ok (Kinds.Request r) → (entries : List Entry) (verdict : Verdict) → Sends (request_by s e r entries verdict (reception_of s.table (Kinds.Request r)).send)
  unfolding request_by
  request_by_sent from text r read entries (verdicts.New id) = case_sent from text r read entries id (rule_row s e r entries id (request_rule s r e.now)) (request_view s e r entries id)
  request_by_sent from text r read entries verdicts.Repeat = request_sent r
  request_by_sent from text r read entries verdicts.Swallowed = request_sent r
  request_by_sent from text r read entries (verdicts.Up id) = ack_sent r entries
  request_by_sent from text r read entries verdicts.Stray = ack_sent r entries

  pub request_received : IsSource e.source → (text : List ℕ) (r : Request) → message_of text ≡ Ok (Kinds.Request r) → Sends (received s e (Kinds.Request r))
  unfolding received
  request_received from text r read =
      let m = Kinds.Request r in
      by_if Sends (is_full s e (reception_of s.table m)) (of_plan s (nothing takens.Shed)) (received_by s e m (begun_by s e m) (reception_of s.table m).verdict (reception_of s.table m).send) (λ full. none_sent)
      (λ room. request_by_sent from text r read (begun_by s e m) (reception_of s.table m).verdict)

  -- ---- a response to a request of the server's own

  module _ (text : List ℕ) (r : Response) (read : message_of text ≡ Ok (Kinds.Response r)) where
    abbrev sends_of_it : Option Outgoing
    sends_of_it = (reception_of s.table (Kinds.Response r)).send

    response_row_sent : (entries : List Entry) (id : ℕ) (y : Transaction) (x : Effect) → IsResponseTo s r id y → IsStatus r.status → ResponseRow s e r entries sends_of_it id y x → Sends x
    response_row_sent entries id y x to status_is (passed_over is) = subst Sends (sym is) (response_sent text r read)
    response_row_sent entries id y x to status_is (provisional place status c there opens class at_status is) =
        let low : 100 ≤ status = omega (arith, status_is.low, at_status) in
        let high : status < 200 = omega (arith, at_status, ltb-true r.status 200 (class_by (nat_lt r.status 200) (nat_lt r.status 300) class)) in
        subst Sends (sym is) (takes_sent entries sends_of_it None place (inputs.Provisional status) None (response_sent text r read) (low, high) refl (alone_comes (inputs.Provisional status) (low, high) refl tt))
    response_row_sent entries id y x to status_is (answered place c there opens class is) =
        subst Sends (sym is)
        (takes_sent entries sends_of_it (Some id) place (inputs.Answer (described r.headers r.body)) (answers_leg s.calls.calls place y.parts r) (response_sent text r read) tt refl
        (answer_comes laws.describes laws.names s text r id place y k.scenes read to.there (answered_client r.parts y to.answers)))
    response_row_sent entries id y x to status_is (again place acked is) = subst Sends (sym is) (acks_tagged id s.acks k.again.acks)
    response_row_sent entries id y x to status_is (fork why is) =
        subst Sends (sym is) (behind_goes sends_of_it _ (response_sent text r read) (fork_tagged laws s begun sent t ds k asked e text r id y read to.there (answered_client r.parts y to.answers)))
    response_row_sent entries id y x to status_is (ack_alone is) =
        subst Sends (sym is) (behind_goes sends_of_it _ (response_sent text r read) (late_tagged laws s begun sent t ds k asked e text r id y read to.there (answered_client r.parts y to.answers)))
    response_row_sent entries id y x to status_is (refused place status c there opens class at_status is) =
        let low : 300 ≤ status = omega (arith, at_status, ltb-false r.status 300 (failure_by (nat_lt r.status 200) (nat_lt r.status 300) class)) in
        let high : status ≤ 699 = omega (arith, status_is.high, at_status) in
        subst Sends (sym is) (takes_sent entries sends_of_it None place (inputs.Refusal status) None (response_sent text r read) (low, high) refl (alone_comes (inputs.Refusal status) (low, high) refl tt))

  response_view_sent : (text : List ℕ) (r : Response) (x : Effect) → message_of text ≡ Ok (Kinds.Response r) → ReceivedRow s e (Kinds.Response r) x → Sends x
  response_view_sent text r x read (dropped taken is) = subst Sends (sym is) none_sent
  response_view_sent text r x read (moved is) = subst Sends (sym is) (response_sent text r read)
  response_view_sent text r x read (requested own id is new view) = absurd cc
  response_view_sent text r x read (acknowledged own place is found view) = absurd cc
  response_view_sent text r x read (responded own id y is up to view) =
      let same : message_of text ≡ Ok (Kinds.Response own) = read ∙ ap (λ (m : ReadMessage). Ok m) is in
      response_row_sent text own same (begun_by s e (Kinds.Response r)) id y x to (response_status text own same)
      (subst (λ m. ResponseRow s e own (begun_by s e (Kinds.Response r)) (reception_of s.table m).send id y x) is view)

  pub response_received : (text : List ℕ) (r : Response) → message_of text ≡ Ok (Kinds.Response r) → Sends (received s e (Kinds.Response r))
  response_received text r read = response_view_sent text r (received s e (Kinds.Response r)) read (received_view s e (Kinds.Response r))

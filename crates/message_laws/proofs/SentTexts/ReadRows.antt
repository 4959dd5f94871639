-- Each row of the agent for a message sends what reads back.
use Rattle.std.proofs.Common.{◌≡◌, ◌∙◌, ℕ, List, ◌++◌, codes, nat_lt, Option, Some, None, Ok, refl, ap, sym, subst, arith}
use Rattle.std.specs.Prelude.{slice_get}
use Rattle.std.specs.List.{All}
use Rattle.std.proofs.lemmas.Bool.{ltb-false, ltb-true}
use Rattle.std.proofs.lemmas.List.Elements.{All-append, All-nil}
use Rattle.std.proofs.lemmas.Slice.Eq.{bytes_eq-Decides}
use Rattle.sip_message.specs.Read.{message_of}
use Rattle.sip_message.specs.declared.message.Message.{Message}
use Rattle.sip_message.specs.declared.message.Message.TheVariants as Kinds
use Rattle.sip_message.specs.declared.message.Request.{Request}
use Rattle.sip_message.specs.declared.message.Response.{Response}
use Rattle.responses.specs.Responding.{stateless}
use Rattle.events.specs.declared.sent.Sent.{Sent}
use Rattle.transactions.specs.declared.change.Entry.{Entry}
use Rattle.transactions.specs.declared.outcome.Outgoing.{Outgoing}
use Rattle.transactions.specs.declared.outcome.Verdict.{Verdict}
use Rattle.transactions.specs.declared.outcome.Verdict.TheVariants as verdicts
use Rattle.transactions.specs.declared.transaction.Transaction.{Transaction}
use Rattle.transactions.specs.Contents.{reception_of}
use Rattle.call_core.specs.declared.input.Input.{Input}
use Rattle.call_core.specs.declared.input.Input.TheVariants as inputs
use Rattle.calls.specs.Finding.{place_by_ack}
use Rattle.call_rules.specs.Content.{described}
use Rattle.call_steps.specs.Rows.{answers_leg, counts}
use Rattle.call_steps.specs.Values.{without_offer}
use Rattle.plans.specs.Office.{Office}
use Rattle.plans.specs.declared.setting.Setting.{Setting}
use Rattle.plans.specs.declared.taken.Taken.{Taken}
use Rattle.plans.specs.CallRows as rows
use Rattle.plans.specs.CallRows.{asker, of_plan, offer_method, tag_at, takes}
use Rattle.plans.specs.Effect.{Effect}
use Rattle.plans.specs.Plan.{goes, nothing}
use Rattle.event_rows.specs.Rules.{request_rule}
use Rattle.event_rows.specs.Rows.{is_full, received, received_by, request_by, rule_row}
use Rattle.message_laws.specs.Addresses.{IsSource}
use Rattle.message_laws.proofs.Askers.AskerRows.{class_by, failure_by}
use Rattle.message_laws.proofs.Askers.LeavingRules.{leaves_by_bye}
use Rattle.message_laws.proofs.Messages.MessageViews.{ReceivedRow, acknowledged, begun_by, dropped, moved, received_view, requested, responded}
use Rattle.message_laws.proofs.Messages.ReadParts.{IsStatus, response_status}
use Rattle.message_laws.proofs.Messages.Repeats.{CanAnswer}
use Rattle.message_laws.proofs.Messages.RequestViews.{RequestRow, alone_fits, asks_callee, by_if, cancelled, counted_alone, left, passed_on, refreshed, replied, request_view, unfit}
use Rattle.message_laws.proofs.Messages.ResponseViews.{ResponseRow, ack_alone, again, answered, fork, provisional, refused, silent}
use Rattle.message_laws.proofs.TokenUse.Rows.{answered_client}
use Rattle.message_laws.proofs.Messages.MessageViews.{IsResponseTo}
use Rattle.message_laws.specs.Comings.{CanCome}
use Rattle.message_laws.specs.ReadDatagrams.{IsReadDatagram}
use Rattle.message_laws.proofs.Traces.Comings.{alone_comes, answer_comes, bye_comes, cancel_comes}
use Rattle.message_laws.proofs.SentTexts.ReadReplies.{okay_read, refuses_read, reply_read}
use Rattle.message_laws.proofs.SentTexts.ReadSends.{GoesRead, IsReady, kept_goes, message_goes}
use Rattle.message_laws.proofs.SentTexts.ReadSteps.{Laws, first_reads, fork_reads, late_reads, offers_reads, takes_reads}
use Rattle.message_laws.proofs.SentTexts.Registered.{answer_bound}

-- ---- an effect

abbrev pub SendsRead : Effect → Type 0
SendsRead x = All IsReadDatagram x.plan.sends

-- after what the transactions send
pub step_reads : (send : Option Outgoing) (sends : List Sent) → GoesRead send → All IsReadDatagram sends → All IsReadDatagram (goes send ++ sends)
step_reads send sends own said = All-append IsReadDatagram (goes send) sends own said

nothing_reads : (s : Office) (taken : Taken) → SendsRead (of_plan s (nothing taken))
nothing_reads s taken = All-nil IsReadDatagram

-- an input without an offer, which comes alone
pub takes_alone : (laws : Laws) (s : Office) (e : Setting) → IsReady s → (begun : List Entry) (send : Option Outgoing) (id : Option ℕ) (place : ℕ) (input : Input) → GoesRead send → CanCome input (without_offer None None)
    → SendsRead (takes s e begun send id place input None)
takes_alone laws s e k begun send id place input own can = step_reads send _ own (takes_reads laws s e k place input None None can)

-- ---- a request that begins transaction id

module _ (laws : Laws) (s : Office) (e : Setting) (k : IsReady s) (text : List ℕ) (r : Request) (read : message_of text ≡ Ok (Kinds.Request r)) (from : IsSource e.source) (can : CanAnswer s e r) (begun : List Entry) (id : ℕ) where
  row_reads : (x : Effect) → RequestRow s e r begun id x → SendsRead x
  row_reads x (replied reply rule is) =
      subst SendsRead (sym is) (reply_read s e r begun id reply can k.scenes.askers.least (answer_bound laws.reading s e r begun id k.scenes.dialogs.bindings) (alone_fits s r e.now reply rule))
  row_reads x (unfit reason is) = subst SendsRead (sym is) (refuses_read s e r begun id reason can k.scenes.askers.least)
  row_reads x (asks_callee to offer why is) = subst SendsRead (sym is) (first_reads laws s e k text r id to offer from read why.bound why.described)
  row_reads x (cancelled other place why found is) =
      subst SendsRead (sym is)
      (takes_reads laws s e k place inputs.Cancel None (Some (asker r e id (tag_at (slice_get s.calls.calls place))))
      (cancel_comes s e text r id place k.scenes from read ((bytes_eq-Decides r.method (codes "CANCEL")).0 why.method)))
  row_reads x (left place end rule is) =
      subst SendsRead (sym is)
      (takes_reads laws s e k place (inputs.Bye end) (counts s.calls.calls place end r.parts.cseq.number) (Some (asker r e id stateless)) (bye_comes s e text r id place end k.scenes from read (leaves_by_bye s.calls.calls r place end rule)))
  row_reads x (counted_alone place end reason why is) = subst SendsRead (sym is) (refuses_read s e r begun id reason can k.scenes.askers.least)
  row_reads x (passed_on place end c offer rule why is) = subst SendsRead (sym is) (offers_reads laws s e k text r id place end (offer_method r) offer from read why.described)
  row_reads x (refreshed place end why is) = subst SendsRead (sym is) (okay_read s e r begun id can k.scenes.askers.server)

  pub new_reads : SendsRead (rule_row s e r begun id (request_rule s r e.now))
  new_reads = row_reads (rule_row s e r begun id (request_rule s r e.now)) (request_view s e r begun id)

-- ---- any request

ack_by_reads : (laws : Laws) (s : Office) (e : Setting) → IsReady s → (begun : List Entry) (place : Option ℕ) → SendsRead (rows.ack_by s e begun place)
ack_by_reads laws s e k begun None = All-nil IsReadDatagram
ack_by_reads laws s e k begun (Some place) = takes_alone laws s e k begun None None place inputs.Ack (All-nil IsReadDatagram) (alone_comes inputs.Ack tt refl tt)

ack_reads : (laws : Laws) (s : Office) (e : Setting) → IsReady s → (r : Request) (begun : List Entry) → SendsRead (rows.ack_row s e r begun)
unfolding rows.ack_row
ack_reads laws s e k r begun = ack_by_reads laws s e k begun (place_by_ack r.parts s.calls.calls)

request_reads : (laws : Laws) (s : Office) (e : Setting) → IsReady s → (text : List ℕ) (r : Request) → message_of text ≡ Ok (Kinds.Request r) → IsSource e.source → CanAnswer s e r → (begun : List Entry)
    → (verdict : Verdict) (send : Option Outgoing) → GoesRead send → SendsRead (request_by s e r begun verdict send)
unfolding request_by
request_reads laws s e k text r read from can begun (verdicts.New id) send own = new_reads laws s e k text r read from can begun id
request_reads laws s e k text r read from can begun verdicts.Repeat send own = own
request_reads laws s e k text r read from can begun verdicts.Swallowed send own = own
request_reads laws s e k text r read from can begun (verdicts.Up id) send own = ack_reads laws s e k r begun
request_reads laws s e k text r read from can begun verdicts.Stray send own = ack_reads laws s e k r begun

pub request_received : (laws : Laws) (s : Office) (e : Setting) → IsReady s → (text : List ℕ) (r : Request) → message_of text ≡ Ok (Kinds.Request r) → IsSource e.source → CanAnswer s e r
    → SendsRead (received s e (Kinds.Request r))
unfolding received
request_received laws s e k text r read from can =
    let m = Kinds.Request r in
    by_if SendsRead (is_full s e (reception_of s.table m)) _ (received_by s e m (begun_by s e m) (reception_of s.table m).verdict (reception_of s.table m).send) (λ full. All-nil IsReadDatagram)
    (λ room. request_reads laws s e k text r read from can (begun_by s e m) (reception_of s.table m).verdict (reception_of s.table m).send (message_goes laws.reading s k text m read))

-- ---- a response to a request of the server's own

response_reads : (laws : Laws) (s : Office) (e : Setting) → IsReady s → (text : List ℕ) (r : Response) (begun : List Entry) (send : Option Outgoing) (id : ℕ) (t : Transaction) (x : Effect)
    → message_of text ≡ Ok (Kinds.Response r) → IsResponseTo s r id t → IsStatus r.status → GoesRead send → ResponseRow s e r begun send id t x → SendsRead x
response_reads laws s e k text r begun send id t x read to is own (silent eq) = subst SendsRead (sym eq) own
response_reads laws s e k text r begun send id t x read to is own (provisional place status c there opens class at_status eq) =
    subst SendsRead (sym eq) (takes_alone laws s e k begun send None place (inputs.Provisional status) own
    (alone_comes (inputs.Provisional status) (omega (arith, is.low, at_status), omega (arith, at_status, ltb-true r.status 200 (class_by (nat_lt r.status 200) (nat_lt r.status 300) class))) refl tt))
response_reads laws s e k text r begun send id t x read to is own (answered place c there opens class eq) =
    subst SendsRead (sym eq) (step_reads send _ own (takes_reads laws s e k place (inputs.Answer (described r.headers r.body)) (answers_leg s.calls.calls place t.parts r) None
    (answer_comes laws.describes laws.reading s text r id place t k.scenes read to.there (answered_client r.parts t to.answers))))
response_reads laws s e k text r begun send id t x read to is own (again place acked eq) = subst SendsRead (sym eq) (kept_goes id s.acks k.acks)
response_reads laws s e k text r begun send id t x read to is own (fork why eq) =
    subst SendsRead (sym eq) (step_reads send _ own (fork_reads laws s e k text r id t read to.there (answered_client r.parts t to.answers)))
response_reads laws s e k text r begun send id t x read to is own (ack_alone eq) =
    subst SendsRead (sym eq) (step_reads send _ own (late_reads laws s e k text r id t read to.there (answered_client r.parts t to.answers)))
response_reads laws s e k text r begun send id t x read to is own (refused place status c there opens class at_status eq) =
    subst SendsRead (sym eq) (takes_alone laws s e k begun send None place (inputs.Refusal status) own
    (alone_comes (inputs.Refusal status) (omega (arith, at_status, ltb-false r.status 300 (failure_by (nat_lt r.status 200) (nat_lt r.status 300) class)), omega (arith, is.high, at_status)) refl tt))

response_view_reads : (laws : Laws) (s : Office) (e : Setting) → IsReady s → (text : List ℕ) (r : Response) (x : Effect) → message_of text ≡ Ok (Kinds.Response r) → ReceivedRow s e (Kinds.Response r) x → SendsRead x
response_view_reads laws s e k text r x read (dropped taken is) = subst SendsRead (sym is) (nothing_reads s taken)
response_view_reads laws s e k text r x read (moved is) = subst SendsRead (sym is) (message_goes laws.reading s k text (Kinds.Response r) read)
response_view_reads laws s e k text r x read (requested asked id is new view) = absurd cc
response_view_reads laws s e k text r x read (acknowledged asked place is found view) = absurd cc
response_view_reads laws s e k text r x read (responded own id t is up to view) =
    let same : message_of text ≡ Ok (Kinds.Response own) = read ∙ ap (λ (m : Message). Ok m) is in
    response_reads laws s e k text own (begun_by s e (Kinds.Response r)) _ id t x same to (response_status text own same) (message_goes laws.reading s k text (Kinds.Response r) read) view

pub response_received : (laws : Laws) (s : Office) (e : Setting) → IsReady s → (text : List ℕ) (r : Response) → message_of text ≡ Ok (Kinds.Response r) → SendsRead (received s e (Kinds.Response r))
response_received laws s e k text r read = response_view_reads laws s e k text r (received s e (Kinds.Response r)) read (received_view s e (Kinds.Response r))

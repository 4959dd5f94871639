-- An INVITE or UPDATE inside a dialog that is not a repeat: it is passed on, or gets its final response.
use Rattle.std.proofs.Common.{◌≡◌, ◌∙◌, ℕ, codes, List, Option, Some, None, inl, inr, ◌⊎◌, refl, ap, sym, subst}
use Rattle.std.specs.List.{All}
use Rattle.std.proofs.lemmas.Option.{none-some}
use Rattle.std.proofs.lemmas.Slice.Eq.{bytes_eq-Decides}
use Rattle.sip_uri.specs.declared.uri.Addr.{Addr}
use Rattle.sip_message.specs.declared.message.Message.TheVariants as Kinds
use Rattle.sip_message.specs.declared.message.Request.{Request}
use Rattle.sdp.specs.declared.description.Description.{Description}
use Rattle.events.specs.declared.event.Event.{Event}
use Rattle.events.specs.declared.sent.Sent.{Sent}
use Rattle.call_media.specs.declared.end.End.{End}
use Rattle.call_rules.specs.Content.{described}
use Rattle.call_rules.specs.Requests.{dialog_rule}
use Rattle.call_rules.specs.DialogRule as dialogrules
use Rattle.calls.specs.declared.standing_call.StandingCall.{StandingCall}
use Rattle.plans.specs.CallRows.{passes}
use Rattle.plans.specs.Effect.{Effect}
use Rattle.plans.specs.declared.setting.Setting.{Setting}
use Rattle.event_rows.specs.Rows.{after, row}
use Rattle.event_rows.specs.State.{Contents, after_event, office}
use Rattle.transactions.specs.declared.change.Entry.{Entry}
use Rattle.transactions.specs.declared.transaction.Transaction.{Transaction}
use Rattle.call_trace.specs.declared.call.Call.{Call}
use Rattle.call_trace.specs.declared.datagram.Datagram.{Datagram}
use Rattle.call_trace.specs.declared.datagram.Message.{Message}
use Rattle.call_trace.specs.Listed.{AnyOf}
use Rattle.trace_reading.specs.Message.{trace_message}
use Rattle.message_laws.specs.Addresses.{IsSource}
use Rattle.message_laws.specs.OpenRequests.{HasAsked}
use Rattle.message_laws.proofs.Messages.Answerable.{can_answer}
use Rattle.message_laws.proofs.StandingCalls.Asking.{all_asked}
use Rattle.message_laws.proofs.QuietEvents.Describing.{BodiesDescribe}
use Rattle.message_laws.proofs.TokenUse.Events.{few_tokens}
use Rattle.message_laws.proofs.Messages.ReadBack.{SentIsRead}
use Rattle.message_laws.proofs.StandingCalls.Reading.{Reading as ReadsNames}
use Rattle.message_laws.proofs.Messages.Repeats.{CanAnswer}
use Rattle.message_laws.proofs.Messages.RequestViews.{IsPassedOffer, RequestRow, alone_fits, request_view}
use Rattle.message_laws.proofs.Messages.RequestViews as cases
use Rattle.message_laws.specs.Serving.{KnowsServing}
use Rattle.message_laws.specs.Messages.{AreMessages}
use Rattle.media_laws.specs.Beginning.{entries_of}
use Rattle.media_laws.specs.Standing.{AgentStands}
use Rattle.media_laws.specs.Taking.{KnowsLegs}
use Rattle.media_laws.specs.Ties.{AreTied}
use Rattle.media_laws.proofs.EventKinds.Cases.{later_case}
use Rattle.media_laws.proofs.Scenes.Leaving.{rule_fits}
use Rattle.media_laws.proofs.Scenes.Reading.{Reading}
use Rattle.step_laws.specs.Coming.{BeginsTransaction}
use Rattle.step_laws.specs.Offers.{GoesAcross, GoesBack, IsFinalTo, IsLaterRequest, IsServed, PassedOrAnswered}
use Rattle.step_laws.proofs.ComingRows.{begun_row, setting_of}
use Rattle.step_laws.proofs.FinalReplies.{IsFinalReply, final_back, final_goes, no_other, okay_once, refuses_once, reply_once}
use Rattle.step_laws.proofs.AlikeOffers.{Serves}
use Rattle.step_laws.proofs.Known.{tied_of}
use Rattle.step_laws.proofs.LaterSends.{goes_across, passed_alike, passes_on, passes_row}

final_served : (came : Message) (o : Option Description) (ms : List Message) → AnyOf (IsFinalTo came) ms → PassedOrAnswered came o ms
final_served came None ms h = h
final_served came (Some offer) ms h = inr h

module _ (reads : Reading) (names : ReadsNames) (describes : BodiesDescribe) (law : SentIsRead) (serves : Serves) (s : Contents) (event : Event) (begun : List Transaction) (sent : List Sent) (t : List Datagram) (old : List Call) (serving : KnowsServing (office s)) (tied : AreTied (office s) begun sent t old) (requests : All (HasAsked begun) s.calls.calls) (knows : KnowsLegs (office s)) (source : Addr) (bytes : List ℕ) (r : Request) (id : ℕ) (from : IsSource source) (came : BeginsTransaction s event source bytes r id) (later : IsLaterRequest r) where
  abbrev e : Setting
  e = setting_of s event source

  abbrev entries : List Entry
  entries = entries_of (office s) e r

  can : CanAnswer (office s) e r
  can = can_answer bytes (office s) e r came.comes.read from tied.scenes.few

  abbrev Served : Type 0
  Served = IsServed bytes r (row s event)

  -- ---- the server's own final response

  answered : (x : Effect) → row s event ≡ x → IsFinalReply r.parts source x.plan → Served
  answered x is h = record {
    taken = ap (λ (y : Effect). y.plan.taken) is ∙ h.taken;
    sends = λ ms are. final_served (trace_message bytes (Kinds.Request r)) (described r.headers r.body) ms (final_goes reads bytes r source x.plan h ms (subst (λ (y : Effect). AreMessages y.plan.sends ms) is are));
  }

  -- ---- it is passed on

  passed : (place : ℕ) (end : End) (c : StandingCall) (offer : Description) → dialog_rule s.calls.calls r ≡ dialogrules.Offers place end → IsPassedOffer (office s) e.now r place end c offer
      → row s event ≡ passes (office s) e r entries id place end offer → Served
  unfolding after_event
  passed place end c offer rule why is =
      let p = later_case (office s) e.now r place end c offer rule why in
      let whole = is ∙ passes_row reads names describes law (office s) begun sent t old tied requests knows e from bytes r id came.comes.read later.method place end c offer p in
      let alike = passed_alike reads names describes law (office s) begun sent t old tied requests knows e from bytes r id came.comes.read later.method place end c offer p (office (after s event)) (serves s event serving)
      (ap (λ (y : Effect). y.calls.standing.calls) whole) in
      record {
        taken = ap (λ (y : Effect). y.plan.taken) whole;
        sends = λ ms are.
            subst (λ o. PassedOrAnswered (trace_message bytes (Kinds.Request r)) o ms) (sym why.described)
            (inl (passes_on reads names describes law (office s) begun sent t old tied requests knows e from bytes r id came.comes.read later.method place end c offer p alike ms (subst (λ (y : Effect). AreMessages y.plan.sends ms) whole are)));
      }

  -- ---- by its case

  module _ (P : Effect → Type 0) (back : (x : Effect) → IsFinalReply r.parts source x.plan → P x)
      (passed_as : (place : ℕ) (end : End) (c : StandingCall) (offer : Description) → dialog_rule s.calls.calls r ≡ dialogrules.Offers place end → IsPassedOffer (office s) e.now r place end c offer → P (passes (office s) e r entries id place end offer)) where
    by_case : (x : Effect) → RequestRow (office s) e r entries id x → P x
    by_case x (cases.replied reply rule eq) = subst P (sym eq) (back _ (reply_once (office s) e r entries id can later.method reply tied.scenes.askers.least (alone_fits (office s) r e.now reply rule)))
    by_case x (cases.unfit reason eq) = subst P (sym eq) (back _ (refuses_once (office s) e r entries id can reason tied.scenes.askers.least))
    by_case x (cases.asks_callee to offer why eq) = absurd (none-some later.tag (sym why.no_tag ∙ later.has_tag))
    by_case x (cases.cancelled other place why found eq) = absurd (no_other (office s) e r entries id can later.method (codes "CANCEL") ((bytes_eq-Decides r.method (codes "CANCEL")).0 why.method) refl)
    by_case x (cases.left place end rule eq) =
        let bye = (rule_fits s.calls.calls r (dialogrules.Leaves place end) rule).1 in
        absurd (no_other (office s) e r entries id can later.method (codes "BYE") (sym can.method ∙ (bytes_eq-Decides r.parts.cseq.method (codes "BYE")).0 bye) refl)
    by_case x (cases.counted_alone place end reason why eq) = subst P (sym eq) (back _ (refuses_once (office s) e r entries id can reason tied.scenes.askers.least))
    by_case x (cases.passed_on place end c offer rule why eq) = subst P (sym eq) (passed_as place end c offer rule why)
    by_case x (cases.refreshed place end why eq) = subst P (sym eq) (back _ (okay_once (office s) e r entries id can tied.scenes.askers.server))

    by_rule : P (row s event)
    by_rule = subst P (sym (begun_row s event source bytes r id came)) (by_case _ (request_view (office s) e r entries id))

  pub served : Served
  served =
      by_rule (λ x. row s event ≡ x → Served) (λ x h is. answered x is h) (λ place end c offer rule why is. passed place end c offer rule why is) refl

  -- ---- to whom

  back_to_sender : (x : Effect) → IsFinalReply r.parts source x.plan → GoesBack r source x
  back_to_sender x h = final_back reads r source x h

  pub directed : GoesAcross s.calls.calls r source (row s event) ⊎ GoesBack r source (row s event)
  directed =
      by_rule (λ x. GoesAcross s.calls.calls r source x ⊎ GoesBack r source x) (λ x h. inr (back_to_sender x h))
      (λ place end c offer rule why.
      let p = later_case (office s) e.now r place end c offer rule why in
      let found = (rule_fits s.calls.calls r (dialogrules.Offers place end) rule).0 c p.there in
      inl (subst (GoesAcross s.calls.calls r source) (sym (passes_row reads names describes law (office s) begun sent t old tied requests knows e from bytes r id came.comes.read later.method place end c offer p))
      (goes_across reads names describes law (office s) begun sent t old tied requests knows e from bytes r id came.comes.read later.method place end c offer p
      (record { dialog = found.dialog; with_it = found.has; call_id = found.call_id; ours = found.ours; theirs = found.theirs }))))

pub later_requests : Reading → ReadsNames → BodiesDescribe → SentIsRead → Serves → (s : Contents) (event : Event) (t : List Datagram) (k : ℕ) → AgentStands s t k → (source : Addr) (bytes : List ℕ) (r : Request) (id : ℕ) → IsSource source
    → BeginsTransaction s event source bytes r id → IsLaterRequest r → IsServed bytes r (row s event)
later_requests reads names describes law serves s event t k stands source bytes r id from came later =
    let up = stands.2.1 in
    let known = up.known in
    let tied = tied_of s stands.0 stands.1 t stands.2.0 k up (few_tokens s event came.comes.counts) in
    served reads names describes law serves s event stands.0 stands.1 t stands.2.0 known.serving tied (all_asked s stands.0 known.callees known.requests) (record { dialogs = known.dialogs; callees = known.callees; left = known.left })
    source bytes r id from came later

pub directed_requests : Reading → ReadsNames → BodiesDescribe → SentIsRead → Serves → (s : Contents) (event : Event) (t : List Datagram) (k : ℕ) → AgentStands s t k → (source : Addr) (bytes : List ℕ) (r : Request) (id : ℕ) → IsSource source
    → BeginsTransaction s event source bytes r id → IsLaterRequest r → GoesAcross s.calls.calls r source (row s event) ⊎ GoesBack r source (row s event)
directed_requests reads names describes law serves s event t k stands source bytes r id from came later =
    let up = stands.2.1 in
    let known = up.known in
    let tied = tied_of s stands.0 stands.1 t stands.2.0 k up (few_tokens s event came.comes.counts) in
    directed reads names describes law serves s event stands.0 stands.1 t stands.2.0 known.serving tied (all_asked s stands.0 known.callees known.requests) (record { dialogs = known.dialogs; callees = known.callees; left = known.left })
    source bytes r id from came later

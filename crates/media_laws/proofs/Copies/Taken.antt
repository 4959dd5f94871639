-- What was taken, where it is a response that no call takes: it moves none of the calls of the trace.
use Rattle.std.proofs.Common.{◌≡◌, ◌∙◌, ℕ, Bool, true, false, List, Some, refl, sym, inl, inr}
use Rattle.std.proofs.lemmas.Bool.{false_from_ne_true, false≢true}
use Rattle.events.specs.declared.sent.Sent.{Sent}
use Rattle.sip_message.specs.declared.message.Message.TheVariants as Kinds
use Rattle.sip_message.specs.declared.message.Response.{Response}
use Rattle.sip_message.specs.Words.{tag_text}
use Rattle.transactions.specs.declared.transaction.Transaction.{Transaction}
use Rattle.transactions.specs.Slots.{at, is_answered}
use Rattle.call_rules.specs.Responses.{response_rule}
use Rattle.call_rules.specs.Speaking.{may_offer}
use Rattle.call_trace.specs.declared.call.Call.{Call}
use Rattle.call_trace.specs.declared.datagram.Datagram.{Datagram}
use Rattle.call_trace.specs.declared.datagram.Message.{Message}
use Rattle.call_trace.specs.Events.{IsIdleTaken, IsPartingTaken, answered, calm, swallowed, unmoved}
use Rattle.call_trace.specs.Listed.{AllOf}
use Rattle.call_trace.specs.Messages.{is_final, offering}
use Rattle.call_trace.specs.Stands.{IsTagOf}
use Rattle.trace_reading.specs.Message.{branch_text, trace_message}
use Rattle.plans.specs.Office.{Office}
use Rattle.message_laws.specs.Knowing.{KnowsTokens}
use Rattle.message_laws.specs.Waiting.{IsOffering, KnowsWaiting, waits}
use Rattle.message_laws.proofs.AwaitedOffers.Awaiting.{fits_at}
use Rattle.message_laws.proofs.TokenUse.Rows.{answered_client}
use Rattle.message_laws.specs.KnownTrace.{KnowsTrace}
use Rattle.media_laws.specs.Listing.{Listed}
use Rattle.media_laws.specs.Shows.{ShowsCall}
use Rattle.media_laws.specs.Lateness.{IsLate, IsPassedOver}
use Rattle.media_laws.proofs.Copies.Lateness.{passed_late}
use Rattle.media_laws.proofs.Copies.SeenResponses.{early_calm, other_calm, same_branch, same_from}
use Rattle.media_laws.proofs.Copies.CallTags.{none_tagged}
use Rattle.std.proofs.Common.{subst}

module _ (s : Office) (begun : List Transaction) (sent : List Sent) (t : List Datagram) (ds : List Call) (known : KnowsTrace s begun sent t) where
  -- to a request of the server's own that no longer waits
  pub waits_no_more : (id : ℕ) (x : Transaction) (m : Message) → at s.table.slots id ≡ Some x → IsOffering x → waits x.state ≡ false → m.branch ≡ branch_text x.parts.vias → IsIdleTaken offering t (Some m)
  waits_no_more id x m there offers over same =
      let f = known.answered id x there offers over in
      swallowed m f.0 f.2 f.1 f.3 refl f.4 (f.5.branch ∙ sym same) f.6 f.7

  -- ---- by the current calls

  module _ (listed : Listed (ShowsCall s.table.slots begun t) s.calls.calls ds) (tokens : KnowsTokens s) (waiting : KnowsWaiting s) (bytes : List ℕ) (r : Response) (id : ℕ) (x : Transaction)
      (there : at s.table.slots id ≡ Some x) (answers : is_answered r.parts (Some x) ≡ true) where
    pub none_has : AllOf (λ d. ¬ IsTagOf d (tag_text x.parts.from.params)) ds → (b : Bool) → is_final (trace_message bytes (Kinds.Response r)).kind ≡ b
        → IsPartingTaken offering t (Some (trace_message bytes (Kinds.Response r))) ds
    none_has none true final =
        answered (trace_message bytes (Kinds.Response r)) refl final (subst (λ tag. AllOf (λ d. ¬ IsTagOf d tag) ds) (sym (same_from bytes r x answers)) none)
    none_has none false early = unmoved (calm (trace_message bytes (Kinds.Response r)) refl (early_calm (trace_message bytes (Kinds.Response r)) early))

    late_taken : IsOffering x → IsLate s.calls.calls x.parts → IsPartingTaken offering t (Some (trace_message bytes (Kinds.Response r))) ds
    late_taken offers (inl none) =
        none_has (none_tagged s.tokens (tag_text x.parts.from.params) (ShowsCall s.table.slots begun t) (λ c d h. h.legs) s.calls.calls ds tokens.calls.tags none listed)
        (is_final (trace_message bytes (Kinds.Response r)).kind) refl
    late_taken offers (inr closed) =
        let awaited = fits_at x s.calls.calls closed.place closed.call (waiting.awaited id x there offers) closed.there closed.tag in
        let over : waits x.state ≡ false = false_from_ne_true (waits x.state) (λ w. false≢true (sym closed.closed ∙ awaited.opens w)) in
        unmoved (waits_no_more id x (trace_message bytes (Kinds.Response r)) there offers over (same_branch bytes r x answers))

    passed_by : (b : Bool) → may_offer x.parts ≡ b → IsPassedOver (response_rule s.calls.calls x.parts r) → IsPartingTaken offering t (Some (trace_message bytes (Kinds.Response r))) ds
    passed_by true offers h = late_taken (record { client = answered_client r.parts x answers; offers = offers }) (passed_late s.calls.calls x.parts r offers h)
    passed_by false none h = unmoved (calm (trace_message bytes (Kinds.Response r)) refl (other_calm bytes r x answers none))

    pub passed_over : IsPassedOver (response_rule s.calls.calls x.parts r) → IsPartingTaken offering t (Some (trace_message bytes (Kinds.Response r))) ds
    passed_over h = passed_by (may_offer x.parts) refl h

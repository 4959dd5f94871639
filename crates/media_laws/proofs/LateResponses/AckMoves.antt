-- A 2xx to a later INVITE whose call is gone, and its ACK, move no call of the trace: the dialog has ended (RFC 3261
-- section 13.2.2.4).
use Rattle.std.proofs.Common.{◌≡◌, ℕ, true, false, List, [], ◌∷◌, Option, Some, None, Ok, refl, ap, sym, subst, inl, inr}
use Rattle.std.proofs.lemmas.Bool.{and_parts, or_left}
use Rattle.events.specs.declared.sent.Sent.{Sent}
use Rattle.sip_uri.specs.declared.uri.Uri.{Uri}
use Rattle.sip_message.specs.Contact.{contacts_of, is_success}
use Rattle.sip_message.specs.Read.{message_of}
use Rattle.sip_message.specs.Words.{tag_text}
use Rattle.sip_message.specs.declared.message.Message.TheVariants as Kinds
use Rattle.sip_message.specs.declared.message.Response.{Response}
use Rattle.dialogs.specs.Making.{reached_at}
use Rattle.transactions.specs.Contents.{reception_of}
use Rattle.transactions.specs.Slots.{at, is_answered}
use Rattle.transactions.specs.declared.change.Entry.{Entry}
use Rattle.transactions.specs.declared.transaction.Transaction.{Transaction}
use Rattle.call_rules.specs.Responses.{response_rule}
use Rattle.call_rules.specs.Speaking.{is_invite, is_update, may_offer}
use Rattle.call_rules.specs.declared.responses.ResponseRule.TheVariants.{AckAlone}
use Rattle.call_steps.specs.Rows.{late_by, late_row, later_dialog}
use Rattle.call_trace.specs.declared.call.Call.{Call}
use Rattle.call_trace.specs.declared.datagram.Datagram.{Datagram}
use Rattle.call_trace.specs.declared.datagram.Dialog.{Dialog}
use Rattle.call_trace.specs.declared.datagram.Message.{Message}
use Rattle.call_trace.specs.Calls.{Ended}
use Rattle.call_trace.specs.Events.{IsPartingTaken, acknowledged, before}
use Rattle.call_trace.specs.Listed.{AllOf}
use Rattle.call_trace.specs.Lives.{IsLegOf}
use Rattle.call_trace.specs.Messages.{ack, offering}
use Rattle.call_trace.specs.Moves.{Move, quiet}
use Rattle.call_trace.specs.Stands.{IsTagOf}
use Rattle.call_trace.proofs.Members.{all_at, any_at}
use Rattle.trace_reading.specs.Message.{dialog_named, trace_message}
use Rattle.event_rows.specs.Rows.{is_unreachable_message}
use Rattle.plans.specs.CallRows.{occasion, with_step}
use Rattle.plans.specs.Office.{Office}
use Rattle.plans.specs.declared.setting.Setting.{Setting}
use Rattle.message_laws.proofs.QuietEvents.Describing.{BodiesDescribe}
use Rattle.message_laws.proofs.StandingCalls.Reading.{Reading as ReadsNames}
use Rattle.message_laws.proofs.TokenUse.Rows.{answered_client}
use Rattle.message_laws.proofs.Traces.Comings.{later_can}
use Rattle.message_laws.specs.Messages.{AreMessages, IsTakenOf}
use Rattle.media_laws.specs.Said.{AcksIn}
use Rattle.media_laws.specs.Shows.{ShowsCall}
use Rattle.media_laws.proofs.Scenes.Reading.{Reading}
use Rattle.media_laws.proofs.OfferPairs.SeenWords.{request_of}
use Rattle.media_laws.specs.Late.{IsAnsweredOrEnded, KnowsLate, dialog_asked}
use Rattle.media_laws.specs.Lateness.{IsPassedOver}
use Rattle.media_laws.specs.Ties.{AreTied}
use Rattle.media_laws.proofs.LateResponses.AloneSaid.{ack_said, success_none}
use Rattle.media_laws.proofs.LateResponses.ForkMoves.{acks_dialog, leads_to, none_before}
use Rattle.media_laws.proofs.Scenes.QuietSends.{silent_move}
use Rattle.media_laws.proofs.LateResponses.RuleReasons.{ack_reason}
use Rattle.media_laws.proofs.Copies.CallTags.{none_tagged}
use Rattle.media_laws.proofs.Copies.Taken.{passed_over}
use Rattle.media_laws.proofs.Copies.TransactionMoves.{as_taken}

-- a dialog with a tag of no call has ended
tagless_ended : (t : List Datagram) (ds : List Call) (d : Dialog) → AllOf (λ c. ¬ IsTagOf c d.ours) ds → IsAnsweredOrEnded t ds d → Ended t d
tagless_ended t ds d none (inl q) =
    let f = any_at (IsLegOf d) ds q in
    let tag : IsTagOf f.1 d.ours = elim f.3.leg [ inl e ↦ inl (ap (λ (v : Dialog). v.ours) (sym e)) | inr e ↦ inr (ap (λ (v : Dialog). v.ours) (sym e)) ] in
    absurd (all_at (λ c. ¬ IsTagOf c d.ours) ds f.0 f.1 none f.2 tag)
tagless_ended t ds d none (inr e) = e

module _ (reads : Reading) (names : ReadsNames) (describes : BodiesDescribe) (s : Office) (e : Setting) (begun : List Transaction) (sent : List Sent) (t : List Datagram) (ds : List Call) (k : AreTied s begun sent t ds)
    (late : KnowsLate s begun t ds) (bytes : List ℕ) (r : Response) (read : message_of bytes ≡ Ok (Kinds.Response r)) (id : ℕ) (x : Transaction) (there : at s.table.slots id ≡ Some x)
    (answers : is_answered r.parts (Some x) ≡ true) (rule : response_rule s.calls.calls x.parts r ≡ AckAlone) where
  abbrev came : Option Message
  came = Some (trace_message bytes (Kinds.Response r))

  is_passed : IsPassedOver (response_rule s.calls.calls x.parts r)
  is_passed = subst IsPassedOver (sym rule) tt

  took : IsPartingTaken offering t came ds
  took = passed_over s begun sent t ds k.trace k.listed k.tokens k.waiting bytes r id x there answers is_passed

  accepts : (is_invite x.parts ≡ true) × (is_success r.status ≡ true)
  accepts = and_parts (is_invite x.parts) (is_success r.status) (ack_reason s.calls.calls x.parts r rule).accepts

  has_ended : Ended t (dialog_asked x.parts)
  has_ended =
      let why = ack_reason s.calls.calls x.parts r rule in
      tagless_ended t ds (dialog_asked x.parts)
      (none_tagged s.tokens (tag_text x.parts.from.params) (ShowsCall s.table.slots begun t) (λ c d h. h.legs) s.calls.calls ds k.tokens.calls.tags why.gone k.listed)
      (late.stands id x there (record { client = answered_client r.parts x answers; invite = accepts.0; later = why.later }))

  one_move : (to : Uri) (m : Message) → AcksIn (dialog_named (later_dialog x.parts r to).id) m → Move offering t ds came (m ∷ []) ds
  one_move to m acks =
      quiet took (acknowledged (request_of ack m acks.seen.kind acks.seen.method refl) (before (subst (Ended t) (sym (acks_dialog (dialog_asked x.parts) m acks)) has_ended)), tt) refl

  said_move : is_unreachable_message (Kinds.Response r) ≡ false → (ms : List Message) (to : Option Uri) → reached_at (contacts_of r.headers) ≡ to
      → AreMessages (late_by s.calls (occasion s e) x.parts r to).dressed.sends ms → Move offering t ds came ms ds
  said_move reached ms None at_to are = silent_move t ds came ms took are
  said_move reached ms (Some to) at_to are =
      let leg = later_dialog x.parts r to in
      let offers : may_offer x.parts ≡ true = or_left (is_invite x.parts) (is_update x.parts) accepts.0 in
      let leads = leads_to names r x answers reached accepts.1 offers to at_to in
      let said = ack_said reads describes s e leg k.scenes (later_can names s bytes r id x to k.scenes read there (answered_client r.parts x answers) at_to) leads ms are in
      subst (λ l. Move offering t ds came l ds) (sym said.whole) (one_move to said.ack said.acks)

  pub ack_move : is_unreachable_message (Kinds.Response r) ≡ false → (taken : Option Message) (changes : List Entry) (ms : List Message) → IsTakenOf bytes taken
      → AreMessages (with_step s.acks changes (reception_of s.table (Kinds.Response r)).send None (late_row s.calls (occasion s e) x.parts r)).plan.sends ms → Move offering t ds taken ms ds
  unfolding late_row
  ack_move reached taken changes ms took are =
      as_taken t ds ms bytes (Kinds.Response r) taken read took
      (said_move reached ms (reached_at (contacts_of r.headers)) refl (none_before (reception_of s.table (Kinds.Response r)).send _ ms (success_none s.table r accepts.1) are))

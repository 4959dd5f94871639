-- What the server answers by itself to an INVITE or UPDATE: one final response.
use Rattle.std.proofs.Common.{◌≡◌, ◌∙◌, ℕ, ◌≤◌, ◌<◌, ◌^◌, true, false, nat_le, List, [], ◌∷◌, codes, None, inl, refl, sym, subst, arith}
use Rattle.std.specs.Prelude.{IsTrue}
use Rattle.std.proofs.lemmas.Bool.{false≢true, le-leb}
use Rattle.events.specs.declared.sent.Sent.{Sent}
use Rattle.sip_uri.specs.declared.uri.Addr.{Addr}
use Rattle.sip_writing.specs.Reply.{response_address}
use Rattle.sip_message.specs.declared.headers.Header.{Header}
use Rattle.sip_message.specs.declared.message.Message.TheVariants as Kinds
use Rattle.sip_message.specs.declared.message.Parts.{Parts}
use Rattle.sip_message.specs.declared.message.Request.{Request}
use Rattle.sip_writing.specs.Reply.{replied, reply_of}
use Rattle.sip_writing.specs.Writing.{message_text}
use Rattle.responses.specs.Responding.{responds}
use Rattle.call_messages.specs.Messages.{contact}
use Rattle.transactions.specs.declared.change.Entry.{Entry}
use Rattle.call_rules.specs.Speaking.{may_offer}
use Rattle.plans.specs.CallRows.{okay_plan}
use Rattle.plans.specs.Office.{Office}
use Rattle.plans.specs.Plan.{Plan}
use Rattle.plans.specs.Reasons.{status as status_for}
use Rattle.plans.specs.Replies.{fresh_tag, headers_of, refuses_for, reply_row, responds_in}
use Rattle.plans.specs.declared.reason.Reason.{Reason}
use Rattle.plans.specs.declared.rule.Reply.{Reply}
use Rattle.plans.specs.declared.rule.Reply.TheVariants as replies
use Rattle.plans.specs.declared.setting.Setting.{Setting}
use Rattle.plans.specs.declared.taken.Taken.TheVariants.{Done}
use Rattle.plans.proofs.ReasonLaws.{reason_refuses}
use Rattle.call_trace.specs.declared.datagram.Kind.{Kind}
use Rattle.call_trace.specs.declared.datagram.Message.{Message}
use Rattle.call_trace.specs.Listed.{AnyOf}
use Rattle.call_trace.specs.Messages.{is_final}
use Rattle.trace_reading.specs.Message.{trace_message}
use Rattle.message_laws.specs.Addresses.{IsReached}
use Rattle.message_laws.specs.Seeing.{SeesResponse}
use Rattle.message_laws.proofs.TokenUse.Further.{FollowsIn, contact_follows}
use Rattle.message_laws.proofs.Messages.ReadParts.{IsStatus}
use Rattle.message_laws.proofs.Messages.Repeats.{CanAnswer, FitsReply, fresh_token, headers_follow, refusal_status, responds_written}
use Rattle.message_laws.proofs.QuietEvents.SeenMessages.{response_sees}
use Rattle.message_laws.specs.Said.{IsSaid}
use Rattle.message_laws.specs.Messages.{AreMessages, IsMessage}
use Rattle.media_laws.proofs.Scenes.Leaving.{request_of}
use Rattle.media_laws.proofs.Scenes.Reading.{Reading, message_is}
use Rattle.media_laws.proofs.OfferPairs.SeenWords.{response_replies}
use Rattle.step_laws.specs.Offers.{GoesBack, IsFinalTo}
use Rattle.step_laws.specs.Sending.{AllGo, RespondsTo, responds as responded}
use Rattle.plans.specs.Effect.{Effect}
use Rattle.step_laws.proofs.RefusalLines.{any_reply_tag}

-- ---- one final response to the request of these parts

pub record SeesFinal (parts : Parts) (m : Message) : Type 0 where
  pub status : ℕ
  pub tag : List ℕ
  pub final : 200 ≤ status
  pub seen : SeesResponse parts status tag None m

pub record IsFinalReply (parts : Parts) (source : Addr) (p : Plan) : Type 0 where
  pub taken : p.taken ≡ Done
  pub datagram : Sent
  pub whole : p.sends ≡ datagram ∷ []
  pub address : datagram.to ≡ response_address parts.vias source
  pub said : IsSaid (SeesFinal parts) datagram

final_kind : (status : ℕ) → 200 ≤ status → nat_le 200 status ≡ true
final_kind status high = le-leb 200 status high

-- the request gets it
pub final_goes : Reading → (bytes : List ℕ) (r : Request) (source : Addr) (p : Plan) → IsFinalReply r.parts source p → (ms : List Message) → AreMessages p.sends ms → AnyOf (IsFinalTo (trace_message bytes (Kinds.Request r))) ms
final_goes reads bytes r source p h ms are = by_one ms (subst (λ l. AreMessages l ms) h.whole are)
  where
    by_one : (ms : List Message) → AreMessages (h.datagram ∷ []) ms → AnyOf (IsFinalTo (trace_message bytes (Kinds.Request r))) ms
    by_one [] are = absurd are
    by_one (m ∷ later) are =
        let seen : SeesFinal r.parts m = subst (SeesFinal r.parts) (sym (message_is reads h.datagram.bytes m h.said.0 are.0 h.said.1 h.said.2)) h.said.3 in
        inl (
          subst (λ (k : Kind). IsTrue (is_final k)) (sym seen.seen.kind) (final_kind seen.status seen.final),
          response_replies r.parts seen.status seen.tag None m (trace_message bytes (Kinds.Request r)) (request_of bytes r) seen.seen (any_reply_tag r.parts seen.status seen.tag),
        )

-- which goes back to where that came from
pub final_back : Reading → (r : Request) (source : Addr) (x : Effect) → IsFinalReply r.parts source x.plan → GoesBack r source x
final_back reads r source x h = record {
  status = h.said.3.status;
  final = h.said.3.final;
  sends = record { taken = h.taken; all = λ ms are. subst (λ l. AllGo (responded r.parts source h.said.3.status ∷ []) l ms) (sym h.whole) (by_one ms (subst (λ l. AreMessages l ms) h.whole are)) };
}
  where
    goes : (m : Message) → IsMessage h.datagram.bytes m → RespondsTo r.parts source h.said.3.status h.datagram.to m
    goes m is =
        let seen : SeesResponse r.parts h.said.3.status h.said.3.tag None m =
        subst (SeesResponse r.parts h.said.3.status h.said.3.tag None) (sym (message_is reads h.datagram.bytes m h.said.0 is h.said.1 h.said.2)) h.said.3.seen in
        record {
          address = h.address;
          kind = seen.kind;
          replies = λ came of. response_replies r.parts h.said.3.status h.said.3.tag None m came of seen (any_reply_tag r.parts h.said.3.status h.said.3.tag);
        }

    by_one : (ms : List Message) → AreMessages (h.datagram ∷ []) ms → AllGo (responded r.parts source h.said.3.status ∷ []) (h.datagram ∷ []) ms
    by_one [] are = absurd are
    by_one (m ∷ []) are = (goes m are.0, (refl, refl))
    by_one (m ∷ other ∷ rest) are = absurd are.1

-- ---- the replies

module _ (s : Office) (e : Setting) (r : Request) (begun : List Entry) (id : ℕ) (can : CanAnswer s e r) where
  pub responds_once : (status : ℕ) (further : List Header) → IsStatus status → 200 ≤ status → FollowsIn status r.parts.cseq.method further
      → IsFinalReply r.parts e.source (responds_in s e r begun id status further None)
  unfolding responds reply_of replied
  responds_once status further is final follows =
      let response = Kinds.Response (responds r.parts e.source status (fresh_tag s e) further) in
      record {
        taken = refl;
        datagram = _;
        whole = refl;
        address = refl;
        said = (
          response,
          refl,
          responds_written r.parts e.source status (fresh_tag s e) further [] can.from can.repeats (fresh_token s e can.few) is follows (omega arith),
          record { status = status; tag = fresh_tag s e; final = final; seen = response_sees (message_text response) r.parts e.source status (fresh_tag s e) further },
        );
      }

  pub refuses_once : (reason : Reason) → s.least < 2 ^ 64 → IsFinalReply r.parts e.source (refuses_for s e r begun id reason)
  refuses_once reason small =
      let once = responds_once (status_for reason) (headers_of s r reason) (refusal_status reason) (omega (arith, (reason_refuses reason).0)) (headers_follow s r reason can.refused small) in
      record { taken = once.taken; datagram = once.datagram; whole = once.whole; address = once.address; said = once.said }

  -- the 200 to an UPDATE without an offer
  pub okay_once : IsReached s.server → IsFinalReply r.parts e.source (okay_plan s e r begun id)
  okay_once reached = responds_once 200 (contact s.server ∷ []) (record { low = omega arith; high = omega arith }) (omega arith) (contact_follows s.server 200 r.parts.cseq.method reached)

  module _ (may : may_offer r.parts ≡ true) where
    -- a method by which no end can offer
    pub no_other : (name : List ℕ) → r.method ≡ name → (may_offer (record r.parts { cseq = record r.parts.cseq { method = name } }) ≡ false) → ⊥
    no_other name is none = false≢true (sym none ∙ subst (λ (n : List ℕ). may_offer (record r.parts { cseq = record r.parts.cseq { method = n } }) ≡ true) (can.method ∙ is) may)

    pub reply_once : (reply : Reply) → s.least < 2 ^ 64 → FitsReply r reply → IsFinalReply r.parts e.source (reply_row s e r begun id reply)
    unfolding reply_row
    reply_once (replies.CancelOf other) small fits = absurd (no_other (codes "CANCEL") fits refl)
    reply_once (replies.Refusal reason) small fits = refuses_once reason small
    reply_once replies.MethodsListed small fits = absurd (no_other (codes "OPTIONS") fits refl)
    reply_once replies.Registration small fits = absurd (no_other (codes "REGISTER") fits refl)

-- An answer that is passed on is a move.
use Rattle.std.proofs.Common.{◌≡◌, ◌≢◌, ◌∙◌, ℕ, Bool, true, false, ◌&&◌, is_some, not, List, [], ◌∷◌, Option, Some, None, refl, sym, subst, inl, inr}
use Rattle.std.specs.Prelude.{IsTrue, slice_get, slice_set}
use Rattle.sdp.specs.declared.description.Description.{Description}
use Rattle.call_trace.specs.declared.call.Call.{Call}
use Rattle.call_trace.specs.declared.call.Offer.{Offer}
use Rattle.call_trace.specs.declared.call.Session.{Session}
use Rattle.call_trace.specs.declared.call.Settled.{Settled}
use Rattle.call_trace.specs.declared.call.Stage.TheVariants.{Answered, Asked}
use Rattle.call_trace.specs.declared.datagram.Datagram.{Datagram}
use Rattle.call_trace.specs.declared.datagram.Dialog.{Dialog}
use Rattle.call_trace.specs.declared.datagram.Message.{Message}
use Rattle.call_trace.specs.Listed.{AllOf}
use Rattle.call_trace.specs.Messages.{ack, invite, is_answer, is_method, is_success, offering, update}
use Rattle.call_trace.specs.Moves.{IsAckIn, Move, PassesAnswer, settle_first, settle_later, settled_first, settled_later, tagged}
use Rattle.call_trace.specs.Stands.{leg}
use Rattle.media_laws.specs.Said.{Accepts, Acknowledges, Answers}
use Rattle.media_laws.proofs.OfferPairs.SeenWords.{answer_of, request_dialog, request_of, response_replies}

by_success : (b : Bool) (x : Option Description) (d : Description) → IsTrue b → x ≡ Some d → IsTrue (b && is_some x)
by_success true x d h e = subst (λ v. IsTrue (is_some v)) (sym e) refl
by_success false x d h e = absurd (cc)

pub is_ack : (t : List Datagram) (y : Dialog) (went m : Message) → Acknowledges t y m → m.bytes ≢ went.bytes → IsAckIn t y went m
is_ack t y went m h other = record {
  other_bytes = other;
  ack = request_of ack m h.acks.seen.kind h.acks.seen.method refl;
  in_dialog = request_dialog h.acks.leg h.acks.token h.acks.number ack None m h.acks.seen ∙ h.acks.in_leg;
  unused = h.unused;
}

pub passes_answer : (t : List Datagram) (x y : Dialog) (p : Offer) (s : Session) (came : Message) (acks : List Message) (went : Message) → Accepts p s came → AllOf (IsAckIn t y went) acks → Answers t x p s went
    → p.came.description ≡ Some s.offer_taken → p.went.description ≡ Some s.offer_sent → PassesAnswer t x y p s came acks went
passes_answer t x y p s came acks went a ackd h taken sent = record {
  answer_came = answered came s.answer_taken a.success a.said;
  replies_came = a.replies;
  answer_went = answer_of went s.answer_sent h.seen.kind h.seen.description;
  replies_went = response_replies h.parts 200 h.tag (Some s.answer_sent) went p.came h.asked h.seen h.reply_tag;
  to_tag = h.seen.to_tag ∙ h.ours;
  new_bytes = h.new;
  acknowledged = ackd;
  offer_taken = taken;
  answer_sent = h.seen.description;
  offer_sent = sent;
  answer_taken = a.said;
}
  where
    answered : (m : Message) (d : _) → IsTrue (is_success m.kind) → m.description ≡ Some d → IsTrue (is_answer m)
    answered m d success said = by_success (is_success m.kind) m.description d success said

-- ---- the moves

pub settles_first : (t : List Datagram) (old : List Call) (k : ℕ) (d : Call) (p : Offer) (s : Session) (came acked went : Message) → slice_get old k ≡ Some d → d.stage ≡ Asked → d.offer ≡ Some p → Accepts p s came
    → Acknowledges t (tagged d.callee came.to_tag) acked → acked.bytes ≢ went.bytes → Answers t d.caller p s went → p.came.description ≡ Some s.offer_taken → p.went.description ≡ Some s.offer_sent
    → Move offering t old (Some came) (acked ∷ went ∷ []) (slice_set old k (settled_first d came.to_tag s))
settles_first t old k d p s came acked went there stage open_is a acks other h taken sent =
    settle_first k d p s came acked went there stage open_is
    (passes_answer t d.caller (tagged d.callee came.to_tag) p s came (acked ∷ []) went a (is_ack t (tagged d.callee came.to_tag) went acked acks other, tt) h taken sent) refl refl refl

pub settles_by_invite : (t : List Datagram) (old : List Call) (k : ℕ) (d : Call) (z : Settled) (p : Offer) (s : Session) (came acked went : Message) → slice_get old k ≡ Some d → d.stage ≡ Answered z
    → d.offer ≡ Some p → p.went.method ≡ invite → Accepts p s came → Acknowledges t (leg d (not p.by_caller)) acked → acked.bytes ≢ went.bytes → Answers t (leg d p.by_caller) p s went
    → p.came.description ≡ Some s.offer_taken → p.went.description ≡ Some s.offer_sent → Move offering t old (Some came) (acked ∷ went ∷ []) (slice_set old k (settled_later d p.by_caller s))
settles_by_invite t old k d z p s came acked went there stage open_is method a acks other h taken sent =
    settle_later k d z p s came (acked ∷ []) went there stage open_is
    (passes_answer t (leg d p.by_caller) (leg d (not p.by_caller)) p s came (acked ∷ []) went a (is_ack t (leg d (not p.by_caller)) went acked acks other, tt) h taken sent)
    (inl (subst (λ v. IsTrue (is_method invite v)) (sym method) refl, acked, refl)) refl refl refl

pub settles_by_update : (t : List Datagram) (old : List Call) (k : ℕ) (d : Call) (z : Settled) (p : Offer) (s : Session) (came went : Message) → slice_get old k ≡ Some d → d.stage ≡ Answered z
    → d.offer ≡ Some p → p.went.method ≡ update → Accepts p s came → Answers t (leg d p.by_caller) p s went
    → p.came.description ≡ Some s.offer_taken → p.went.description ≡ Some s.offer_sent → Move offering t old (Some came) (went ∷ []) (slice_set old k (settled_later d p.by_caller s))
settles_by_update t old k d z p s came went there stage open_is method a h taken sent =
    settle_later k d z p s came [] went there stage open_is
    (passes_answer t (leg d p.by_caller) (leg d (not p.by_caller)) p s came [] went a tt h taken sent)
    (inr (subst (λ v. IsTrue (not (is_method invite v))) (sym method) refl, refl)) refl refl refl

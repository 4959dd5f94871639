-- What a move sends with an answer went before, or replies to the open offer of a call.
use Rattle.std.proofs.Common.{◌≡◌, ℕ, List, [], ◌∷◌, ◌++◌, Option, Some, refl, sym, subst, inl, inr}
use Rattle.std.specs.Prelude.{IsTrue, slice_get}
use Rattle.call_trace.specs.declared.call.Call.{Call}
use Rattle.call_trace.specs.declared.call.Offer.{Offer}
use Rattle.call_trace.specs.declared.datagram.Datagram.{Datagram}
use Rattle.call_trace.specs.declared.datagram.Dialog.{Dialog}
use Rattle.call_trace.specs.declared.datagram.Message.{Message}
use Rattle.call_trace.specs.Events.{IsIdle, IsParting, again, acknowledged, branch_acknowledged, bye_answered, bye_sent, idle, is_plain, plain}
use Rattle.call_trace.specs.Listed.{AllOf}
use Rattle.call_trace.specs.Messages.{Replies, ack, bye, is_answer, is_listed, is_method, is_offer, is_request_of, offering}
use Rattle.call_trace.specs.Moves.{IsAckIn, Move, ask, go, part, quiet, release, reoffer, settle_first, settle_later}
use Rattle.call_trace.proofs.Members.{all_append, all_at, all_weaker}
use Rattle.call_trace.proofs.Words.{answer_succeeds, method_is, not_both, offer_asks, plain_answers, request_asks, request_is_no_success, request_of}
use Rattle.media_laws.specs.Answering.{AnswersOffer, IsOfferersTag, answers, was_sent}

-- where it is an answer to an INVITE or UPDATE
abbrev IsSpoken : List Datagram → List Call → Message → Type 0
IsSpoken t old m = IsTrue (is_answer m) → IsTrue (is_listed offering m.method) → AnswersOffer t old m

no_request : (m : Message) (P : Type 0) (name : List ℕ) → IsTrue (is_request_of name m) → IsTrue (is_answer m) → P
no_request m P name h is = absurd (request_is_no_success m.kind (request_of name m h) (answer_succeeds m is))

no_bye : (m : Message) → IsTrue (is_method bye m.method) → IsTrue (is_listed offering m.method) → ⊥
no_bye m is listed = not_both (is_listed offering bye) refl (subst (λ v. IsTrue (is_listed offering v)) (method_is bye m.method is) listed)

module _ (t : List Datagram) (old : List Call) where
  idle_spoken : (taken : Option Message) (m : Message) → IsIdle offering t taken m → IsSpoken t old m
  idle_spoken taken m (plain h) is listed = absurd (plain_answers offering m h is listed)
  idle_spoken taken m (branch_acknowledged k q h at out inv same) is listed = no_request m (AnswersOffer t old m) ack h is
  idle_spoken taken m (again k q at out same h) is listed = was_sent k q at out same

  parting_spoken : (taken : Option Message) (sent : List Message) (left : List Call) (m : Message) → IsParting offering t taken sent left m → IsSpoken t old m
  parting_spoken taken sent left m (idle h) is listed = idle_spoken taken m h is listed
  parting_spoken taken sent left m (bye_sent h spares) is listed = no_request m (AnswersOffer t old m) bye h is
  parting_spoken taken sent left m (bye_answered ok by none) is listed = absurd (no_bye m by listed)
  parting_spoken taken sent left m (acknowledged h ends) is listed = no_request m (AnswersOffer t old m) ack h is

  all_parting : (taken : Option Message) (sent : List Message) (left : List Call) → AllOf (IsParting offering t taken sent left) sent → AllOf (IsSpoken t old) sent
  all_parting taken sent left all = all_weaker (IsParting offering t taken sent left) (IsSpoken t old) (λ m. parting_spoken taken sent left m) sent all

  asking_spoken : (taken : Option Message) (before : List Message) (went : Message) → AllOf (λ m. IsTrue (is_plain offering m)) before → IsTrue (is_offer offering went) → AllOf (IsSpoken t old) (before ++ went ∷ [])
  asking_spoken taken before went plains offers =
      all_append (IsSpoken t old) before (went ∷ []) (all_weaker (λ m. IsTrue (is_plain offering m)) (IsSpoken t old) (λ m h. idle_spoken taken m (plain h)) before plains)
      ((λ is listed. absurd (request_is_no_success went.kind (request_asks offering went (offer_asks offering went offers)) (answer_succeeds went is))), tt)

  answer_spoken : (k : ℕ) (d : Call) (p : Offer) (y : Dialog) (acks : List Message) (went : Message) → slice_get old k ≡ Some d → d.offer ≡ Some p → Replies went p.came → IsOfferersTag d p went.to_tag
      → AllOf (IsAckIn t y went) acks → AllOf (IsSpoken t old) (acks ++ went ∷ [])
  answer_spoken k d p y acks went there opens replies tag all =
      all_append (IsSpoken t old) acks (went ∷ []) (all_weaker (IsAckIn t y went) (IsSpoken t old) (λ m h is listed. no_request m (AnswersOffer t old m) ack h.ack is) acks all)
      ((λ is listed. answers k d p (record { there = there; opens = opens; replies = replies; tag = tag })), tt)

  said_by : (taken : Option Message) (sent : List Message) (new : List Call) → Move offering t old taken sent new → AllOf (IsSpoken t old) sent
  said_by taken sent new (quiet took all same) = all_parting taken sent old all
  said_by taken sent new (ask caller callee came before went passes fresh took whole same) = subst (AllOf (IsSpoken t old)) (sym whole) (asking_spoken taken before went passes.plain passes.offer_went)
  said_by taken sent new (reoffer k c z b came before went there stage none passes to took whole same) =
      subst (AllOf (IsSpoken t old)) (sym whole) (asking_spoken taken before went passes.plain passes.offer_went)
  said_by taken sent new (settle_first k c p s came acked went there stage open_is passes took whole same) =
      subst (AllOf (IsSpoken t old)) (sym whole) (answer_spoken k c p _ (acked ∷ []) went there open_is passes.replies_went (inr (stage, passes.to_tag)) passes.acknowledged)
  said_by taken sent new (settle_later k c z p s came acks went there stage open_is passes acked took whole same) =
      subst (AllOf (IsSpoken t old)) (sym whole) (answer_spoken k c p _ acks went there open_is passes.replies_went (inl passes.to_tag) passes.acknowledged)
  said_by taken sent new (release k c z p came there stage open_is final refuses replies took all same) = all_weaker (IsIdle offering t taken) (IsSpoken t old) (λ m. idle_spoken taken m) sent all
  said_by taken sent new (part k c z b there stage ends took all same) = all_parting taken sent _ all
  said_by taken sent new (go k c there ends took all same) = all_parting taken sent _ all

pub move_answers : (t : List Datagram) (old : List Call) (taken : Option Message) (sent : List Message) (new : List Call) → Move offering t old taken sent new → (i : ℕ) (m : Message) → slice_get sent i ≡ Some m
    → IsTrue (is_answer m) → IsTrue (is_listed offering m.method) → AnswersOffer t old m
move_answers t old taken sent new move i m there = all_at (IsSpoken t old) sent i m (said_by t old taken sent new move) there

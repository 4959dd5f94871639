-- A move answers no offer that is open afterwards.
use Rattle.std.proofs.Common.{◌≡◌, ◌∙◌, ℕ, Bool, true, false, List, [], ◌∷◌, ◌++◌, Option, Some, None, ap, sym, subst, refl, inl, inr}
use Rattle.std.specs.Prelude.{IsTrue, remove, slice_get, slice_set}
use Rattle.std.proofs.lemmas.Option.{none-some}
use Rattle.call_trace.specs.declared.call.Call.{Call}
use Rattle.call_trace.specs.declared.call.Offer.{Offer}
use Rattle.call_trace.specs.declared.call.Session.{Session}
use Rattle.call_trace.specs.declared.datagram.Datagram.{Datagram}
use Rattle.call_trace.specs.declared.datagram.Dialog.{Dialog}
use Rattle.call_trace.specs.declared.datagram.Direction.TheVariants.{Sent}
use Rattle.call_trace.specs.declared.datagram.Message.{Message}
use Rattle.call_trace.specs.Events.{IsIdle, IsParting, again, acknowledged, branch_acknowledged, bye_answered, bye_sent, idle, is_plain, passed, plain}
use Rattle.call_trace.specs.Exchanges.{At}
use Rattle.call_trace.specs.Listed.{AllOf, AnyOf}
use Rattle.call_trace.specs.Messages.{ack, bye, is_answer, is_listed, is_method, is_offer, is_request_of, offering}
use Rattle.call_trace.specs.Moves.{IsAckIn, Move, ask, ending, go, part, quiet, release, reoffer, settle_first, settle_later, settled_first, settled_later}
use Rattle.call_trace.specs.Stands.{AllApart, IsTagOf, leg}
use Rattle.call_trace.proofs.Apart.{apart_same}
use Rattle.call_trace.proofs.AtLaws.{at_split}
use Rattle.call_trace.proofs.Members.{all_append, all_at, all_weaker, any_at, any_new}
use Rattle.call_trace.proofs.OneEvent.{sent_part}
use Rattle.call_trace.proofs.Words.{answer_succeeds, method_is, not_both, offer_asks, plain_answers, request_asks, request_is_no_success, request_of}
use Rattle.media_laws.specs.Shows.{IsUnanswered}

-- ---- the answers among what is sent

-- it went before, or a call whose offer it settles has its To tag
data AnswersOne (t : List Datagram) (new : List Call) (m : Message) : Type 0 where
  was_sent : (k : ℕ) (q : Datagram) → At t k q → q.direction ≡ Sent → q.message ≡ m → AnswersOne t new m
  settles : AnyOf (λ c. (c.offer ≡ None) × IsTagOf c m.to_tag) new → AnswersOne t new m

-- where it is an answer to an INVITE or UPDATE
abbrev IsSpoken : List Datagram → List Call → Message → Type 0
IsSpoken t new m = IsTrue (is_answer m) → IsTrue (is_listed offering m.method) → AnswersOne t new m

no_request : (m : Message) (P : Type 0) (name : List ℕ) → IsTrue (is_request_of name m) → IsTrue (is_answer m) → P
no_request m P name h answers = absurd (request_is_no_success m.kind (request_of name m h) (answer_succeeds m answers))

idle_spoken : (t : List Datagram) (new : List Call) (taken : Option Message) (m : Message) → IsIdle offering t taken m → IsSpoken t new m
idle_spoken t new taken m is answers listed =
    elim is [
      | plain h ↦ absurd (plain_answers offering m h answers listed)
      | branch_acknowledged k q h at out inv same ↦ no_request m (AnswersOne t new m) ack h answers
      | again k q at out same h ↦ was_sent k q at out same
    ]

no_bye : (m : Message) → IsTrue (is_method bye m.method) → IsTrue (is_listed offering m.method) → ⊥
no_bye m is listed = not_both (is_listed offering bye) refl (subst (λ v. IsTrue (is_listed offering v)) (method_is bye m.method is) listed)

parting_spoken : (t : List Datagram) (new : List Call) (taken : Option Message) (sent : List Message) (left : List Call) (m : Message) → IsParting offering t taken sent left m → IsSpoken t new m
parting_spoken t new taken sent left m is answers listed =
    elim is [
      | idle h ↦ idle_spoken t new taken m h answers listed
      | bye_sent h spares ↦ no_request m (AnswersOne t new m) bye h answers
      | bye_answered ok by none ↦ absurd (no_bye m by listed)
      | acknowledged h ends ↦ no_request m (AnswersOne t new m) ack h answers
    ]

-- ---- the moves

asking_spoken : (t : List Datagram) (new : List Call) (taken : Option Message) (before : List Message) (went : Message) → AllOf (λ m. IsTrue (is_plain offering m)) before → IsTrue (is_offer offering went)
    → AllOf (IsSpoken t new) (before ++ went ∷ [])
asking_spoken t new taken before went plains offers =
    all_append (IsSpoken t new) before (went ∷ []) (all_weaker (λ m. IsTrue (is_plain offering m)) (IsSpoken t new) (λ m h. idle_spoken t new taken m (plain h)) before plains)
    ((λ answers listed. absurd (request_is_no_success went.kind (request_asks offering went (offer_asks offering went offers)) (answer_succeeds went answers))), tt)

acks_spoken : (t : List Datagram) (new : List Call) (y : Dialog) (went : Message) (acks : List Message) → AllOf (IsAckIn t y went) acks → AllOf (IsSpoken t new) acks
acks_spoken t new y went acks all = all_weaker (IsAckIn t y went) (IsSpoken t new) (λ m h answers listed. no_request m (AnswersOne t new m) ack h.ack answers) acks all

pub leg_tag : (c : Call) (b : Bool) (tag : List ℕ) → tag ≡ (leg c b).ours → IsTagOf c tag
leg_tag c true tag e = inl e
leg_tag c false tag e = inr e

answer_spoken : (t : List Datagram) (old : List Call) (k : ℕ) (d new : Call) (b : Bool) (acks : List Message) (went : Message) → slice_get old k ≡ Some d → new.offer ≡ None → went.to_tag ≡ (leg new b).ours
    → AllOf (IsSpoken t (slice_set old k new)) acks → AllOf (IsSpoken t (slice_set old k new)) (acks ++ went ∷ [])
answer_spoken t old k d new b acks went there none tag all =
    all_append (IsSpoken t (slice_set old k new)) acks (went ∷ []) all
    ((λ answers listed. settles (any_new (λ c. (c.offer ≡ None) × IsTagOf c went.to_tag) old k d new there (none, leg_tag new b went.to_tag tag))), tt)

later_leg : (c : Call) (b by_caller : Bool) (s : Session) → (leg (settled_later c by_caller s) b).ours ≡ (leg c b).ours
later_leg c true by_caller s = refl
later_leg c false by_caller s = refl

said_by : (t : List Datagram) (old : List Call) (taken : Option Message) (sent : List Message) (new : List Call) → Move offering t old taken sent new → AllOf (IsSpoken t new) sent
said_by t old taken sent new move =
    elim move [
      | quiet took all same ↦ all_weaker (IsParting offering t taken sent old) (IsSpoken t new) (λ m. parting_spoken t new taken sent old m) sent all
      | ask caller callee came before went passes fresh took whole same ↦
          subst (AllOf (IsSpoken t new)) (sym whole) (asking_spoken t new taken before went passes.plain passes.offer_went)
      | reoffer k c z b came before went there stage none passes to took whole same ↦
          subst (AllOf (IsSpoken t new)) (sym whole) (asking_spoken t new taken before went passes.plain passes.offer_went)
      | settle_first k c p s came acked went there stage open_is passes took whole same ↦
          subst (AllOf (IsSpoken t new)) (sym whole) (subst (λ l. AllOf (IsSpoken t l) (acked ∷ went ∷ [])) (sym same)
          (answer_spoken t old k c (settled_first c came.to_tag s) true (acked ∷ []) went there refl passes.to_tag (acks_spoken t (slice_set old k (settled_first c came.to_tag s)) _ went (acked ∷ []) passes.acknowledged)))
      | settle_later k c z p s came acks went there stage open_is passes acked took whole same ↦
          subst (AllOf (IsSpoken t new)) (sym whole) (subst (λ l. AllOf (IsSpoken t l) (acks ++ went ∷ [])) (sym same)
          (answer_spoken t old k c (settled_later c p.by_caller s) p.by_caller acks went there refl (passes.to_tag ∙ sym (later_leg c p.by_caller p.by_caller s))
          (acks_spoken t (slice_set old k (settled_later c p.by_caller s)) _ went acks passes.acknowledged)))
      | release k c z p came there stage open_is final refuses replies took all same ↦ all_weaker (IsIdle offering t taken) (IsSpoken t new) (λ m. idle_spoken t new taken m) sent all
      | part k c z b there stage ends took all same ↦ all_weaker (IsParting offering t taken sent (slice_set old k (ending c b))) (IsSpoken t new) (λ m. parting_spoken t new taken sent _ m) sent all
      | go k c there ends took all same ↦ all_weaker (IsParting offering t taken sent (remove old k)) (IsSpoken t new) (λ m. parting_spoken t new taken sent _ m) sent all
    ]

-- ---- an offer that is open afterwards

open_unanswered : (t : List Datagram) (new : List Call) (j : ℕ) (d : Call) (p : Offer) (tag : List ℕ) (number : ℕ) (m : Message) → AllApart new → slice_get new j ≡ Some d → d.offer ≡ Some p → IsTagOf d tag
    → IsUnanswered t tag number → AnswersOne t new m → IsTrue (is_answer m) → IsTrue (is_listed offering m.method) → m.to_tag ≡ tag → m.number ≡ number → ⊥
open_unanswered t new j d p tag number m apart there open_is of none is answers listed to_tag numbered =
    elim is [
      | was_sent k q at out same ↦ none k q at out (subst (λ (v : Message). IsTrue (is_answer v)) (sym same) answers) (subst (λ (v : Message). IsTrue (is_listed offering v.method)) (sym same) listed)
          (ap (λ (v : Message). v.to_tag) same ∙ to_tag) (ap (λ (v : Message). v.number) same ∙ numbered)
      | settles any ↦ (let found = any_at (λ c. (c.offer ≡ None) × IsTagOf c m.to_tag) new any in
          let one : found.1 ≡ d = apart_same new found.0 j found.1 d tag apart found.2 there (subst (IsTagOf found.1) to_tag found.3.1) of in
          none-some p (sym found.3.0 ∙ ap (λ (c : Call). c.offer) one ∙ open_is))
    ]

-- what answers it neither was in the trace nor is sent now
pub stays_unanswered : (n : ℕ) (t : List Datagram) (old : List Call) (taken : Option Message) (sent : List Message) (new : List Call) → Move offering t old taken sent new → AllApart new
    → (j : ℕ) (d : Call) (p : Offer) → slice_get new j ≡ Some d → d.offer ≡ Some p → (tag : List ℕ) (number : ℕ) → IsTagOf d tag → IsUnanswered t tag number → IsUnanswered (t ++ passed n taken sent) tag number
stays_unanswered n t old taken sent new move apart j d p there open_is tag number of none = λ i q at out answers listed to_tag. elim (at_split t (passed n taken sent) i q at) [
  | inl a ↦ none i q a out answers listed to_tag
  | inr b ↦ (let went = sent_part n taken sent b.0 q b.2 out in
      let is : q.message ≡ went.1 = ap (λ (v : Datagram). v.message) went.4 in
      λ numbered. open_unanswered t new j d p tag number went.1 apart there open_is of none
      (all_at (IsSpoken t new) sent went.0 went.1 (said_by t old taken sent new move) went.2 (subst (λ (v : Message). IsTrue (is_answer v)) is answers) (subst (λ (v : Message). IsTrue (is_listed offering v.method)) is listed))
      (subst (λ (v : Message). IsTrue (is_answer v)) is answers) (subst (λ (v : Message). IsTrue (is_listed offering v.method)) is listed)
      (ap (λ (v : Message). v.to_tag) (sym is) ∙ to_tag) (ap (λ (v : Message). v.number) (sym is) ∙ numbered))
]

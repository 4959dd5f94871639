-- Of the INVITEs and UPDATEs that a move sends each went before, or carries the open offer that a call has afterwards.
use Rattle.std.proofs.Common.{◌≡◌, ◌≢◌, ◌∙◌, ℕ, Bool, true, false, not, List, [], ◌∷◌, ◌++◌, Option, Some, ap, refl, sym, subst, inl, inr}
use Rattle.std.specs.Prelude.{IsTrue, remove, slice_set}
use Rattle.call_trace.specs.declared.call.Call.{Call}
use Rattle.call_trace.specs.declared.call.Offer.{Offer}
use Rattle.call_trace.specs.declared.call.Stage.TheVariants.{Asked}
use Rattle.call_trace.specs.declared.datagram.Datagram.{Datagram}
use Rattle.call_trace.specs.declared.datagram.Dialog.{Dialog}
use Rattle.call_trace.specs.declared.datagram.Message.{Message}
use Rattle.call_trace.specs.Events.{IsIdle, IsParting, acknowledged, again, branch_acknowledged, bye_answered, bye_sent, idle, is_plain, passed, plain}
use Rattle.call_trace.specs.Listed.{AllOf, AnyOf}
use Rattle.call_trace.specs.Messages.{ack, asks, bye, offering}
use Rattle.call_trace.specs.Moves.{IsAckIn, Move, PassesOffer, ask, ending, go, new_call, part, quiet, release, reoffer, reoffered, settle_first, settle_later}
use Rattle.call_trace.specs.Stands.{AsksAt, leg}
use Rattle.call_trace.proofs.AtLaws.{at_split}
use Rattle.call_trace.proofs.Members.{all_append, all_at, all_weaker, any_new}
use Rattle.call_trace.proofs.OneEvent.{sent_part}
use Rattle.call_trace.proofs.Words.{answer_succeeds, ok_is_success, other_asks, plain_asks, request_asks, request_is_no_success}

-- ---- the requests among what is sent

-- the dialog that a request of the server's own names
abbrev pub dialog_asked_in : Message → Dialog
dialog_asked_in m = record { call_id = m.call_id; ours = m.from_tag; theirs = m.to_tag }

-- it is the first INVITE of a call, without a tag in To; or one in a leg of a call that was answered
pub data IsAskedIn (d : Call) (m : Message) : Type 0 where
  first : d.stage ≡ Asked → m.to_tag ≡ [] → IsAskedIn d m
  later : (b : Bool) → d.stage ≢ Asked → dialog_asked_in m ≡ leg d b → IsAskedIn d m

-- it carries the open offer of the call
pub record WentFor (m : Message) (d : Call) : Type 0 where
  pub offer : Offer
  pub open_is : d.offer ≡ Some offer
  pub went : offer.went ≡ m
  pub place : IsAskedIn d m

-- it went before, or it carries the open offer of a call
pub data AsksOne (t : List Datagram) (new : List Call) (m : Message) : Type 0 where
  was_asked : (k : ℕ) (q : Datagram) → AsksAt offering t k q → q.message ≡ m → AsksOne t new m
  went_for : AnyOf (WentFor m) new → AsksOne t new m

-- where it is an INVITE or UPDATE
abbrev pub AsksOneIf : List Datagram → List Call → Message → Type 0
AsksOneIf t new m = IsTrue (asks offering m) → AsksOne t new m

idle_asked : (t : List Datagram) (new : List Call) (taken : Option Message) (m : Message) → IsIdle offering t taken m → AsksOneIf t new m
idle_asked t new taken m is h =
    elim is [
      | plain p ↦ absurd (plain_asks offering m p h)
      | branch_acknowledged k q a at out inv same ↦ absurd (other_asks offering ack m refl a h)
      | again k q at out same none ↦ was_asked k q (record { at = at; sent = out; asks = subst (λ (v : Message). IsTrue (asks offering v)) (sym same) h }) same
    ]

parting_asked : (t : List Datagram) (new : List Call) (taken : Option Message) (sent : List Message) (left : List Call) (m : Message) → IsParting offering t taken sent left m → AsksOneIf t new m
parting_asked t new taken sent left m is h =
    elim is [
      | idle i ↦ idle_asked t new taken m i h
      | bye_sent b spares ↦ absurd (other_asks offering bye m refl b h)
      | bye_answered ok by none ↦ absurd (request_is_no_success m.kind (request_asks offering m h) (ok_is_success m.kind ok))
      | acknowledged a ends ↦ absurd (other_asks offering ack m refl a h)
    ]

all_parting : (t : List Datagram) (new : List Call) (taken : Option Message) (sent : List Message) (left : List Call) → AllOf (IsParting offering t taken sent left) sent → AllOf (AsksOneIf t new) sent
all_parting t new taken sent left all = all_weaker (IsParting offering t taken sent left) (AsksOneIf t new) (λ m. parting_asked t new taken sent left m) sent all

passing_asked : (t : List Datagram) (new : List Call) (taken : Option Message) (before : List Message) (went : Message) → AllOf (λ m. IsTrue (is_plain offering m)) before → AnyOf (WentFor went) new
    → AllOf (AsksOneIf t new) (before ++ went ∷ [])
passing_asked t new taken before went plains any =
    all_append (AsksOneIf t new) before (went ∷ []) (all_weaker (λ m. IsTrue (is_plain offering m)) (AsksOneIf t new) (λ m h. idle_asked t new taken m (plain h)) before plains)
    ((λ h. went_for any), tt)

no_answer : (t : List Datagram) (new : List Call) (went : Message) (y : Dialog) (acks : List Message) → AllOf (IsAckIn t y went) acks → ((h : IsTrue (asks offering went)) → ⊥) → AllOf (AsksOneIf t new) (acks ++ went ∷ [])
no_answer t new went y acks all none =
    all_append (AsksOneIf t new) acks (went ∷ []) (all_weaker (IsAckIn t y went) (AsksOneIf t new) (λ m a h. absurd (other_asks offering ack m refl a.ack h)) acks all) ((λ h. absurd (none h)), tt)

-- ---- the moves

any_last : {X : Type 0} (P : X → Type 0) (xs : List X) (x : X) → P x → AnyOf P (xs ++ x ∷ [])
any_last P [] x h = inl h
any_last P (y ∷ xs) x h = inr (any_last P xs x h)

abbrev pub dialog_with : List ℕ → List ℕ → List ℕ → Dialog
dialog_with call_id ours theirs = record { call_id = call_id; ours = ours; theirs = theirs }

pub same_dialog : (a b c x y z : List ℕ) → a ≡ x → b ≡ y → c ≡ z → dialog_with a b c ≡ dialog_with x y z
same_dialog a b c x y z e f g = cc

dialog_is : (m : Message) (d : Dialog) → m.call_id ≡ d.call_id → m.from_tag ≡ d.ours → m.to_tag ≡ d.theirs → dialog_asked_in m ≡ d
dialog_is m d call from to = same_dialog m.call_id m.from_tag m.to_tag d.call_id d.ours d.theirs call from to

new_went_for : (caller callee : Dialog) (t : List Datagram) (came : Message) (before : List Message) (went : Message) → PassesOffer offering t caller callee came before went → callee.theirs ≡ [] → WentFor went (new_call caller callee came went)
new_went_for caller callee t came before went passes none = record { offer = record { by_caller = true; came = came; went = went }; open_is = refl; went = refl; place = first refl (passes.went_to ∙ none) }

same_leg : (c : Call) (b x : Bool) (came went : Message) → leg (reoffered c b came went) x ≡ leg c x
same_leg c b true came went = refl
same_leg c b false came went = refl

again_went_for : (c : Call) (b : Bool) (t : List Datagram) (came : Message) (before : List Message) (went : Message) → PassesOffer offering t (leg c b) (leg c (not b)) came before went → c.stage ≢ Asked
    → WentFor went (reoffered c b came went)
again_went_for c b t came before went passes answered = record {
  offer = record { by_caller = b; came = came; went = went };
  open_is = refl;
  went = refl;
  place = later (not b) answered (dialog_is went (leg c (not b)) passes.went_call passes.went_from passes.went_to ∙ sym (same_leg c b (not b) came went));
}

asked_by : (t : List Datagram) (old : List Call) (taken : Option Message) (sent : List Message) (new : List Call) → Move offering t old taken sent new → AllOf (AsksOneIf t new) sent
asked_by t old taken sent new move =
    elim move [
      | quiet took all same ↦ all_parting t new taken sent old all
      | ask caller callee came before went passes fresh took whole same ↦
          subst (AllOf (AsksOneIf t new)) (sym whole) (passing_asked t new taken before went passes.plain
          (subst (AnyOf (WentFor went)) (sym same) (any_last (WentFor went) old (new_call caller callee came went) (new_went_for caller callee t came before went passes fresh.callee))))
      | reoffer k c z b came before went there stage none passes to took whole same ↦
          subst (AllOf (AsksOneIf t new)) (sym whole) (passing_asked t new taken before went passes.plain
          (subst (AnyOf (WentFor went)) (sym same) (any_new (WentFor went) old k c (reoffered c b came went) there (again_went_for c b t came before went passes (λ is. absurd cc)))))
      | settle_first k c p s came acked went there stage open_is passes took whole same ↦
          subst (AllOf (AsksOneIf t new)) (sym whole) (no_answer t new went _ (acked ∷ []) passes.acknowledged (λ h. request_is_no_success went.kind (request_asks offering went h) (answer_succeeds went passes.answer_went)))
      | settle_later k c z p s came acks went there stage open_is passes acked took whole same ↦
          subst (AllOf (AsksOneIf t new)) (sym whole) (no_answer t new went _ acks passes.acknowledged (λ h. request_is_no_success went.kind (request_asks offering went h) (answer_succeeds went passes.answer_went)))
      | release k c z p came there stage open_is final refuses replies took all same ↦ all_weaker (IsIdle offering t taken) (AsksOneIf t new) (λ m. idle_asked t new taken m) sent all
      | part k c z b there stage ends took all same ↦ all_parting t new taken sent (slice_set old k (ending c b)) all
      | go k c there ends took all same ↦ all_parting t new taken sent (remove old k) all
    ]

-- ---- the longer trace

-- such a request was in the trace, or it carries the open offer of a call
pub asks_one : (n : ℕ) (t : List Datagram) (old : List Call) (taken : Option Message) (sent : List Message) (new : List Call) → Move offering t old taken sent new → (i : ℕ) (q : Datagram) → AsksAt offering (t ++ passed n taken sent) i q → AsksOne t new q.message
asks_one n t old taken sent new move i q h =
    elim (at_split t (passed n taken sent) i q h.at) [
      | inl a ↦ was_asked i q (record { at = a; sent = h.sent; asks = h.asks }) refl
      | inr b ↦ (let went = sent_part n taken sent b.0 q b.2 h.sent in
          let is : q.message ≡ went.1 = ap (λ (v : Datagram). v.message) went.4 in
          subst (AsksOne t new) (sym is) (all_at (AsksOneIf t new) sent went.0 went.1 (asked_by t old taken sent new move) went.2 (subst (λ (v : Message). IsTrue (asks offering v)) is h.asks)))
    ]

-- Which exchanges one more event makes.
use Rattle.std.proofs.Common.{◌≡◌, ◌≢◌, ℕ, ◌+◌, ◌<◌, ◌≤◌, List, [], ◌++◌, length, Bool, true, false, not, if◌then◌else◌, Option, Some, ◌⊎◌, inl, inr, refl, sym, ◌∙◌, ap, subst, arith}
use Rattle.std.specs.Prelude.{IsTrue}
use Rattle.call_trace.specs.declared.datagram.Direction.{Direction}
use Rattle.call_trace.specs.declared.datagram.Direction.TheVariants.{Taken, Sent}
use Rattle.call_trace.specs.declared.datagram.Kind.{Kind}
use Rattle.call_trace.specs.declared.datagram.Kind.TheVariants.{Request, Response}
use Rattle.call_trace.specs.declared.datagram.Message.{Message}
use Rattle.call_trace.specs.declared.datagram.Datagram.{Datagram}
use Rattle.call_trace.specs.declared.datagram.Dialog.{Dialog}
use Rattle.call_trace.specs.Messages.{ack, is_request, is_success, is_answer, is_listed}
use Rattle.call_trace.specs.Dialogs.{is_ours_in_from, our_tag}
use Rattle.call_trace.specs.Exchanges.{At, TakesFinal, Exchange, IsMade, IsExchange, IsLast}
use Rattle.call_trace.specs.Stands.{AsksAt}
use Rattle.call_trace.specs.Events.{taken_at, sent_at, passed, IsIdle, IsIdleTaken, plain, branch_acknowledged, again, due, calm, swallowed}
use Rattle.call_trace.proofs.AtLaws.{at_within, at_left, at_split}
use Rattle.call_trace.proofs.Growing.{exchange_left, exchange_back}
use Rattle.call_trace.proofs.Words.{request_is_no_success, success_is_final, request_of, offer_asks, answer_succeeds, reply_is_listed, plain_answers, calm_final}
use Rattle.call_trace.proofs.OneEvent.{Part, part_of, Copies, asks_left}

-- ---- the tag of an exchange

tag_by : (p : Datagram) (b : Bool) → is_ours_in_from p.direction p.message.kind ≡ b → our_tag p ≡ (if b then p.message.from_tag else p.message.to_tag)
tag_by p b e = ap (λ v. if v then p.message.from_tag else p.message.to_tag) e

pub from_request : (d : Direction) (k : Kind) → d ≡ Sent → IsTrue (is_request k) → is_ours_in_from d k ≡ true
from_request Taken k e h = absurd (cc)
from_request Sent Request e h = refl
from_request Sent (Response s) e h = absurd (cc)

pub from_response : (d : Direction) (k : Kind) → d ≡ Taken → IsTrue (not (is_request k)) → is_ours_in_from d k ≡ true
from_response Sent k e h = absurd (cc)
from_response Taken Request e h = absurd (cc)
from_response Taken (Response s) e h = refl

pub to_request : (d : Direction) (k : Kind) → d ≡ Taken → IsTrue (is_request k) → is_ours_in_from d k ≡ false
to_request Sent k e h = absurd (cc)
to_request Taken Request e h = refl
to_request Taken (Response s) e h = absurd (cc)

pub to_response : (d : Direction) (k : Kind) → d ≡ Sent → IsTrue (not (is_request k)) → is_ours_in_from d k ≡ false
to_response Taken k e h = absurd (cc)
to_response Sent Request e h = absurd (cc)
to_response Sent (Response s) e h = refl

-- our tag in a request and in a response, sent and taken
pub tag_request_sent : (p : Datagram) → p.direction ≡ Sent → IsTrue (is_request p.message.kind) → our_tag p ≡ p.message.from_tag
tag_request_sent p e h = tag_by p true (from_request p.direction p.message.kind e h)

pub tag_response_taken : (p : Datagram) → p.direction ≡ Taken → IsTrue (not (is_request p.message.kind)) → our_tag p ≡ p.message.from_tag
tag_response_taken p e h = tag_by p true (from_response p.direction p.message.kind e h)

pub tag_request_taken : (p : Datagram) → p.direction ≡ Taken → IsTrue (is_request p.message.kind) → our_tag p ≡ p.message.to_tag
tag_request_taken p e h = tag_by p false (to_request p.direction p.message.kind e h)

pub tag_response_sent : (p : Datagram) → p.direction ≡ Sent → IsTrue (not (is_request p.message.kind)) → our_tag p ≡ p.message.to_tag
tag_response_sent p e h = tag_by p false (to_response p.direction p.message.kind e h)

-- the 2xx of an exchange has our tag of its dialog, where the dialog has one
pub exchange_tag : (methods : List (List ℕ)) (t : List Datagram) (d : Dialog) (e : Exchange) → IsExchange methods t d e → d.ours ≢ [] → our_tag e.answered ≡ d.ours
exchange_tag methods t d e x some =
    let request : IsTrue (is_request e.asked.message.kind) = x.replies.request_kind in
    let response : IsTrue (not (is_request e.answered.message.kind)) = x.replies.response_kind in
    elim x.in_dialog [
      | inr h ↦ ap (λ v. v.ours) h
      | inl h ↦ (let g : our_tag e.asked ≡ d.ours = ap (λ v. v.ours) h in
          elim x.crossed [
            | inl c ↦ (let a : our_tag e.asked ≡ e.asked.message.to_tag = tag_request_taken e.asked c.asked request in
                let b : our_tag e.answered ≡ e.answered.message.to_tag = tag_response_sent e.answered c.answered response in
                elim x.replies.to_tag [ inl z ↦ absurd (some (sym g ∙ a ∙ z)) | inr z ↦ b ∙ z ∙ sym a ∙ g ])
            | inr c ↦ (let a : our_tag e.asked ≡ e.asked.message.from_tag = tag_request_sent e.asked c.asked request in
                let b : our_tag e.answered ≡ e.answered.message.from_tag = tag_response_taken e.answered c.answered response in
                b ∙ x.replies.from_tag ∙ sym a ∙ g)
          ])
    ]

-- ---- new exchanges

-- an exchange of the longer trace is an old one, or its 2xx is of this event
pub exchange_new : (methods : List (List ℕ)) (n : ℕ) (t : List Datagram) (taken : Option Message) (sent : List Message) (d : Dialog) (e : Exchange) → IsExchange methods (t ++ passed n taken sent) d e
    → ((e.answered_at < length t) × IsExchange methods t d e) ⊎ ((k : ℕ) × (e.answered_at ≡ length t + k) × At (passed n taken sent) k e.answered × Part n taken sent k e.answered)
exchange_new methods n t taken sent d e x =
    elim (at_split t (passed n taken sent) e.answered_at e.answered x.at_answered) [
      | inl h ↦ (let lt : e.answered_at < length t = at_within t e.answered_at e.answered h in inl (lt, exchange_back methods t (passed n taken sent) d e lt x))
      | inr h ↦ inr (h.0, h.1, h.2, part_of n taken sent h.0 e.answered h.2)
    ]

-- no exchange of the dialog is new
abbrev pub NoNew : List (List ℕ) → List Datagram → List Datagram → Dialog → Type 0
NoNew methods t s d = (e : Exchange) → IsExchange methods (t ++ s) d e → e.answered_at < length t

pub last_left : (methods : List (List ℕ)) (t s : List Datagram) (d : Dialog) (e : Exchange) → NoNew methods t s d → IsLast methods t d e → IsLast methods (t ++ s) d e
last_left methods t s d e none h = record {
  exchange = exchange_left methods t s d e h.exchange;
  greatest = λ f g. h.greatest f (exchange_back methods t s d f (none f g) g);
}

-- the method of an exchange's 2xx may carry an offer
pub answer_listed : (methods : List (List ℕ)) (t : List Datagram) (d : Dialog) (e : Exchange) → IsExchange methods t d e → IsTrue (is_listed methods e.answered.message.method)
answer_listed methods t d e x = reply_is_listed methods e.answered.message e.asked.message x.replies (offer_asks methods e.asked.message x.offer)

-- what is sent and moves no call is no answer
pub idle_no_answer : (methods : List (List ℕ)) (t s : List Datagram) (d : Dialog) (e : Exchange) (n : ℕ) (taken : Option Message) (m : Message) → IsExchange methods (t ++ s) d e → length t ≤ e.answered_at
    → e.answered ≡ sent_at n m → IsIdle methods t taken m → ⊥
idle_no_answer methods t s d e n taken m x behind is idle =
    let answers : IsTrue (is_answer m) = (let P : Datagram → Type 0 = λ v. IsTrue (is_answer v.message) in subst P is x.answer) in
    let success : IsTrue (is_success m.kind) = answer_succeeds m answers in
    let listed : IsTrue (is_listed methods m.method) = (let P : Datagram → Type 0 = λ v. IsTrue (is_listed methods v.message.method) in subst P is (answer_listed methods (t ++ s) d e x)) in
    elim idle [
      | plain h ↦ plain_answers methods m h answers listed
      | branch_acknowledged k q h at out inv same ↦ request_is_no_success m.kind (request_of ack m h) success
      | again k q at out same h ↦ elim x.crossed [
        | inl c ↦ (let w : k < length t = at_within t k q at in
            let lt : k < e.answered_at = omega arith in
            c.fresh k q lt (at_left t s k q at) out (ap (λ v. v.bytes) same ∙ ap (λ v. v.message.bytes) (sym is)))
        | inr c ↦ (let f : e.answered.direction ≡ Sent = ap (λ v. v.direction) is in let g : e.answered.direction ≡ Taken = c.answered in absurd (cc))
      ]
    ]

-- the taken 2xx of a new exchange is the first final response to a request of ours
pub made_of : (methods : List (List ℕ)) (t : List Datagram) (d : Dialog) (e : Exchange) (n : ℕ) (m : Message) → IsExchange methods t d e → e.answered ≡ taken_at n m → IsMade t e
made_of methods t d e n m x is =
    elim x.crossed [
      | inl c ↦ (let f : e.answered.direction ≡ Taken = ap (λ v. v.direction) is in let g : e.answered.direction ≡ Sent = c.answered in absurd (cc))
      | inr c ↦ c
    ]

pub asks_of : (methods : List (List ℕ)) (t : List Datagram) (d : Dialog) (e : Exchange) → IsExchange methods t d e → IsMade t e → AsksAt methods t e.asked_at e.asked
asks_of methods t d e x c = record { at = x.at_asked; sent = c.asked; asks = offer_asks methods e.asked.message x.offer }

-- what is taken and moves no call is no answer
pub idle_taken_no_answer : (methods : List (List ℕ)) (t s : List Datagram) (d : Dialog) (e : Exchange) (n : ℕ) (taken : Option Message) (m : Message) → Copies methods (t ++ s) → IsExchange methods (t ++ s) d e → length t ≤ e.answered_at
    → taken ≡ Some m → e.answered ≡ taken_at n m → IsIdleTaken methods t taken → ⊥
idle_taken_no_answer methods t s d e n taken m copies x behind tk is idle =
    elim idle [
      | due h ↦ absurd (cc)
      | calm m' h quiet ↦ (let same : m' ≡ m = cc in
          let success : IsTrue (is_success m'.kind) = (let P : Message → Type 0 = λ v. IsTrue (is_success v.kind) in subst P (ap (λ v. v.message) is ∙ sym same) (answer_succeeds e.answered.message x.answer)) in
          let listed : IsTrue (is_listed methods m'.method) = (let P : Message → Type 0 = λ v. IsTrue (is_listed methods v.method) in subst P (ap (λ v. v.message) is ∙ sym same) (answer_listed methods (t ++ s) d e x)) in
          calm_final methods m' quiet (success_is_final m'.kind success) listed)
      | swallowed m' i k q r h asked branch at final ↦ (let same : m' ≡ m = cc in
          let c : IsMade (t ++ s) e = made_of methods (t ++ s) d e n m x is in
          let one : e.asked.message.branch ≡ q.message.branch = sym x.replies.branch ∙ ap (λ v. v.message.branch) is ∙ ap (λ v. v.branch) (sym same) ∙ sym branch in
          let copy : e.asked.message ≡ q.message = copies e.asked_at i e.asked q (asks_of methods (t ++ s) d e x c) (asks_left methods t s i q asked) one in
          let w : k < length t = at_within t k r at in
          let lt : k < e.answered_at = omega arith in
          c.first k r lt (at_left t s k r at) (let P : Message → Type 0 = λ v. TakesFinal r v in subst P (sym copy) final))
    ]

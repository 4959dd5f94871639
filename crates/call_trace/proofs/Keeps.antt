-- What holds for a call, and which pairs of dialogs are calls, after an event that leaves them alone.
use Rattle.std.proofs.Common.{◌≡◌, ℕ, suc, ◌+◌, ◌<◌, ◌≤◌, List, ◌++◌, length, Bool, not, Option, Some, ◌⊎◌, inl, inr, sym, ◌∙◌, ap, subst, arith}
use Rattle.std.specs.Prelude.{IsTrue}
use Rattle.call_trace.specs.declared.datagram.Direction.TheVariants.{Sent}
use Rattle.call_trace.specs.declared.datagram.Message.{Message}
use Rattle.call_trace.specs.declared.datagram.Datagram.{Datagram}
use Rattle.call_trace.specs.declared.datagram.Dialog.{Dialog}
use Rattle.call_trace.specs.declared.call.Session.{Session}
use Rattle.call_trace.specs.declared.call.Offer.{Offer}
use Rattle.call_trace.specs.declared.call.Call.{Call}
use Rattle.call_trace.specs.Messages.{ack, is_final, is_listed, asks}
use Rattle.call_trace.specs.Exchanges.{At, TakesFinal, Exchange, IsExchange}
use Rattle.call_trace.specs.Passing.{IsPassedOn}
use Rattle.call_trace.specs.Calls.{IsFirst, AreCalled, CallFrom, Ended}
use Rattle.call_trace.specs.Stands.{leg, IsOffered, Offered, SettledIn, CallStands, AllApart, HasTags, IsCallOf, AsksAt, Known, StandsAfter}
use Rattle.call_trace.specs.Events.{passed, NoneAsked, IsIdle, IsIdleTaken, plain, branch_acknowledged, again, due, calm, swallowed}
use Rattle.call_trace.specs.Listed.{AllOf, AnyOf}
use Rattle.call_trace.proofs.AtLaws.{at_within, at_left, at_back, at_split}
use Rattle.call_trace.proofs.Growing.{exchange_back, called_left, ended_left}
use Rattle.call_trace.proofs.Members.{all_at}
use Rattle.call_trace.proofs.Words.{not_both, plain_asks, other_asks, offer_asks, reply_is_listed, calm_final}
use Rattle.call_trace.proofs.OneEvent.{Events, events_more, same_old, one_taken_more, FineAsks, Copies, copies_more, one_birth_more, taken_first, root_differs}
use Rattle.call_trace.proofs.NewExchanges.{NoNew, last_left}

-- ---- a call that the event leaves alone

-- no exchange of its dialogs is new, and no final response to its offer
pub record Foreign (methods : List (List ℕ)) (t s : List Datagram) (c : Call) : Type 0 where
  pub legs : (b : Bool) → NoNew methods t s (leg c b)
  pub answered : (p : Offer) → c.offer ≡ Some p → (k : ℕ) (r : Datagram) → At s k r → ¬ TakesFinal r p.went

pub settled_left : (methods : List (List ℕ)) (t s : List Datagram) (x y : Dialog) (z : Session) → NoNew methods t s x → NoNew methods t s y → SettledIn methods t x y z → SettledIn methods (t ++ s) x y z
settled_left methods t s x y z nx ny h = (
  h.0,
  h.1,
  record { last_x = last_left methods t s x h.0 nx h.2.last_x; last_y = last_left methods t s y h.1 ny h.2.last_y; passed_on = h.2.passed_on; said = h.2.said },
)

pub offered_left : (methods : List (List ℕ)) (t s : List Datagram) (x y : Dialog) (p : Offer) → ((k : ℕ) (r : Datagram) → At s k r → ¬ TakesFinal r p.went) → Offered methods t x y p → Offered methods (t ++ s) x y p
offered_left methods t s x y p none h = let o : IsOffered methods t x y p h.0 h.1 h.2 h.3 = h.4 in (
  h.0,
  h.1,
  h.2,
  h.3,
  record {
    at_came = at_left t s h.0 h.2 o.at_came;
    at_went = at_left t s h.1 h.3 o.at_went;
    taken = o.taken;
    sent = o.sent;
    event = o.event;
    came_is = o.came_is;
    went_is = o.went_is;
    offer_came = o.offer_came;
    offer_went = o.offer_went;
    method = o.method;
    came_call = o.came_call;
    came_from = o.came_from;
    came_to = o.came_to;
    went_call = o.went_call;
    went_from = o.went_from;
    went_to = o.went_to;
    unanswered = λ n r at f. elim (at_split t s n r at) [
      | inl q ↦ o.unanswered n r q f
      | inr q ↦ none q.0 r q.2 f
    ];
  },
)

pub stand_left : (methods : List (List ℕ)) (t s : List Datagram) (c : Call) → Foreign methods t s c → CallStands methods t c → CallStands methods (t ++ s) c
stand_left methods t s c foreign h = record {
  session = λ z e. settled_left methods t s (leg c z.by_caller) (leg c (not z.by_caller)) z.session (foreign.legs z.by_caller) (foreign.legs (not z.by_caller)) (h.session z e);
  offer = λ p e. offered_left methods t s (leg c p.by_caller) (leg c (not p.by_caller)) p (foreign.answered p e) (h.offer p e);
  first = h.first;
  later = h.later;
  begun = λ e. called_left methods t s c.caller c.callee (h.begun e);
}

-- ---- which pairs are calls

-- no exchange is new whose 2xx was sent
abbrev pub NoServed : List (List ℕ) → List Datagram → List Datagram → Type 0
NoServed methods t s = (d : Dialog) (e : Exchange) → IsExchange methods (t ++ s) d e → e.answered.direction ≡ Sent → e.answered_at < length t

-- the two exchanges of a call are both old where the one whose 2xx was sent is
pub both_old : (methods : List (List ℕ)) (n : ℕ) (t : List Datagram) (taken : Option Message) (sent : List Message) (dx dy : Dialog) (x y : Exchange) → Events n t → x.answered_at < length t
    → IsExchange methods (t ++ passed n taken sent) dx x → IsExchange methods (t ++ passed n taken sent) dy y → IsPassedOn x y → y.answered_at < length t
both_old methods n t taken sent dx dy x y ev old ex ey on =
    let at_x : At t x.answered_at x.answered = at_back t (passed n taken sent) x.answered_at x.answered old ex.at_answered in
    at_within t y.answered_at y.answered (same_old n t taken sent x.answered_at y.answered_at x.answered y.answered ev at_x ey.at_answered on.answer.event)

first_back : (methods : List (List ℕ)) (t s : List Datagram) (d : Dialog) (e : Exchange) → e.answered_at < length t → IsFirst methods (t ++ s) d e → IsFirst methods t d e
first_back methods t s d e old f = record { exchange = exchange_back methods t s d e old f.exchange; invite = f.invite; no_tag = f.no_tag; named = f.named }

-- a call of the longer trace is an old one, or the 2xx that was sent in it is new
pub call_split : (methods : List (List ℕ)) (n : ℕ) (t : List Datagram) (taken : Option Message) (sent : List Message) (dx dy : Dialog) → Events n t → CallFrom methods (t ++ passed n taken sent) dx dy
    → CallFrom methods t dx dy
    ⊎ ((x : Exchange) × (y : Exchange) × (length t ≤ x.answered_at) × IsPassedOn x y × IsFirst methods (t ++ passed n taken sent) dx x × IsFirst methods (t ++ passed n taken sent) dy y)
call_split methods n t taken sent dx dy ev c =
    let x : Exchange = c.0 in let y : Exchange = c.1 in
    let b : AreCalled methods (t ++ passed n taken sent) dx dy x y = c.2 in
    let s : List Datagram = passed n taken sent in
    elim (at_split t s x.answered_at x.answered b.first_x.exchange.at_answered) [
      | inl q ↦ (let old : x.answered_at < length t = at_within t x.answered_at x.answered q in
          let old' : y.answered_at < length t = both_old methods n t taken sent dx dy x y ev old b.first_x.exchange b.first_y.exchange b.passed_on in
          inl (x, y, record { first_x = first_back methods t s dx x old b.first_x; first_y = first_back methods t s dy y old' b.first_y; passed_on = b.passed_on }))
      | inr q ↦ (let place : x.answered_at ≡ length t + q.0 = q.1 in inr (x, y, omega arith, b.passed_on, b.first_x, b.first_y))
    ]

pub call_back : (methods : List (List ℕ)) (n : ℕ) (t : List Datagram) (taken : Option Message) (sent : List Message) (dx dy : Dialog) → Events n t → NoServed methods t (passed n taken sent)
    → CallFrom methods (t ++ passed n taken sent) dx dy → CallFrom methods t dx dy
call_back methods n t taken sent dx dy ev none c =
    elim (call_split methods n t taken sent dx dy ev c) [
      | inl h ↦ h
      | inr h ↦ (let x : Exchange = h.0 in let behind : length t ≤ x.answered_at = h.2 in
          let old : x.answered_at < length t = none dx x h.4.exchange h.3.answer.sent in absurd (omega arith))
    ]

-- each pair that was listed being listed then, or ended
abbrev pub Keeps : List Datagram → List Call → List Call → Type 0
Keeps t old new = (dx dy : Dialog) → AnyOf (IsCallOf dx dy) old → AnyOf (IsCallOf dx dy) new ⊎ (Ended t dx × Ended t dy)

pub known_more : (methods : List (List ℕ)) (n : ℕ) (t : List Datagram) (taken : Option Message) (sent : List Message) (old new : List Call) → Events n t → NoServed methods t (passed n taken sent)
    → Keeps (t ++ passed n taken sent) old new → Known methods t old → Known methods (t ++ passed n taken sent) new
known_more methods n t taken sent old new ev none keep h dx dy c =
    elim (h dx dy (call_back methods n t taken sent dx dy ev none c)) [
      | inl l ↦ keep dx dy l
      | inr e ↦ inr (ended_left t (passed n taken sent) dx e.0, ended_left t (passed n taken sent) dy e.1)
    ]

-- ---- the relation after an event

pub assembled : (methods : List (List ℕ)) (old new : List Call) (n : ℕ) (t : List Datagram) (taken : Option Message) (sent : List Message) → StandsAfter methods old n t → FineAsks methods t taken sent
    → AllOf HasTags new → AllApart new → AllOf (CallStands methods (t ++ passed n taken sent)) new → Known methods (t ++ passed n taken sent) new
    → StandsAfter methods new (suc n) (t ++ passed n taken sent)
assembled methods old new n t taken sent h fine tags apart stand known = record {
  offering = h.offering;
  events = events_more n t taken sent h.events;
  one_taken = one_taken_more n t taken sent h.events h.one_taken;
  copies = copies_more methods n t taken sent fine h.copies;
  one_birth = one_birth_more methods n t taken sent fine h.events h.one_birth;
  tags = tags;
  apart = apart;
  stand = stand;
  known = known;
}

-- ---- an event that moves no call

-- a request that is sent and moves no call is a copy
pub idle_asks : (methods : List (List ℕ)) (t : List Datagram) (taken : Option Message) (m : Message) → IsTrue (not (is_listed methods ack)) → IsIdle methods t taken m → IsTrue (asks methods m)
    → (k : ℕ) × (q : Datagram) × AsksAt methods t k q × (q.message ≡ m) × NoneAsked methods taken
idle_asks methods t taken m acks idle a =
    elim idle [
      | plain h ↦ absurd (plain_asks methods m h a)
      | branch_acknowledged k q h at out inv same ↦ absurd (other_asks methods ack m acks h a)
      | again k q at out same h ↦ (
        k,
        q,
        record { at = at; sent = out; asks = (let P : Message → Type 0 = λ v. IsTrue (asks methods v) in subst P (sym same) a) },
        same,
        elim h [ inl g ↦ absurd (not_both (asks methods m) g a) | inr g ↦ g ],
      )
    ]

pub fine_idle : (methods : List (List ℕ)) (t : List Datagram) (taken : Option Message) (sent : List Message) → IsTrue (not (is_listed methods ack)) → AllOf (IsIdle methods t taken) sent → FineAsks methods t taken sent
fine_idle methods t taken sent acks idle = record {
  each = λ i m at a. inr (idle_asks methods t taken m acks (all_at (IsIdle methods t taken) sent i m idle at) a);
  one = λ i k m l at at' a a' unused unused'.
      (let c = idle_asks methods t taken m acks (all_at (IsIdle methods t taken) sent i m idle at) a in
      absurd (root_differs methods t c.0 c.1 m c.2 unused (ap (λ v. v.branch) c.3)));
}

-- what is taken and moves no call is not a final response to an open offer
pub idle_answers_none : (methods : List (List ℕ)) (n : ℕ) (t : List Datagram) (taken : Option Message) (sent : List Message) (x y : Dialog) (p : Offer) → Copies methods t → IsIdleTaken methods t taken → Offered methods t x y p
    → (k : ℕ) (r : Datagram) → At (passed n taken sent) k r → ¬ TakesFinal r p.went
idle_answers_none methods n t taken sent x y p copies idle h k r at f =
    let o : IsOffered methods t x y p h.0 h.1 h.2 h.3 = h.4 in
    let tk : taken ≡ Some r.message = (taken_first n taken sent k r at f.taken).1 in
    let a : IsTrue (asks methods p.went) = offer_asks methods p.went o.offer_went in
    elim idle [
      | due e ↦ absurd (cc)
      | calm m e quiet ↦ (let same : m ≡ r.message = cc in
          let final : IsTrue (is_final m.kind) = (let P : Message → Type 0 = λ v. IsTrue (is_final v.kind) in subst P (sym same) f.final) in
          let listed : IsTrue (is_listed methods m.method) = (let P : Message → Type 0 = λ v. IsTrue (is_listed methods v.method) in subst P (sym same) (reply_is_listed methods r.message p.went f.replies a)) in
          calm_final methods m quiet final listed)
      | swallowed m i j q u e asked branch at' final ↦ (let same : m ≡ r.message = cc in
          let mine : AsksAt methods t h.1 h.3 = record { at = o.at_went; sent = o.sent; asks = (let P : Message → Type 0 = λ v. IsTrue (asks methods v) in subst P (sym o.went_is) a) } in
          let one : q.message.branch ≡ h.3.message.branch = branch ∙ ap (λ v. v.branch) same ∙ f.replies.branch ∙ ap (λ v. v.branch) (sym o.went_is) in
          let copy : q.message ≡ p.went = copies i h.1 q h.3 asked mine one ∙ o.went_is in
          o.unanswered j u at' (let P : Message → Type 0 = λ v. TakesFinal u v in subst P copy final))
    ]

pub no_new_serves_none : (methods : List (List ℕ)) (t s : List Datagram) → ((d : Dialog) → NoNew methods t s d) → NoServed methods t s
no_new_serves_none methods t s h d e x out = h d e x

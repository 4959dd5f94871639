-- What a longer trace keeps: each condition of an exchange looks to the left of its response alone.
use Rattle.std.proofs.Common.{ℕ, ◌<◌, List, ◌++◌, length, ◌⊎◌, inl, inr, arith}
use Rattle.call_trace.specs.declared.datagram.Message.{Message}
use Rattle.call_trace.specs.declared.datagram.Datagram.{Datagram}
use Rattle.call_trace.specs.declared.datagram.Dialog.{Dialog}
use Rattle.call_trace.specs.Exchanges.{NoneTakenBefore, NoneSentBefore, Exchange, IsServed, IsMade, IsExchange}
use Rattle.call_trace.specs.Calls.{IsFirst, CallOf, CallFrom, IsSentIn, Ended}
use Rattle.call_trace.proofs.AtLaws.{at_within, at_left, at_back}

none_taken_left : (t s : List Datagram) (j : ℕ) (m : Message) → j < length t → NoneTakenBefore t j m → NoneTakenBefore (t ++ s) j m
none_taken_left t s j m within none k p lt at = let old : k < length t = omega arith in none k p lt (at_back t s k p old at)

none_sent_left : (t s : List Datagram) (j : ℕ) (bytes : List ℕ) → j < length t → NoneSentBefore t j bytes → NoneSentBefore (t ++ s) j bytes
none_sent_left t s j bytes within none k p lt at = let old : k < length t = omega arith in none k p lt (at_back t s k p old at)

crossed_left : (t s : List Datagram) (e : Exchange) → e.answered_at < length t → IsServed t e ⊎ IsMade t e → IsServed (t ++ s) e ⊎ IsMade (t ++ s) e
crossed_left t s e within h =
    elim h [
      | inl a ↦ inl (record { asked = a.asked; answered = a.answered; fresh = none_sent_left t s e.answered_at e.answered.message.bytes within a.fresh })
      | inr a ↦ inr (record { asked = a.asked; answered = a.answered; first = none_taken_left t s e.answered_at e.asked.message within a.first })
    ]

crossed_back : (t s : List Datagram) (e : Exchange) → IsServed (t ++ s) e ⊎ IsMade (t ++ s) e → IsServed t e ⊎ IsMade t e
crossed_back t s e h =
    elim h [
      | inl a ↦ inl (record { asked = a.asked; answered = a.answered; fresh = λ k p lt at. a.fresh k p lt (at_left t s k p at) })
      | inr a ↦ inr (record { asked = a.asked; answered = a.answered; first = λ k p lt at. a.first k p lt (at_left t s k p at) })
    ]

-- an exchange stays one
pub exchange_left : (methods : List (List ℕ)) (t s : List Datagram) (d : Dialog) (e : Exchange) → IsExchange methods t d e → IsExchange methods (t ++ s) d e
exchange_left methods t s d e x = record {
  at_asked = at_left t s e.asked_at e.asked x.at_asked;
  at_answered = at_left t s e.answered_at e.answered x.at_answered;
  later = x.later;
  offer = x.offer;
  answer = x.answer;
  replies = x.replies;
  in_dialog = x.in_dialog;
  crossed = crossed_left t s e (at_within t e.answered_at e.answered x.at_answered) x.crossed;
}

-- and one whose response is an old one was one before
pub exchange_back : (methods : List (List ℕ)) (t s : List Datagram) (d : Dialog) (e : Exchange) → e.answered_at < length t → IsExchange methods (t ++ s) d e → IsExchange methods t d e
exchange_back methods t s d e within x = record {
  at_asked = (let lt : e.asked_at < e.answered_at = x.later in let old : e.asked_at < length t = omega arith in at_back t s e.asked_at e.asked old x.at_asked);
  at_answered = at_back t s e.answered_at e.answered within x.at_answered;
  later = x.later;
  offer = x.offer;
  answer = x.answer;
  replies = x.replies;
  in_dialog = x.in_dialog;
  crossed = crossed_back t s e x.crossed;
}

pub first_left : (methods : List (List ℕ)) (t s : List Datagram) (d : Dialog) (e : Exchange) → IsFirst methods t d e → IsFirst methods (t ++ s) d e
first_left methods t s d e x = record { exchange = exchange_left methods t s d e x.exchange; invite = x.invite; no_tag = x.no_tag; named = x.named }

pub call_left : (methods : List (List ℕ)) (t s : List Datagram) (dx dy : Dialog) → CallOf methods t dx dy → CallOf methods (t ++ s) dx dy
call_left methods t s dx dy c =
    (c.0, c.1, record { first_x = first_left methods t s dx c.0 c.2.first_x; first_y = first_left methods t s dy c.1 c.2.first_y; together = c.2.together })

pub called_left : (methods : List (List ℕ)) (t s : List Datagram) (dx dy : Dialog) → CallFrom methods t dx dy → CallFrom methods (t ++ s) dx dy
called_left methods t s dx dy c =
    (c.0, c.1, record { first_x = first_left methods t s dx c.0 c.2.first_x; first_y = first_left methods t s dy c.1 c.2.first_y; passed_on = c.2.passed_on })

-- two dialogs are a call where one of the two called the other
pub call_of_called : (methods : List (List ℕ)) (t : List Datagram) (dx dy : Dialog) → CallFrom methods t dx dy → CallOf methods t dx dy
call_of_called methods t dx dy c = (c.0, c.1, record { first_x = c.2.first_x; first_y = c.2.first_y; together = inl c.2.passed_on })

pub called_of_call : (methods : List (List ℕ)) (t : List Datagram) (dx dy : Dialog) → CallOf methods t dx dy → CallFrom methods t dx dy ⊎ CallFrom methods t dy dx
called_of_call methods t dx dy c =
    elim c.2.together [
      | inl on ↦ inl (c.0, c.1, record { first_x = c.2.first_x; first_y = c.2.first_y; passed_on = on })
      | inr on ↦ inr (c.1, c.0, record { first_x = c.2.first_y; first_y = c.2.first_x; passed_on = on })
    ]

pub call_turned : (methods : List (List ℕ)) (t : List Datagram) (dx dy : Dialog) → CallOf methods t dx dy → CallOf methods t dy dx
call_turned methods t dx dy c =
    (c.1, c.0, record { first_x = c.2.first_y; first_y = c.2.first_x; together = elim c.2.together [ inl a ↦ inr a | inr a ↦ inl a ] })

sent_left : (t s : List Datagram) (d : Dialog) (i : ℕ) (p : Datagram) → IsSentIn t d i p → IsSentIn (t ++ s) d i p
sent_left t s d i p h = record { at = at_left t s i p h.at; sent = h.sent; named = h.named }

pub ended_left : (t s : List Datagram) (d : Dialog) → Ended t d → Ended (t ++ s) d
ended_left t s d h =
    elim h [
      | inl a ↦ inl (a.0, a.1, record { sent = sent_left t s d a.0 a.1 a.2.sent; ends = a.2.ends })
      | inr a ↦ inr (
        a.0,
        a.1,
        a.2,
        a.3,
        record {
          at_asked = at_left t s a.0 a.2 a.4.at_asked;
          at_answered = at_left t s a.1 a.3 a.4.at_answered;
          later = a.4.later;
          taken = a.4.taken;
          ends = a.4.ends;
          named = a.4.named;
          sent = a.4.sent;
          ok = a.4.ok;
          replies = a.4.replies;
        },
      )
    ]

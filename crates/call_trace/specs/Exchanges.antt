-- Offers and their answers in a trace, and the last of a dialog.
use Rattle.std.specs.Prelude.{◌≡◌, ◌≢◌, ℕ, ◌<◌, ◌≤◌, List, Some, slice_get, ◌⊎◌, IsTrue}
use Rattle.call_trace.specs.declared.datagram.Direction.TheVariants.{Taken, Sent}
use Rattle.call_trace.specs.declared.datagram.Message.{Message}
use Rattle.call_trace.specs.declared.datagram.Datagram.{Datagram}
use Rattle.call_trace.specs.declared.datagram.Dialog.{Dialog}
use Rattle.call_trace.specs.Messages.{is_final, is_offer, is_answer, Replies}
use Rattle.call_trace.specs.Dialogs.{dialog_of}

-- The datagram is at this place of the trace. All that is said about a trace is said by `At`.
unfoldable pub At : List Datagram → ℕ → Datagram → Type 0
At t i p = slice_get t i ≡ Some p

-- the datagram is a final response to the request, and was taken
pub record TakesFinal (p : Datagram) (request : Message) : Type 0 where
  pub taken : p.direction ≡ Taken
  pub final : IsTrue (is_final p.message.kind)
  pub replies : Replies p.message request

-- no final response to the request was taken before the place (RFC 3261 section 13.2.2.4, RFC 6026 section 7.2)
abbrev pub NoneTakenBefore : List Datagram → ℕ → Message → Type 0
NoneTakenBefore t j request = (k : ℕ) (p : Datagram) → k < j → At t k p → ¬ TakesFinal p request

-- these bytes were not sent before the place: what is sent again has the bytes of what was sent
abbrev pub NoneSentBefore : List Datagram → ℕ → List ℕ → Type 0
NoneSentBefore t j bytes = (k : ℕ) (p : Datagram) → k < j → At t k p → p.direction ≡ Sent → p.message.bytes ≢ bytes

-- a place of a request, a place of a response, and what is there
pub record Exchange : Type 0 where
  pub asked_at : ℕ
  pub answered_at : ℕ
  pub asked : Datagram
  pub answered : Datagram

-- the offer was taken, and the answer sent for the first time
pub record IsServed (t : List Datagram) (e : Exchange) : Type 0 where
  pub asked : e.asked.direction ≡ Taken
  pub answered : e.answered.direction ≡ Sent
  pub fresh : NoneSentBefore t e.answered_at e.answered.message.bytes

-- the offer was sent, and the answer taken as the first final response to it
pub record IsMade (t : List Datagram) (e : Exchange) : Type 0 where
  pub asked : e.asked.direction ≡ Sent
  pub answered : e.answered.direction ≡ Taken
  pub first : NoneTakenBefore t e.answered_at e.asked.message

-- In the dialog an offer was answered: a request with an offer, and a later 2xx with an answer that replies to it,
-- are in the trace; one of the two names the dialog; one was taken and the other sent (RFC 3261 sections 13 and 14,
-- RFC 3264 section 4).
pub record IsExchange (methods : List (List ℕ)) (t : List Datagram) (d : Dialog) (e : Exchange) : Type 0 where
  pub at_asked : At t e.asked_at e.asked
  pub at_answered : At t e.answered_at e.answered
  pub later : e.asked_at < e.answered_at
  pub offer : IsTrue (is_offer methods e.asked.message)
  pub answer : IsTrue (is_answer e.answered.message)
  pub replies : Replies e.answered.message e.asked.message
  pub in_dialog : (dialog_of e.asked ≡ d) ⊎ (dialog_of e.answered ≡ d)
  pub crossed : IsServed t e ⊎ IsMade t e

-- no exchange of the dialog was answered later
pub record IsLast (methods : List (List ℕ)) (t : List Datagram) (d : Dialog) (e : Exchange) : Type 0 where
  pub exchange : IsExchange methods t d e
  pub greatest : (f : Exchange) → IsExchange methods t d f → f.answered_at ≤ e.answered_at

-- The datagrams of one event, and what they may be without a move of any call.
use Rattle.std.specs.Prelude.{◌≡◌, ◌≢◌, ℕ, List, ◌∷◌, map, Bool, not, ◌&&◌, ◌||◌, Option, Some, None, is_some, slice_get, ◌⊎◌, IsTrue}
use Rattle.call_trace.specs.declared.datagram.Direction.TheVariants.{Taken, Sent}
use Rattle.call_trace.specs.declared.datagram.Message.{Message}
use Rattle.call_trace.specs.declared.datagram.Datagram.{Datagram}
use Rattle.call_trace.specs.declared.datagram.Dialog.{Dialog}
use Rattle.call_trace.specs.declared.call.Call.{Call}
use Rattle.call_trace.specs.Messages.{invite, ack, bye, is_final, is_ok, is_success, is_listed, is_method, is_request_of, asks, Replies}
use Rattle.call_trace.specs.Dialogs.{is_ours_in_from, dialog_of}
use Rattle.call_trace.specs.Exchanges.{At, TakesFinal}
use Rattle.call_trace.specs.Calls.{Ended}
use Rattle.call_trace.specs.Stands.{IsTagOf, AsksAt}
use Rattle.call_trace.specs.Lives.{IsEnding, SparesCall}
use Rattle.call_trace.specs.Listed.{AllOf}

abbrev pub taken_at : ℕ → Message → Datagram
taken_at n m = record { event = n; direction = Taken; message = m }

abbrev pub sent_at : ℕ → Message → Datagram
sent_at n m = record { event = n; direction = Sent; message = m }

-- the datagrams of event n: the one that it took, if it took one, and those that it sent, in order
abbrev pub passed : ℕ → Option Message → List Message → List Datagram
passed n None sent = map (λ m. sent_at n m) sent
passed n (Some m) sent = taken_at n m ∷ map (λ m. sent_at n m) sent

-- the dialog that a message of ours names
abbrev pub dialog_sent : Message → Dialog
dialog_sent m = dialog_of (sent_at 0 m)

-- ---- what changes nothing

-- neither a request that may carry an offer, nor an ACK or a BYE; no answer to such a request, and no 2xx to an INVITE
-- or to a BYE
abbrev pub is_plain : List (List ℕ) → Message → Bool
is_plain methods m =
    not (asks methods m) && (not (is_request_of ack m) && (not (is_request_of bye m)
    && not (is_success m.kind && (is_method invite m.method || (is_method bye m.method || (is_listed methods m.method && is_some m.description))))))

-- no final response to a request that may carry an offer
abbrev pub is_calm : List (List ℕ) → Message → Bool
is_calm methods m = not (is_final m.kind && is_listed methods m.method)

-- no request that may carry an offer was taken
abbrev pub NoneAsked : List (List ℕ) → Option Message → Type 0
NoneAsked methods taken = (m : Message) → taken ≡ Some m → IsTrue (not (asks methods m))

-- A message that is sent and moves no call.
pub data IsIdle (methods : List (List ℕ)) (t : List Datagram) (taken : Option Message) (m : Message) : Type 0 where
  plain : IsTrue (is_plain methods m) → IsIdle methods t taken m
  -- an ACK with the branch of an INVITE of ours, as one to a refusal has (RFC 3261 section 17.1.1.3)
  branch_acknowledged : (k : ℕ) (q : Datagram) → IsTrue (is_request_of ack m) → At t k q → q.direction ≡ Sent → IsTrue (is_request_of invite q.message) → q.message.branch ≡ m.branch → IsIdle methods t taken m
  -- what was sent before, in the same bytes; a request that may carry an offer not in an event that took one
  again : (k : ℕ) (q : Datagram) → At t k q → q.direction ≡ Sent → q.message ≡ m → IsTrue (not (asks methods m)) ⊎ NoneAsked methods taken → IsIdle methods t taken m

-- What was taken, if anything, and moves no call.
pub data IsIdleTaken (methods : List (List ℕ)) (t : List Datagram) (taken : Option Message) : Type 0 where
  -- nothing was taken: a timer fired, or what came counts as not come
  due : taken ≡ None → IsIdleTaken methods t taken
  calm : (m : Message) → taken ≡ Some m → IsTrue (is_calm methods m) → IsIdleTaken methods t taken
  -- a final response with the branch of a request that was finally answered before: a repeat, one that is late, one of
  -- a second telephone
  swallowed : (m : Message) (i k : ℕ) (q r : Datagram) → taken ≡ Some m → AsksAt methods t i q → q.message.branch ≡ m.branch → At t k r → TakesFinal r q.message → IsIdleTaken methods t taken

-- ---- what is new

-- no request of ours has this branch, and no response that was taken
abbrev pub IsUnused : List Datagram → List ℕ → Type 0
IsUnused t branch = (i : ℕ) (p : Datagram) → At t i p → IsTrue (is_ours_in_from p.direction p.message.kind) → p.message.branch ≢ branch

-- no BYE was sent with this tag in From, and no 200 to one with it in To
pub record IsNewTag (t : List Datagram) (tag : List ℕ) : Type 0 where
  pub from : (i : ℕ) (p : Datagram) → At t i p → p.direction ≡ Sent → IsTrue (is_request_of bye p.message) → p.message.from_tag ≢ tag
  pub to : (i : ℕ) (p : Datagram) → At t i p → p.direction ≡ Sent → IsTrue (is_ok p.message.kind) → IsTrue (is_method bye p.message.method) → p.message.to_tag ≢ tag

-- nothing that was sent has these bytes
abbrev pub AreNewBytes : List Datagram → List ℕ → Type 0
AreNewBytes t bytes = (i : ℕ) (p : Datagram) → At t i p → p.direction ≡ Sent → p.message.bytes ≢ bytes

-- ---- what ends

-- The dialog has ended by this event: it had, or a BYE is sent in it, or one was taken in it and is answered by 200.
pub data EndsNow (t : List Datagram) (taken : Option Message) (sent : List Message) (d : Dialog) : Type 0 where
  before : Ended t d → EndsNow t taken sent d
  left : (i : ℕ) (m : Message) → slice_get sent i ≡ Some m → IsTrue (is_request_of bye m) → dialog_sent m ≡ d → EndsNow t taken sent d
  served : (i : ℕ) (m r : Message) → taken ≡ Some m → IsTrue (is_request_of bye m) → dialog_of (taken_at 0 m) ≡ d → slice_get sent i ≡ Some r → IsTrue (is_ok r.kind) → Replies r m → EndsNow t taken sent d

-- A message that is sent where a call ends or is none of the calls that are left.
pub data IsParting (methods : List (List ℕ)) (t : List Datagram) (taken : Option Message) (sent : List Message) (left : List Call) (m : Message) : Type 0 where
  idle : IsIdle methods t taken m → IsParting methods t taken sent left m
  bye_sent : IsTrue (is_request_of bye m) → AllOf (SparesCall (sent_at 0 m)) left → IsParting methods t taken sent left m
  -- a 200 to a BYE in no call that goes on: one that is ending has been left by this end
  bye_answered : IsTrue (is_ok m.kind) → IsTrue (is_method bye m.method) → AllOf (λ c. ¬ IsEnding c.stage → ¬ IsTagOf c m.to_tag) left → IsParting methods t taken sent left m
  -- the 2xx of a dialog that ends at once is acknowledged (RFC 3261 section 13.2.2.4)
  acknowledged : IsTrue (is_request_of ack m) → EndsNow t taken sent (dialog_sent m) → IsParting methods t taken sent left m

-- What was taken, if anything, where a call ends or is none of the calls that are left.
pub data IsPartingTaken (methods : List (List ℕ)) (t : List Datagram) (taken : Option Message) (left : List Call) : Type 0 where
  unmoved : IsIdleTaken methods t taken → IsPartingTaken methods t taken left
  answered : (m : Message) → taken ≡ Some m → IsTrue (is_final m.kind) → AllOf (λ c. ¬ IsTagOf c m.from_tag) left → IsPartingTaken methods t taken left

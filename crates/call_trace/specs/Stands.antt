-- How calls stand after a trace: which exchanges are their last, which offers are open.
use Rattle.std.specs.Prelude.{◌≡◌, ◌≢◌, ℕ, ◌<◌, List, [], ◌∷◌, Bool, true, false, not, Some, ◌⊎◌, IsTrue}
use Rattle.call_trace.specs.declared.datagram.Direction.TheVariants.{Taken, Sent}
use Rattle.call_trace.specs.declared.datagram.Datagram.{Datagram}
use Rattle.call_trace.specs.declared.datagram.Dialog.{Dialog}
use Rattle.call_trace.specs.declared.call.Session.{Session}
use Rattle.call_trace.specs.declared.call.Settled.{Settled}
use Rattle.call_trace.specs.declared.call.Stage.TheVariants.{Asked, Answered}
use Rattle.call_trace.specs.declared.call.Offer.{Offer}
use Rattle.call_trace.specs.declared.call.Call.{Call}
use Rattle.call_trace.specs.Messages.{invite, ack, bye, cancel, is_listed, is_method, asks, is_offer}
use Rattle.call_trace.specs.Exchanges.{At, TakesFinal, Exchange, IsLast}
use Rattle.call_trace.specs.Passing.{IsPassedOn}
use Rattle.call_trace.specs.Calls.{CallFrom, Ended}
use Rattle.call_trace.specs.Promise.{AreSaid}
use Rattle.call_trace.specs.Listed.{AllOf, AnyOf}

-- the dialog with the caller or with the callee
abbrev pub leg : Call → Bool → Dialog
leg c true = c.caller
leg c false = c.callee

-- ---- an open offer

-- The offer of x was passed on to y in one event, by requests at these places, and no final response to it was taken.
pub record IsOffered (methods : List (List ℕ)) (t : List Datagram) (x y : Dialog) (p : Offer) (i k : ℕ) (came went : Datagram) : Type 0 where
  pub at_came : At t i came
  pub at_went : At t k went
  pub taken : came.direction ≡ Taken
  pub sent : went.direction ≡ Sent
  pub event : came.event ≡ went.event
  pub came_is : came.message ≡ p.came
  pub went_is : went.message ≡ p.went
  pub offer_came : IsTrue (is_offer methods p.came)
  pub offer_went : IsTrue (is_offer methods p.went)
  pub method : p.came.method ≡ p.went.method
  pub came_call : p.came.call_id ≡ x.call_id
  pub came_from : p.came.from_tag ≡ x.theirs
  pub came_to : (p.came.to_tag ≡ []) ⊎ (p.came.to_tag ≡ x.ours)
  pub went_call : p.went.call_id ≡ y.call_id
  pub went_from : p.went.from_tag ≡ y.ours
  pub went_to : p.went.to_tag ≡ y.theirs
  pub unanswered : (n : ℕ) (r : Datagram) → At t n r → ¬ TakesFinal r p.went

abbrev pub Offered : List (List ℕ) → List Datagram → Dialog → Dialog → Offer → Type 0
Offered methods t x y p = (i : ℕ) × (k : ℕ) × (came : Datagram) × (went : Datagram) × IsOffered methods t x y p i k came went

-- ---- a settled session

-- the last exchanges of x and of y were passed on, and this was said in them
pub record IsSettled (methods : List (List ℕ)) (t : List Datagram) (dx dy : Dialog) (s : Session) (x y : Exchange) : Type 0 where
  pub last_x : IsLast methods t dx x
  pub last_y : IsLast methods t dy y
  pub passed_on : IsPassedOn x y
  pub said : AreSaid x y s

abbrev pub SettledIn : List (List ℕ) → List Datagram → Dialog → Dialog → Session → Type 0
SettledIn methods t dx dy s = (x : Exchange) × (y : Exchange) × IsSettled methods t dx dy s x y

-- ---- a call

-- the first offer of a call: the caller's INVITE, which has no To tag; and the callee has no tag yet
pub record IsFirstOffer (c : Call) (p : Offer) : Type 0 where
  pub by_caller : p.by_caller ≡ true
  pub invite : IsTrue (is_method invite p.came.method)
  pub no_tag : p.came.to_tag ≡ []
  pub callee : c.callee.theirs ≡ []

pub record CallStands (methods : List (List ℕ)) (t : List Datagram) (c : Call) : Type 0 where
  pub session : (z : Settled) → c.stage ≡ Answered z → SettledIn methods t (leg c z.by_caller) (leg c (not z.by_caller)) z.session
  pub offer : (p : Offer) → c.offer ≡ Some p → Offered methods t (leg c p.by_caller) (leg c (not p.by_caller)) p
  pub first : c.stage ≡ Asked → (p : Offer) → c.offer ≡ Some p → IsFirstOffer c p
  pub later : (z : Settled) → c.stage ≡ Answered z → (p : Offer) → c.offer ≡ Some p → p.came.to_tag ≡ (leg c p.by_caller).ours
  pub begun : c.stage ≢ Asked → CallFrom methods t c.caller c.callee

-- ---- the calls

abbrev pub IsTagOf : Call → List ℕ → Type 0
IsTagOf c tag = (tag ≡ c.caller.ours) ⊎ (tag ≡ c.callee.ours)

abbrev pub Apart : Call → Call → Type 0
Apart c d = (tag : List ℕ) → IsTagOf c tag → IsTagOf d tag → ⊥

-- no tag of ours is of two calls
abbrev pub AllApart : List Call → Type 0
AllApart [] = Unit {0}
AllApart (c ∷ cs) = AllOf (Apart c) cs × AllApart cs

-- the call's two tags of ours are there, and differ
pub record HasTags (c : Call) : Type 0 where
  pub caller : c.caller.ours ≢ []
  pub callee : c.callee.ours ≢ []
  pub differ : c.caller.ours ≢ c.callee.ours

-- the two dialogs are the caller's and the callee's of the call, which was answered
pub record IsCallOf (dx dy : Dialog) (c : Call) : Type 0 where
  pub answered : c.stage ≢ Asked
  pub caller : c.caller ≡ dx
  pub callee : c.callee ≡ dy

-- of the methods that may carry an offer, INVITE is one (RFC 3261 section 13.2.1), and neither ACK nor BYE nor CANCEL
-- is
pub record AreOffering (methods : List (List ℕ)) : Type 0 where
  pub invites : IsTrue (is_listed methods invite)
  pub acks : IsTrue (not (is_listed methods ack))
  pub byes : IsTrue (not (is_listed methods bye))
  pub cancels : IsTrue (not (is_listed methods cancel))

-- a request of ours that may carry an offer is at the place
pub record AsksAt (methods : List (List ℕ)) (t : List Datagram) (i : ℕ) (p : Datagram) : Type 0 where
  pub at : At t i p
  pub sent : p.direction ≡ Sent
  pub asks : IsTrue (asks methods p.message)

-- and one that was taken
pub record AskedAt (methods : List (List ℕ)) (t : List Datagram) (i : ℕ) (p : Datagram) : Type 0 where
  pub at : At t i p
  pub taken : p.direction ≡ Taken
  pub asks : IsTrue (asks methods p.message)

abbrev pub Known : List (List ℕ) → List Datagram → List Call → Type 0
Known methods t calls = (dx dy : Dialog) → CallFrom methods t dx dy → AnyOf (IsCallOf dx dy) calls ⊎ (Ended t dx × Ended t dy)

-- n events have passed. One event takes at most one datagram. Requests that are sent with one branch are copies, and of
-- these only one was sent in an event that took a request. Two dialogs that are a call are listed, or both have ended.
pub record StandsAfter (methods : List (List ℕ)) (calls : List Call) (n : ℕ) (t : List Datagram) : Type 0 where
  pub offering : AreOffering methods
  pub events : (i : ℕ) (p : Datagram) → At t i p → p.event < n
  pub one_taken : (i k : ℕ) (p q : Datagram) → At t i p → At t k q → p.direction ≡ Taken → q.direction ≡ Taken → p.event ≡ q.event → i ≡ k
  pub copies : (i k : ℕ) (p q : Datagram) → AsksAt methods t i p → AsksAt methods t k q → p.message.branch ≡ q.message.branch → p.message ≡ q.message
  pub one_birth : (i k i' k' : ℕ) (p q p' q' : Datagram) → AsksAt methods t i p → AsksAt methods t k q → AskedAt methods t i' p' → AskedAt methods t k' q'
      → p'.event ≡ p.event → q'.event ≡ q.event → p.message.branch ≡ q.message.branch → i ≡ k
  pub tags : AllOf HasTags calls
  pub apart : AllApart calls
  pub stand : AllOf (CallStands methods t) calls
  pub known : Known methods t calls

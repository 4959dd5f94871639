-- Which two dialogs are a call, which dialogs are live, and in which an offer is open.
use Rattle.std.specs.Prelude.{◌≡◌, ◌≢◌, ℕ, ◌<◌, List, [], ◌⊎◌, IsTrue}
use Rattle.call_trace.specs.declared.datagram.Direction.TheVariants.{Taken, Sent}
use Rattle.call_trace.specs.declared.datagram.Datagram.{Datagram}
use Rattle.call_trace.specs.declared.datagram.Dialog.{Dialog}
use Rattle.call_trace.specs.Messages.{invite, ack, bye, is_ok, is_method, is_request_of, asks, accepts, Replies}
use Rattle.call_trace.specs.Dialogs.{dialog_of}
use Rattle.call_trace.specs.Exchanges.{At, TakesFinal, Exchange, IsExchange}
use Rattle.call_trace.specs.Passing.{IsPassedOn, PassedTogether}

-- an exchange that began the dialog: its INVITE has no To tag, and its 2xx names the dialog (RFC 3261 section 12.1)
pub record IsFirst (methods : List (List ℕ)) (t : List Datagram) (d : Dialog) (e : Exchange) : Type 0 where
  pub exchange : IsExchange methods t d e
  pub invite : IsTrue (is_method invite e.asked.message.method)
  pub no_tag : e.asked.message.to_tag ≡ []
  pub named : dialog_of e.answered ≡ d

-- the exchanges that began the two dialogs were passed together
pub record AreBegun (methods : List (List ℕ)) (t : List Datagram) (dx dy : Dialog) (x y : Exchange) : Type 0 where
  pub first_x : IsFirst methods t dx x
  pub first_y : IsFirst methods t dy y
  pub together : PassedTogether x y

-- the two dialogs are a call
abbrev pub CallOf : List (List ℕ) → List Datagram → Dialog → Dialog → Type 0
CallOf methods t dx dy = (x : Exchange) × (y : Exchange) × AreBegun methods t dx dy x y

-- and so that the INVITE was taken in the first and sent on in the second: its end called the end of the second
pub record AreCalled (methods : List (List ℕ)) (t : List Datagram) (dx dy : Dialog) (x y : Exchange) : Type 0 where
  pub first_x : IsFirst methods t dx x
  pub first_y : IsFirst methods t dy y
  pub passed_on : IsPassedOn x y

abbrev pub CallFrom : List (List ℕ) → List Datagram → Dialog → Dialog → Type 0
CallFrom methods t dx dy = (x : Exchange) × (y : Exchange) × AreCalled methods t dx dy x y

-- ---- live

-- what was sent in the dialog
pub record IsSentIn (t : List Datagram) (d : Dialog) (i : ℕ) (p : Datagram) : Type 0 where
  pub at : At t i p
  pub sent : p.direction ≡ Sent
  pub named : dialog_of p ≡ d

-- an INVITE was accepted in the dialog
pub record IsAccepted (t : List Datagram) (d : Dialog) (i : ℕ) (p : Datagram) : Type 0 where
  pub sent : IsSentIn t d i p
  pub accepts : IsTrue (accepts p.message)

-- the branch is that of no INVITE that was sent: so an ACK with it is one to a 2xx (RFC 3261 sections 13.2.2.4 and
-- 17.1.1.3)
abbrev pub IsOwnBranch : List Datagram → List ℕ → Type 0
IsOwnBranch t branch = (k : ℕ) (q : Datagram) → At t k q → q.direction ≡ Sent → IsTrue (is_request_of invite q.message) → q.message.branch ≢ branch

-- a 2xx was acknowledged in the dialog
pub record IsAcknowledged (t : List Datagram) (d : Dialog) (i : ℕ) (p : Datagram) : Type 0 where
  pub sent : IsSentIn t d i p
  pub acknowledges : IsTrue (is_request_of ack p.message)
  pub own_branch : IsOwnBranch t p.message.branch

-- a 2xx to an INVITE was sent in the dialog, or one was taken and acknowledged (RFC 3261 section 12.1)
abbrev pub Begun : List Datagram → Dialog → Type 0
Begun t d = ((i : ℕ) × (p : Datagram) × IsAccepted t d i p) ⊎ ((i : ℕ) × (p : Datagram) × IsAcknowledged t d i p)

-- a BYE was sent in the dialog
pub record IsByeSent (t : List Datagram) (d : Dialog) (i : ℕ) (p : Datagram) : Type 0 where
  pub sent : IsSentIn t d i p
  pub ends : IsTrue (is_request_of bye p.message)

-- a BYE was taken in the dialog, and a 200 to it was sent later (RFC 3261 section 15.1.2)
pub record IsByeServed (t : List Datagram) (d : Dialog) (i j : ℕ) (p r : Datagram) : Type 0 where
  pub at_asked : At t i p
  pub at_answered : At t j r
  pub later : i < j
  pub taken : p.direction ≡ Taken
  pub ends : IsTrue (is_request_of bye p.message)
  pub named : dialog_of p ≡ d
  pub sent : r.direction ≡ Sent
  pub ok : IsTrue (is_ok r.message.kind)
  pub replies : Replies r.message p.message

abbrev pub Ended : List Datagram → Dialog → Type 0
Ended t d = ((i : ℕ) × (p : Datagram) × IsByeSent t d i p) ⊎ ((i : ℕ) × (j : ℕ) × (p : Datagram) × (r : Datagram) × IsByeServed t d i j p r)

abbrev pub Live : List Datagram → Dialog → Type 0
Live t d = Begun t d × ¬ Ended t d

-- ---- open

-- a request that may carry an offer was sent in the dialog, and no final response to it was taken since
pub record IsUnanswered (methods : List (List ℕ)) (t : List Datagram) (d : Dialog) (i : ℕ) (p : Datagram) : Type 0 where
  pub sent : IsSentIn t d i p
  pub asks : IsTrue (asks methods p.message)
  pub unanswered : (k : ℕ) (r : Datagram) → i < k → At t k r → ¬ TakesFinal r p.message

-- an offer is open in the dialog
abbrev pub Open : List (List ℕ) → List Datagram → Dialog → Type 0
Open methods t d = (i : ℕ) × (p : Datagram) × IsUnanswered methods t d i p

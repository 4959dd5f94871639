-- Which dialogs are live: the legs of the calls that were answered.
use Rattle.std.specs.Prelude.{◌≡◌, ◌≢◌, ℕ, List, Bool, ◌⊎◌, IsTrue}
use Rattle.call_trace.specs.declared.datagram.Direction.TheVariants.{Sent}
use Rattle.call_trace.specs.declared.datagram.Datagram.{Datagram}
use Rattle.call_trace.specs.declared.datagram.Dialog.{Dialog}
use Rattle.call_trace.specs.declared.call.Settled.{Settled}
use Rattle.call_trace.specs.declared.call.Stage.{Stage}
use Rattle.call_trace.specs.declared.call.Stage.TheVariants.{Asked, Answered, Ending}
use Rattle.call_trace.specs.declared.call.Call.{Call}
use Rattle.call_trace.specs.Messages.{bye, is_ok, is_method, is_request_of}
use Rattle.call_trace.specs.Dialogs.{dialog_of}
use Rattle.call_trace.specs.Exchanges.{At}
use Rattle.call_trace.specs.Calls.{CallOf, CallFrom, Begun, Ended, Live}
use Rattle.call_trace.specs.Listed.{AllOf, AnyOf}
use Rattle.call_trace.specs.Stands.{leg, IsTagOf, AllApart, StandsAfter}

-- one end has left the call
abbrev pub IsEnding : Stage → Type 0
IsEnding Asked = ⊥
IsEnding (Answered z) = ⊥
IsEnding (Ending by_caller) = Unit {0}

-- a leg of the call, which was answered, and whose end it may be
pub record IsLegOf (d : Dialog) (c : Call) : Type 0 where
  pub answered : c.stage ≢ Asked
  pub leg : (c.caller ≡ d) ⊎ (c.callee ≡ d)

-- what this BYE says leaves the call alone: it is in neither dialog, and where the callee has no tag yet, not from the
-- callee's leg
pub record SparesCall (p : Datagram) (c : Call) : Type 0 where
  pub caller : ¬ IsEnding c.stage → dialog_of p ≢ c.caller
  pub callee : ¬ IsEnding c.stage → dialog_of p ≢ c.callee
  pub first : c.stage ≡ Asked → p.message.from_tag ≢ c.callee.ours

-- no BYE was sent in the call, and no 200 to one
pub record NoBye (t : List Datagram) (c : Call) : Type 0 where
  pub sent : (i : ℕ) (p : Datagram) → At t i p → p.direction ≡ Sent → IsTrue (is_request_of bye p.message) → SparesCall p c
  pub answered : ¬ IsEnding c.stage → (i : ℕ) (p : Datagram) → At t i p → p.direction ≡ Sent → IsTrue (is_ok p.message.kind) → IsTrue (is_method bye p.message.method) → ¬ IsTagOf c p.message.to_tag

pub record LegsStand (t : List Datagram) (c : Call) : Type 0 where
  pub quiet : NoBye t c
  pub caller : c.stage ≢ Asked → Begun t c.caller
  pub callee : c.stage ≢ Asked → Begun t c.callee
  pub ending : (b : Bool) → c.stage ≡ Ending b → Ended t (leg c b)

pub record LivesAfter (calls : List Call) (t : List Datagram) : Type 0 where
  pub legs : AllOf (LegsStand t) calls
  pub begun : (d : Dialog) → Begun t d → AnyOf (IsLegOf d) calls ⊎ Ended t d

-- How calls stand after a trace of n events: their sessions, and which dialogs are live.
pub record Stands (methods : List (List ℕ)) (calls : List Call) (n : ℕ) (t : List Datagram) : Type 0 where
  pub sessions : StandsAfter methods calls n t
  pub lives : LivesAfter calls t

-- ---- what it gives

abbrev pub IsOneCall : List (List ℕ) → List Datagram → Dialog → Type 0
IsOneCall methods t d = (e : Dialog) × CallOf methods t d e × ((f : Dialog) → CallOf methods t d f → f ≡ e)

-- these are the dialogs of the call, the caller's and the callee's, and it was answered and no end has left it
pub record IsAnsweredCall (dx dy : Dialog) (c : Call) : Type 0 where
  pub answered : (z : Settled) × (c.stage ≡ Answered z)
  pub caller : c.caller ≡ dx
  pub callee : c.callee ≡ dy

-- The calls that are listed as answered are exactly those with two live dialogs, each once, with the dialogs of its
-- caller and its callee. The leg of an ending call that has left it has ended. Each live dialog is a leg of a listed
-- call that was answered, and is a call with exactly one other dialog.
pub record LivesExactly (methods : List (List ℕ)) (calls : List Call) (t : List Datagram) : Type 0 where
  pub answered : AllOf (λ c. (z : Settled) → c.stage ≡ Answered z → CallFrom methods t c.caller c.callee × Live t c.caller × Live t c.callee) calls
  pub listed : (dx dy : Dialog) → CallFrom methods t dx dy → Live t dx → Live t dy → AnyOf (IsAnsweredCall dx dy) calls
  pub once : AllApart calls
  pub ending : AllOf (λ c. (b : Bool) → c.stage ≡ Ending b → Ended t (leg c b)) calls
  pub legs : (d : Dialog) → Live t d → AnyOf (IsLegOf d) calls
  pub one_call : (d : Dialog) → Live t d → IsOneCall methods t d

-- The sessions of the live calls, as the pool of ports and the relay table serve them.
use Rattle.std.specs.Prelude.{◌≡◌, ◌≢◌, ℕ, true, false, is_some, List, find, Option, Some, None, IfSome, option_map}
use Rattle.std.specs.FinMap.{get}
use Rattle.port_pool.specs.Holdings.{even_of, holder_at, is_among}
use Rattle.port_pool.specs.Pool.{Contents, IsPool, is_port_of}
use Rattle.offer_answer.specs.declared.range.OwnRange.{OwnRange}
use Rattle.offer_answer.specs.Direct.{hold_address}
use Rattle.call_media.specs.declared.session.Session.{Session}
use Rattle.call_media.specs.declared.state.CallMedia.{CallMedia}
use Rattle.call_media.specs.Sessions.{pairs_listed}
use Rattle.call_core.specs.declared.call.Call.{Call}
use Rattle.call_core.specs.Calls.{awaits_answer, has_session, holds_in}
use Rattle.calls.specs.declared.standing_call.StandingCall.{StandingCall}
use Rattle.calls.specs.Finding.{has_number}
use Rattle.calls.specs.State.{AreKept, Standing}
use Rattle.plans.specs.Office.{Office}
use Rattle.call_trace.specs.declared.call.Session as traces
use Rattle.call_trace.specs.Listed.{AllOf, AnyOf}
use Rattle.call_trace.specs.Promise.{IsReaddressed}
use Rattle.call_trace.specs.Serving.{Hop, IsPairOf, IsRowOf, LeadsSession}

-- ---- as a trace sees them

-- the session: what the ends said last, and what they were sent
abbrev pub trace_session : Session → traces.Session
trace_session x = record { offer_taken = x.offer_taken; answer_sent = x.answer_sent; offer_sent = x.offer_sent; answer_taken = x.answer_taken }

-- the relay table
abbrev pub trace_table : Contents → ℕ → Option Hop
trace_table pool port = option_map (λ h. record { to = h.to; from = h.from }) (get pool.rows port)

-- the number of the call that holds the pair of a port
abbrev pub holder_in : Contents → ℕ → Option ℕ
holder_in pool port = holder_at pool.holdings port

-- ---- the media of a call

-- each port that the call holds is of a pair of its session; of none where it has no session
abbrev pub HoldsNoOther : Contents → CallMedia → Type 0
HoldsNoOther pool m = (port : ℕ) → is_port_of pool m.number port ≡ true → is_among (pairs_listed m.session) (even_of port) ≡ true

-- They have the server's range; the table leads each port that the session names as the session asks; and while no
-- offer is open, the call holds the pairs of its session alone.
pub record IsServedAsAsked (server : OwnRange) (pool : Contents) (m : CallMedia) : Type 0 where
  pub range : m.range ≡ server
  pub leads : IfSome m.session (λ x. LeadsSession (trace_table pool) (trace_session x))
  pub exact : m.offer ≡ None → HoldsNoOther pool m

-- ---- what the agent knows

-- Each row of the table is of a pair that is held; the pool serves each live call, as it asks; and only these calls
-- hold it.
pub record IsServing (server : OwnRange) (s : Standing) : Type 0 where
  pub pool : IsPool s.pool
  pub kept : AreKept s.calls s.pool s.begun
  pub calls : AllOf (λ c. IsServedAsAsked server s.pool c.call.media) s.calls
  pub holders : (port number : ℕ) → holder_in s.pool port ≡ Some number → AnyOf (λ c. c.call.number ≡ number) s.calls

-- the server has an address, and its calls are served in its range
pub record KnowsServing (s : Office) : Type 0 where
  pub address : s.range.ip ≢ hold_address
  pub calls : IsServing s.range s.calls

-- ---- what follows of the sessions of the live calls

-- the session is the call's
abbrev pub IsSessionOf : Session → StandingCall → Type 0
IsSessionOf x c = c.call.media.session ≡ Some x

-- P holds for each live session, with its call
abbrev pub OfEach : (StandingCall → Session → Type 0) → Office → Type 0
OfEach P s = AllOf (λ c. (x : Session) → IsSessionOf x c → P c x) s.calls.calls

-- a call has a session exactly where its stage has one, and an offer is open where it awaits an answer
pub record IsStaged (c : Call) : Type 0 where
  pub session : is_some c.media.session ≡ holds_in has_session c.standing
  pub offer : is_some c.media.offer ≡ holds_in awaits_answer c.standing

abbrev pub AreStaged : Office → Type 0
AreStaged s = AllOf (λ c. IsStaged c.call) s.calls.calls

-- what each end was sent matches what the other said, with places at the server
abbrev pub AreTold : Office → Type 0
AreTold s = OfEach (λ c x. IsReaddressed s.range.ip (trace_session x)) s

-- the table leads each port that a session names as the session asks
abbrev pub AreLed : Office → Type 0
AreLed s = OfEach (λ c x. LeadsSession (trace_table s.calls.pool) (trace_session x)) s

-- each row of the table is a row of a live session
abbrev pub HasNoOtherRow : Office → Type 0
HasNoOtherRow s = (port : ℕ) (hop : Hop) → trace_table s.calls.pool port ≡ Some hop
    → AnyOf (λ c. (x : Session) × IsSessionOf x c × IsRowOf (record { port = port; to = hop.to; from = hop.from }) (trace_session x)) s.calls.calls

-- each pair that a session names is held by its call
abbrev pub HoldTheirPairs : Office → Type 0
HoldTheirPairs s = OfEach (λ c x. (port : ℕ) → IsPairOf port (trace_session x) → holder_in s.calls.pool port ≡ Some c.call.number) s

-- a port is held by a live call, by its number
abbrev pub AreHeldByCalls : Office → Type 0
AreHeldByCalls s = (port number : ℕ) → holder_in s.calls.pool port ≡ Some number → AnyOf (λ c. c.call.number ≡ number) s.calls.calls

-- the live call with this number
abbrev pub call_numbered : List StandingCall → Option ℕ → Option StandingCall
call_numbered calls None = None
call_numbered calls (Some number) = find (has_number number) calls

-- the call that holds the pair of a port
abbrev pub call_holding : Office → ℕ → Option StandingCall
call_holding s port = call_numbered s.calls.calls (holder_in s.calls.pool port)

-- each pair that a session names is held by its call, and by no other one
abbrev pub HeldByTheirCalls : Office → Type 0
HeldByTheirCalls s = OfEach (λ c x. (port : ℕ) → IsPairOf port (trace_session x) → call_holding s port ≡ Some c) s

-- a port is held by a live call
abbrev pub HoldersStand : Office → Type 0
HoldersStand s = (port : ℕ) (c : StandingCall) → call_holding s port ≡ Some c → AnyOf (λ x. x ≡ c) s.calls.calls

-- while no offer is open in a call, it holds the pairs of its session alone
abbrev pub HoldNoOthers : Office → Type 0
HoldNoOthers s =
    AllOf (λ c. holds_in awaits_answer c.call.standing ≡ false → (port : ℕ) → holder_in s.calls.pool port ≡ Some c.call.number → is_among (pairs_listed c.call.media.session) (even_of port) ≡ true)
    s.calls.calls

-- The live calls next to the calls that a trace lists: where the two are of the same sessions, what the agent serves
-- is what the trace is promised of ports and rows.
use Rattle.std.specs.Prelude.{◌≡◌, ◌||◌, ℕ, true, List, Option, option_map}
use Rattle.call_media.specs.declared.session.Session.{Session}
use Rattle.call_core.specs.Calls.{awaits_answer, has_session, holds_in}
use Rattle.calls.specs.declared.standing_call.StandingCall.{StandingCall}
use Rattle.plans.specs.Office.{Office}
use Rattle.call_trace.specs.declared.call.Call.{Call}
use Rattle.call_trace.specs.declared.call.Settled.{Settled}
use Rattle.call_trace.specs.declared.call.Stage.TheVariants.{Answered}
use Rattle.call_trace.specs.declared.datagram.Dialog.{Dialog}
use Rattle.call_trace.specs.Listed.{AllOf, AnyOf}
use Rattle.message_laws.specs.Serving.{IsSessionOf, call_holding, trace_session}

-- the caller's dialog of the call that holds the pair of a port
abbrev pub holder_by : (StandingCall → Dialog) → Office → ℕ → Option Dialog
holder_by caller s port = option_map caller (call_holding s port)

-- the session was settled in an answered call last
abbrev pub WasSettled : Session → Call → Type 0
WasSettled y x = (z : Settled) × (x.stage ≡ Answered z) × (z.session ≡ trace_session y)

-- The session of each answered call is in a call of the same caller's dialog; each live session was settled last in
-- an answered call; and each live call that has a session, or awaits an answer, is listed by its caller's dialog.
pub record AreTraced (caller : StandingCall → Dialog) (standing : List StandingCall) (calls : List Call) : Type 0 where
  pub settled : AllOf (λ x. (z : Settled) → x.stage ≡ Answered z → AnyOf (λ c. (y : Session) × IsSessionOf y c × (z.session ≡ trace_session y) × (caller c ≡ x.caller)) standing) calls
  pub sessions : AllOf (λ c. (y : Session) → IsSessionOf y c → AnyOf (WasSettled y) calls) standing
  pub callers : AllOf (λ c. (holds_in has_session c.call.standing || holds_in awaits_answer c.call.standing) ≡ true → AnyOf (λ x. x.caller ≡ caller c) calls) standing

-- Why a step is refused.
use Rattle.std.specs.Prelude.{ℕ, Option, Some, None}
use Rattle.port_pool.specs.Pool.{Contents}
use Rattle.call_core.specs.declared.input.Input.{Input}
use Rattle.call_core.specs.declared.refusal.CallRefusal.{CallRefusal}
use Rattle.call_core.specs.Refusals.{IsNoMemory, RefusesInput}
use Rattle.calls.specs.declared.standing_call.StandingCall.{StandingCall}

-- an input of the call at a place: an offer for the reasons that the call has, any other only when memory ran out
abbrev pub RefusesTaken : Option StandingCall → Contents → Input → ℕ → CallRefusal → Type 0
RefusesTaken None pool input now refusal = IsNoMemory refusal
RefusesTaken (Some c) pool input now refusal = RefusesInput c.call pool input now refusal

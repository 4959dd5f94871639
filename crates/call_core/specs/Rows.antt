-- A row of the table of calls: what is done, and what comes next.
use Rattle.std.specs.Prelude.{ℕ, ◌*◌, min, List, [], ◌∷◌, Some, None}
use Rattle.call_core.specs.declared.action.Action.{Action}
use Rattle.call_core.specs.declared.action.Action.TheVariants.{Set}
use Rattle.call_core.specs.declared.action.CallTimer.TheVariants.{Lifetime}
use Rattle.call_media.specs.declared.end.End.{End}
use Rattle.transaction_machines.specs.Steps.{t1, t2, timeout}
use Rattle.call_core.specs.declared.row.Row.{Row}
use Rattle.call_core.specs.declared.stage.Stage.{Stage}

-- the call goes on after these actions
abbrev pub row : List Action → End → Stage → Row
row actions offerer stage = record { actions = actions; next = Some (record { offerer = offerer; stage = stage }) }

-- the call is gone after these actions
abbrev pub gone : List Action → Row
gone actions = record { actions = actions; next = None }

-- ---- moments, in milliseconds

-- a 2xx is sent again after T1 and then at intervals that double up to T2, for 64*T1 (RFC 3261 section 13.3.1.4)
abbrev pub first_interval : ℕ
first_interval = t1

abbrev pub twice_to_t2 : ℕ → ℕ
twice_to_t2 interval = min t2 (2 * interval)

abbrev pub wait_time : ℕ
wait_time = timeout

-- how long a callee may ring after its first provisional response: 180 seconds (the server's own)
abbrev pub ringing_time : ℕ
ringing_time = 180000

-- how long the end across may take after its first provisional response to an INVITE inside a call, or after a CANCEL:
-- 32 seconds (RFC 3261 section 9.1)
abbrev pub short_time : ℕ
short_time = timeout

-- the call has lasted long enough, while an offer or its ACK is open: it is checked again that much later
abbrev pub outlasts : End → Stage → Row
outlasts x stage = row (Set Lifetime short_time ∷ []) x stage

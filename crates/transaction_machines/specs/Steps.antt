-- The intervals of RFC 3261 section 17, and the lines that the tables of the machines are made of.
use Rattle.std.specs.Prelude.{ℕ, ◌*◌, ◌≤◌, Option, Some, None, min}
use Rattle.transaction_machines.specs.declared.input.TimerKind.{TimerKind}
use Rattle.transaction_machines.specs.declared.state.State.{State}
use Rattle.transaction_machines.specs.declared.step.Sending.{Sending}
use Rattle.transaction_machines.specs.declared.step.Sending.TheVariants as sends
use Rattle.transaction_machines.specs.declared.step.Told.{Told}
use Rattle.transaction_machines.specs.declared.step.Start.{Start}
use Rattle.transaction_machines.specs.declared.step.Starts.{Starts}
use Rattle.transaction_machines.specs.declared.step.Starts.TheVariants.{NoTimer, One, Two}
use Rattle.transaction_machines.specs.declared.step.Stops.{Stops}
use Rattle.transaction_machines.specs.declared.step.Stops.TheVariants as stops
use Rattle.transaction_machines.specs.declared.step.Step.{Step}

-- the intervals, in milliseconds
abbrev pub t1 : ℕ
t1 = 500

abbrev pub t2 : ℕ
t2 = 4000

abbrev pub t4 : ℕ
t4 = 5000

-- when a transaction gives up: timers B, F, H, J, L, M and N
abbrev pub timeout : ℕ
timeout = 64 * t1

-- timer D over an unreliable transport: at least 32 s
abbrev pub d_after : ℕ
d_after = timeout

-- twice the interval, at most T2: timers E and G
abbrev pub after_t2 : ℕ → ℕ
after_t2 interval = min (2 * interval) t2

-- twice the interval: timer A. At 64*T1 timer B has ended the transaction
abbrev pub after_limit : ℕ → ℕ
after_limit interval = min (2 * interval) timeout

abbrev pub timer : TimerKind → ℕ → Start
timer kind after = record { kind = kind; after = after }

-- the next state, what is sent, what is reported to the core, which timers stop, and which start then
abbrev pub line : State → Sending → Told → Stops → Starts → Option Step
line next send told stops starts = Some (record { next = Some next; send = send; told = told; stops = stops; starts = starts })

-- the transaction ends
abbrev pub ended : Told → Option Step
ended told = Some (record { next = None; send = sends.Nothing; told = told; stops = stops.Every; starts = NoTimer })

-- no timer runs for more than 32 seconds
abbrev pub IsShort : Starts → Type 0
IsShort NoTimer = Unit {0}
IsShort (One s) = s.after ≤ timeout
IsShort (Two s t) = (s.after ≤ timeout) × (t.after ≤ timeout)

-- How long a call may last from its first answer on (the server's own).
use Rattle.std.specs.Prelude.{ℕ, ◌*◌, List, Option, Some, None, option_map}
use Rattle.timers.specs.declared.timers.Timer.{Timer}
use Rattle.timers.specs.Queue.{set}
use Rattle.call_core.specs.declared.action.CallTimer.TheVariants.{Lifetime}
use Rattle.call_core.specs.declared.note.CallNote.{CallNote}
use Rattle.call_core.specs.declared.note.CallNote.TheVariants.{Answered}
use Rattle.calls.specs.declared.timer_id.CallTimerId.{CallTimerId}
use Rattle.calls.specs.State.{Standing}
use Rattle.calls.specs.Timing.{id, moment_after, same_timer}
use Rattle.configuration.specs.declared.config.Config.{Config}
use Rattle.plans.specs.declared.note.Note.{Note}
use Rattle.plans.specs.declared.note.Note.TheVariants.{Call}

-- this many milliseconds, where the configuration says how many hours
abbrev pub lifetime_of : Config → Option ℕ
lifetime_of c = option_map (λ hours. 3600000 * hours) c.longest_call_hours

-- an event about the first answer of a call begins that call's lifetime; later answers leave it as it is
abbrev pub begun_by : ℕ → CallNote → Option ℕ
begun_by number Answered = Some number
begun_by number note = None

-- the number of the call whose lifetime begins
abbrev pub lifetime_begun : Note → Option ℕ
lifetime_begun (Call n) = begun_by n.number n.note
lifetime_begun note = None

-- a timer of the call ends its lifetime, where that is limited
abbrev pub limited : Option ℕ → ℕ → Option ℕ → List (Timer CallTimerId) → List (Timer CallTimerId)
limited (Some lifetime) now (Some number) timers = set same_timer timers (id number Lifetime) (moment_after now lifetime)
limited lifetime now number timers = timers

-- the calls after an event of this moment that was about this
abbrev pub with_lifetime : Option ℕ → ℕ → Note → Standing → Standing
with_lifetime lifetime now note s =
    record { calls = s.calls; pool = s.pool; begun = s.begun; timers = limited lifetime now (lifetime_begun note) s.timers }

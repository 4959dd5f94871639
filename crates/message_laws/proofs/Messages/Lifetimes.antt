-- An event for which nothing is done begins no call's lifetime.
use Rattle.std.proofs.Common.{◌≡◌, ℕ, List, Option, Some, None, ap, refl}
use Rattle.timers.specs.declared.timers.Timer.{Timer}
use Rattle.calls.specs.State.{Standing}
use Rattle.calls.specs.declared.timer_id.CallTimerId.{CallTimerId}
use Rattle.plans.specs.Note.{note_of_taken}
use Rattle.plans.specs.declared.taken.Taken.{Taken}
use Rattle.plans.specs.declared.taken.Taken.TheVariants.{Done, Dropped, Idle, Shed}
use Rattle.event_rows.specs.Lifetimes.{lifetime_begun, limited, with_lifetime}

none_begins : (lifetime : Option ℕ) (now : ℕ) (taken : Taken) (timers : List (Timer CallTimerId)) → limited lifetime now (lifetime_begun (note_of_taken taken)) timers ≡ timers
none_begins None now taken timers = refl
none_begins (Some lifetime) now Done timers = refl
none_begins (Some lifetime) now (Dropped why) timers = refl
none_begins (Some lifetime) now Shed timers = refl
none_begins (Some lifetime) now Idle timers = refl

pub same_calls : (lifetime : Option ℕ) (now : ℕ) (taken : Taken) (s : Standing) → with_lifetime lifetime now (note_of_taken taken) s ≡ s
same_calls lifetime now taken s =
    ap (λ (timers : List (Timer CallTimerId)). record { calls = s.calls; pool = s.pool; begun = s.begun; timers = timers }) (none_begins lifetime now taken s.timers)

-- The live calls, with the pool that serves them.
use Rattle.std.specs.Prelude.{◌≡◌, ℕ, ◌<◌, ◌≤◌, false, List, [], ◌∷◌}
use Rattle.index.specs.declared.print.PrintKey.{PrintKey}
use Rattle.port_pool.specs.Pool as pools
use Rattle.call_core.specs.Calls.{IsServed}
use Rattle.timers.specs.declared.timers.Timer.{Timer}
use Rattle.calls.specs.declared.timer_id.CallTimerId.{CallTimerId}
use Rattle.calls.specs.declared.standing_call.StandingCall.{StandingCall}

-- the calls in the order in which they began, the pool, how many calls began, and the timers of calls, the first due
-- first; with them, for how many more calls and timers there is room, and the key of the prints under which calls are
-- looked up
pub record Contents : Type 0 where
  pub calls : List StandingCall
  pub pool : pools.Contents
  pub begun : ℕ
  pub timers : List (Timer CallTimerId)
  pub room : ℕ
  pub timer_room : ℕ
  pub key : PrintKey

-- all of it but the room and the key
pub record Standing : Type 0 where
  pub calls : List StandingCall
  pub pool : pools.Contents
  pub begun : ℕ
  pub timers : List (Timer CallTimerId)

abbrev pub standing : Contents → Standing
standing s = record { calls = s.calls; pool = s.pool; begun = s.begun; timers = s.timers }

-- the pool serves each of them
abbrev pub AreServed : pools.Contents → List StandingCall → Type 0
AreServed pool [] = Unit {0}
AreServed pool (c ∷ calls) = IsServed c.call pool × AreServed pool calls

-- their numbers rise from above one number up to another
abbrev pub RiseTo : ℕ → ℕ → List StandingCall → Type 0
RiseTo last begun [] = last ≤ begun
RiseTo last begun (c ∷ calls) = (last < c.call.number) × RiseTo c.call.number begun calls

-- a call that has not begun has no pair
abbrev pub HoldsNone : pools.Contents → ℕ → Type 0
HoldsNone pool begun = (number port : ℕ) → begun < number → pools.is_port_of pool number port ≡ false

-- Each call has a number of its own, which is that of its beginning, counted from 1; the pool serves each, and holds
-- nothing for those to come.
pub record AreKept (calls : List StandingCall) (pool : pools.Contents) (begun : ℕ) : Type 0 where
  pub served : AreServed pool calls
  pub numbers : RiseTo 0 begun calls
  pub none : HoldsNone pool begun

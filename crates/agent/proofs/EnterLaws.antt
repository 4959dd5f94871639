-- A change among the calls, once there is room for it.
use Rattle.std.proofs.Common.{◌≡◌, ℕ, ◌<◌, ◌≤◌, subst, sym, arith}
use Rattle.calls.specs.Changes.{FitsChange, HasRoom}
use Rattle.calls.specs.State.{Contents, Standing}
use Rattle.calls.specs.declared.change.CallChange.{CallChange}
use Rattle.calls.specs.declared.change.CallChange.TheVariants.{Unchanged, Begins, Carries, Puts}

-- more room does as well
pub room_kept : (s s_after : Contents) (change : CallChange) → s.room ≤ s_after.room → s.timer_room ≤ s_after.timer_room → HasRoom s change → HasRoom s_after change
room_kept s s_after Unchanged more timers h = tt
room_kept s s_after (Begins c plan) more timers h = (omega (arith, more, h.0), omega (arith, timers, h.1))
room_kept s s_after (Carries place kept plan) more timers h = omega (arith, timers, h)
room_kept s s_after (Puts place leg) more timers h = tt

-- the same calls
pub fits_kept : (s s_after : Standing) (now : ℕ) (change : CallChange) → s_after ≡ s → FitsChange s now change → FitsChange s_after now change
fits_kept s s_after now change is h = subst (λ (x : Standing). FitsChange x now change) (sym is) h

-- What carrying a plan out at a place results in.
use Rattle.std.proofs.Common.{◌≡◌, ◌∙◌, ◌<◌, ℕ, cond, is_some, List, length, set, Some, sym, ap, subst}
use Rattle.std.specs.Prelude.{slice_get}
use Rattle.std.specs.List.{remove}
use Rattle.port_pool.specs.Pool as pools
use Rattle.port_pool.specs.declared.changes.Change.{Change}
use Rattle.timers.specs.declared.timers.Timer.{Timer}
use Rattle.call_core.specs.declared.plan.Plan.{Plan}
use Rattle.call_core.specs.Plans.{carried}
use Rattle.calls.specs.declared.change.Beside.{Beside}
use Rattle.calls.specs.declared.standing_call.StandingCall.{StandingCall}
use Rattle.calls.specs.declared.timer_id.CallTimerId.{CallTimerId}
use Rattle.calls.specs.Carrying.{Did, with_step, without_gone}
use Rattle.calls.specs.Changes.{beside, carries}
use Rattle.calls.specs.State.{AreKept, Standing}
use Rattle.calls.specs.Timing.{timers_planned}
use Rattle.calls.proofs.KeptLaws.{Spared, kept_gone, kept_set, number_beside, put_there, standing_beside}

-- the call as it is at its place afterwards
abbrev pub with_plan : StandingCall → pools.Contents → ℕ → Beside → Plan → StandingCall
with_plan c pool now put plan = beside put (with_step c (carried c.call pool now plan))

pub kept_carried : Spared → (cs : List StandingCall) (pool : pools.Contents) (place now begun : ℕ) (put : Beside) (plan : Plan)
    → (c : StandingCall) (there : List StandingCall) (after : pools.Contents) (made : List Change) → AreKept cs pool begun → slice_get cs place ≡ Some c
    → Did cs pool place now plan c (with_plan c pool now put plan) there after made
    → AreKept (without_gone there place (slice_get there place)) after begun
kept_carried law cs pool place now begun put plan c there after made kept is did =
    let number = number_beside put (with_step c (carried c.call pool now plan)) in
    let stood = kept_set law cs place c (with_plan c pool now put plan) pool after begun kept is number did.spares did.serves in
    kept_gone there place after begun (slice_get there place) (subst (λ (after_all : List StandingCall). AreKept after_all after begun) (sym did.calls) stood)

calls_carried : (cs : List StandingCall) (pool : pools.Contents) (place now : ℕ) (put : Beside) (plan : Plan)
    → (c : StandingCall) (there : List StandingCall) (after : pools.Contents) (made : List Change) → place < length cs
    → Did cs pool place now plan c (with_plan c pool now put plan) there after made
    → without_gone there place (slice_get there place) ≡ cond (is_some plan.next) (set cs place (with_plan c pool now put plan)) (remove cs place)
calls_carried cs pool place now put plan c there after made within did =
    ap (λ (xs : List StandingCall). without_gone xs place (slice_get xs place)) did.calls
    ∙ put_there cs place (with_plan c pool now put plan) within
    ∙ ap (λ standing. cond (is_some standing) (set cs place (with_plan c pool now put plan)) (remove cs place))
    (standing_beside put (with_step c (carried c.call pool now plan)))

same_standing : (calls others : List StandingCall) (pool other : pools.Contents) (begun : ℕ) (timers later : List (Timer CallTimerId))
    → calls ≡ others → pool ≡ other → timers ≡ later
    → Path Standing (record { calls = calls; pool = pool; begun = begun; timers = timers }) (record { calls = others; pool = other; begun = begun; timers = later })
same_standing calls others pool other begun timers later one two three = cc

pub standing_carried : (s : Standing) (place now : ℕ) (put : Beside) (plan : Plan)
    → (c : StandingCall) (there : List StandingCall) (after : pools.Contents) (made : List Change) (timers : List (Timer CallTimerId))
    → place < length s.calls → slice_get s.calls place ≡ Some c
    → Did s.calls s.pool place now plan c (with_plan c s.pool now put plan) there after made
    → timers ≡ timers_planned now c.call.number plan s.timers
    → Path Standing (record { calls = without_gone there place (slice_get there place); pool = after; begun = s.begun; timers = timers })
    (carries s now place put plan (slice_get s.calls place)).standing
standing_carried s place now put plan c there after made timers within is did timed =
    same_standing _ _ _ _ s.begun _ _ (calls_carried s.calls s.pool place now put plan c there after made within did) did.pool_there timed
    ∙ sym (ap (λ read. (carries s now place put plan read).standing) is)

pub changes_carried : (s : Standing) (place now : ℕ) (put : Beside) (plan : Plan)
    → (c : StandingCall) (there : List StandingCall) (after : pools.Contents) (made : List Change) → slice_get s.calls place ≡ Some c
    → Did s.calls s.pool place now plan c (with_plan c s.pool now put plan) there after made
    → made ≡ (carries s now place put plan (slice_get s.calls place)).changes
changes_carried s place now put plan c there after made is did =
    did.changes ∙ sym (ap (λ read. (carries s now place put plan read).changes) is)

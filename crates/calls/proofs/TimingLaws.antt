-- The equality of timers, as the code has it, is that of the words.
use Rattle.std.proofs.Common.{◌≡◌, ◌&&◌, ◌==◌, List, refl, ap}
use Rattle.std.specs.Prelude.{not}
use Rattle.std.proofs.lemmas.List.Elements.{filter_agree}
use denote.Enum.Bare.{sameb}
use Rattle.timers.specs.declared.timers.Timer.{Timer}
use Rattle.timers.specs.Queue.{without}
use Rattle.call_core.specs.contracts.action.CallTimer.{the_type}
use Rattle.call_core.specs.declared.action.CallTimer.{CallTimer}
use Rattle.call_core.specs.declared.action.CallTimer.TheVariants.{Limit, Repeat, Wait, Lifetime}
use Rattle.calls.specs.declared.timer_id.CallTimerId.{CallTimerId}
use Rattle.calls.specs.Timing.{same_kind, same_timer}

kinds_agree : (a b : CallTimer) → sameb the_type a b ≡ same_kind a b
kinds_agree Limit Limit = refl
kinds_agree Limit Repeat = refl
kinds_agree Limit Wait = refl
kinds_agree Limit Lifetime = refl
kinds_agree Repeat Limit = refl
kinds_agree Repeat Repeat = refl
kinds_agree Repeat Wait = refl
kinds_agree Repeat Lifetime = refl
kinds_agree Wait Limit = refl
kinds_agree Wait Repeat = refl
kinds_agree Wait Wait = refl
kinds_agree Wait Lifetime = refl
kinds_agree Lifetime Limit = refl
kinds_agree Lifetime Repeat = refl
kinds_agree Lifetime Wait = refl
kinds_agree Lifetime Lifetime = refl

pub without_agree : (timers : List (Timer CallTimerId)) (id : CallTimerId)
    → without (λ a b. a.number == b.number && sameb the_type a.timer b.timer) timers id ≡ without same_timer timers id
without_agree timers id = filter_agree _ _ (λ t. ap (λ same. not (t.key.number == id.number && same)) (kinds_agree t.key.timer id.timer)) timers

-- The traffic of a call, and when a call is silent.
use Rattle.std.specs.Prelude.{◌≡◌, ℕ, ◌+◌, ◌-◌, ◌%◌, ◌^◌, ◌&&◌, ◌==◌, Bool, false, nat_le, List, [], ◌∷◌, ◌++◌, drop, length, remove, if◌then◌else◌, Option, Some, None, IsSomeAnd}
use Rattle.status.specs.declared.call.Flow.{Flow}
use Rattle.status.specs.declared.call as status
use Rattle.call_media.specs.declared.end.End.{End}
use Rattle.call_media.specs.declared.end.End.TheVariants.{Caller, Callee}
use Rattle.call_traffic.specs.declared.way.Way.{Way}
use Rattle.call_traffic.specs.declared.call_traffic.CallTraffic.{CallTraffic}
use Rattle.call_traffic.specs.declared.call_traffic.CarriedMedia.{CarriedMedia}
use Rattle.call_traffic.specs.declared.end_traffic.EndTraffic.{EndTraffic}
use Rattle.call_traffic.specs.declared.stillness.Stillness.{Stillness}
use Rattle.call_traffic.specs.EndTraffic.{recent, total, total_with_rtcp}
use Rattle.call_traffic.specs.Limits.{max_calls}
use Rattle.call_traffic.specs.Looks.{Look, after_look}
use Rattle.call_traffic.specs.Stillness.{IsStillnessOf}

-- what came from an end
abbrev pub traffic_from : End → CallTraffic → EndTraffic
traffic_from Caller call = call.from_caller
traffic_from Callee call = call.from_callee

-- the call, once this is the way of an end's media
abbrev pub with_way : End → Way → CallTraffic → CallTraffic
with_way Caller way call = record call { from_caller = record call.from_caller { way = way } }
with_way Callee way call = record call { from_callee = record call.from_callee { way = way } }

-- what came from both ends, including RTCP
abbrev pub all_with_rtcp : CallTraffic → ℕ
all_with_rtcp call = (total_with_rtcp call.from_caller + total_with_rtcp call.from_callee) % 2 ^ 64

-- these are the looks at both ends since the call was answered last
abbrev pub CallLooks : List Look → CallTraffic → Type 0
CallLooks looks call = IsSomeAnd call.stillness (λ stillness. IsStillnessOf looks stillness)

abbrev pub is_still : ℕ → ℕ → Option Stillness → Bool
is_still now limit None = false
is_still now limit (Some stillness) = nat_le limit (now - stillness.since)

-- nothing came for this long, and that may be reported
abbrev pub is_silent : ℕ → ℕ → CallTraffic → Bool
is_silent now limit call = nat_le call.next_telling now && is_still now limit call.stillness

-- what `call-ended` says of a call's media
abbrev pub carried : CallTraffic → CarriedMedia
carried call = record { from_caller = total call.from_caller; from_callee = total call.from_callee }

abbrev pub flow : EndTraffic → Flow
flow end = record { recent = recent end; total = total end }

-- what the page shows
abbrev pub traffic : CallTraffic → status.CallTraffic.CallTraffic
traffic call = record { number = call.number; begun = call.begun; from_caller = flow call.from_caller; from_callee = flow call.from_callee }

abbrev pub has_number : ℕ → CallTraffic → Bool
has_number number call = call.number == number

abbrev pub number_of : CallTraffic → ℕ
number_of call = call.number

-- A second has passed: a further look at the call.
pub record IsSeen (now : ℕ) (before after : CallTraffic) : Type 0 where
  pub looks : (looks : List Look) → CallLooks looks before → CallLooks (after_look looks now (all_with_rtcp before)) after
  pub caller : after.from_caller.recent.counts ≡ drop 1 before.from_caller.recent.counts ++ total before.from_caller ∷ []
  pub callee : after.from_callee.recent.counts ≡ drop 1 before.from_callee.recent.counts ++ total before.from_callee ∷ []
  pub others : after ≡ record before {
    from_caller = record before.from_caller { recent = after.from_caller.recent };
    from_callee = record before.from_callee { recent = after.from_callee.recent };
    stillness = after.stillness;
  }

-- ---- the live calls

-- if there are too many, the earliest is forgotten
abbrev pub with_room : List CallTraffic → List CallTraffic
with_room calls = if nat_le max_calls (length calls) then remove calls 0 else calls

-- One more call is live, after all others: nothing came from its ends, and it was not answered.
pub record IsBegun (number now : ℕ) (calls after : List CallTraffic) : Type 0 where
  pub call : CallTraffic
  pub last : after ≡ with_room calls ++ call ∷ []
  pub numbered : call.number ≡ number
  pub moment : call.begun ≡ now
  pub from_caller : total call.from_caller ≡ 0
  pub from_callee : total call.from_callee ≡ 0
  pub unanswered : call.stillness ≡ None

-- all except the first such call
abbrev pub without_first : (CallTraffic → Bool) → List CallTraffic → List CallTraffic
without_first is_it [] = []
without_first is_it (call ∷ calls) = if is_it call then calls else call ∷ without_first is_it calls

-- the first such call may not be reported as silent before a moment
abbrev pub with_first_told : (CallTraffic → Bool) → ℕ → List CallTraffic → List CallTraffic
with_first_told is_it moment [] = []
with_first_told is_it moment (call ∷ calls) =
    if is_it call then record call { next_telling = moment } ∷ calls else call ∷ with_first_told is_it moment calls

-- What a log of the live calls' media is after each call of it.
use Rattle.std.specs.Prelude.{◌≡◌, ◌⊎◌, ℕ, ◌+◌, ◌-◌, ◌*◌, ◌^◌, Bool, true, false, List, [], ◌∷◌, ◌++◌, find, min, Option, None, option_map, MatchOption, if◌then◌else◌}
use Rattle.std.specs.List.{AllZip}
use Rattle.calls.specs.declared.standing_call.StandingCall.{StandingCall}
use Rattle.call_core.specs.declared.call.Call.{Call}
use Rattle.call_core.specs.declared.note.NoteOfCall.{NoteOfCall}
use Rattle.call_traffic.specs.declared.call_traffic.CallTraffic.{CallTraffic}
use Rattle.call_traffic.specs.declared.call_traffic.CarriedMedia.{CarriedMedia}
use Rattle.call_traffic.specs.declared.traffic_log.TrafficLog.{TrafficLog}
use Rattle.call_traffic.specs.Calls.{IsBegun, IsSeen, carried, has_number, is_silent, number_of, with_first_told, with_room, without_first}
use Rattle.call_traffic.specs.Following.{HasMissed, IsFollowed, is_begin, is_call}
use Rattle.call_traffic.specs.Limits.{minute}
use Rattle.call_traffic.specs.Reading.{Reading}
use Rattle.call_traffic.specs.Readings.{IsCallRead, all_readings, call_readings}
use Rattle.call_traffic.specs.Totals.{datagrams}

-- the first call that passes is another from now on
abbrev pub with_first : (CallTraffic → Bool) → CallTraffic → List CallTraffic → List CallTraffic
with_first is_it other [] = []
with_first is_it other (call ∷ calls) = if is_it call then other ∷ calls else call ∷ with_first is_it other calls

-- the first call that passes becomes another by this rule; if none passes, `Else` holds, and all are as they were
abbrev pub FirstBecomes : (CallTraffic → Bool) → (CallTraffic → CallTraffic → Type 0) → Type 0 → List CallTraffic → List CallTraffic → Type 0
FirstBecomes is_it Becomes Else before after =
    MatchOption (find is_it before) (Else × (after ≡ before)) (λ call. (other : CallTraffic) × Becomes call other × (after ≡ with_first is_it other before))

-- the call of this number, if it is known, is followed
abbrev pub FollowsCall : Call → NoteOfCall → ℕ → List Reading → List Reading → List CallTraffic → List CallTraffic → Type 0
FollowsCall call note now old new before after =
    FirstBecomes (has_number note.number) (IsFollowed call note.note now old new) (new ≡ old) before after

-- it is known, and may lack some of its ports
abbrev pub MissesCall : ℕ → List CallTraffic → List CallTraffic → Type 0
MissesCall number before after = FirstBecomes (has_number number) HasMissed ⊥ before after

-- the counts of its ports are read
abbrev pub ReadsCall : ℕ → List Reading → List Reading → List CallTraffic → List CallTraffic → Type 0
ReadsCall number old new before after =
    FirstBecomes (has_number number) (λ call other. IsCallRead call other × (new ≡ old ++ call_readings other)) (new ≡ old) before after

-- ---- something happens to a call

-- If the call begins, it is the last of the live ones, and the totals are as they were.
pub record Begins (note : NoteOfCall) (now : ℕ) (before after : TrafficLog) : Type 0 where
  pub yes : is_begin note.note ≡ true → IsBegun note.number now before.calls.items after.calls.items
  pub no : is_begin note.note ≡ false → after ≡ before
  pub datagrams : datagrams after.past after.calls.items ≡ datagrams before.past before.calls.items
  pub next_look : after.next_look ≡ before.next_look

-- Memory was refused as a call was to begin: it isn't known.
pub record IsRefused (note : NoteOfCall) (before after : TrafficLog) : Type 0 where
  pub begins : is_begin note.note ≡ true
  pub calls : after.calls.items ≡ with_room before.calls.items
  pub datagrams : datagrams after.past after.calls.items ≡ datagrams before.past before.calls.items
  pub next_look : after.next_look ≡ before.next_look

-- The call, if it is live and known, is followed.
pub record Follows (standing : List StandingCall) (note : NoteOfCall) (now : ℕ) (old new : List Reading) (before after : TrafficLog) : Type 0 where
  pub begun : TrafficLog
  pub begins : Begins note now before begun
  pub followed : MatchOption (find (is_call note.number) standing) ((new ≡ old) × (after.calls.items ≡ begun.calls.items))
      (λ s. FollowsCall s.call note now old new begun.calls.items after.calls.items)
  pub others : after ≡ record begun { calls = after.calls }

-- Memory was refused after a call began, if it did: some of its media are not counted.
pub record MissesSome (note : NoteOfCall) (now : ℕ) (before after : TrafficLog) : Type 0 where
  pub begun : TrafficLog
  pub begins : Begins note now before begun
  pub missed : MissesCall note.number begun.calls.items after.calls.items
  pub others : after ≡ record begun { calls = after.calls }

-- Memory was refused.
abbrev pub Misses : NoteOfCall → ℕ → TrafficLog → TrafficLog → Type 0
Misses note now before after = IsRefused note before after ⊎ MissesSome note now before after

-- A call ends: its ports' counts are read once more, and `ended` says what came since it had them.
pub record Ends (number : ℕ) (old new : List Reading) (before after : TrafficLog) (ended : Option CarriedMedia) : Type 0 where
  pub read : List CallTraffic
  pub is_read : ReadsCall number old new before.calls.items read
  pub carried : ended ≡ option_map carried (find (has_number number) read)
  pub calls : after.calls.items ≡ without_first (has_number number) read
  pub datagrams : datagrams after.past after.calls.items ≡ datagrams before.past read
  pub next_look : after.next_look ≡ before.next_look

-- ---- a second has passed

-- The ports' counts of all calls are read, and each call is looked at.
pub record Looks (now : ℕ) (old new : List Reading) (before after : List CallTraffic) : Type 0 where
  pub read : List CallTraffic
  pub is_read : AllZip IsCallRead before read
  pub told : new ≡ old ++ all_readings read
  pub seen : AllZip (IsSeen now) read after

-- ---- silent calls

-- which call is reported: the first silent one, unless none was found since the last look
abbrev pub found_silent : Bool → ℕ → ℕ → List CallTraffic → Option ℕ
found_silent may_find now minutes calls =
    if may_find then option_map number_of (find (is_silent now (minutes * minute)) calls) else None

-- it isn't reported again for a minute
abbrev pub after_finding : Bool → ℕ → ℕ → List CallTraffic → List CallTraffic
after_finding may_find now minutes calls =
    if may_find then with_first_told (is_silent now (minutes * minute)) (min (now + minute) (2 ^ 64 - 1)) calls else calls

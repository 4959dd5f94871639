-- The lines of a call's table, each as a move: what moves no call, and how a call goes.
use Rattle.std.proofs.Common.{◌≡◌, ℕ, true, false, List, [], ◌∷◌, ◌++◌, Option, Some, refl}
use Rattle.std.specs.Prelude.{slice_get, remove}
use Rattle.call_media.specs.declared.end.End.{End}
use Rattle.call_core.specs.declared.action.Action.{Action}
use Rattle.call_core.specs.declared.action.Action.TheVariants.{Bye, Okay}
use Rattle.call_messages.specs.declared.scene.Scene.{Scene}
use Rattle.call_trace.specs.declared.call.Call.{Call}
use Rattle.call_trace.specs.declared.call.Stage.TheVariants.{Asked}
use Rattle.call_trace.specs.declared.datagram.Datagram.{Datagram}
use Rattle.call_trace.specs.declared.datagram.Dialog.{Dialog}
use Rattle.call_trace.specs.declared.datagram.Message.{Message}
use Rattle.call_trace.specs.Events as events
use Rattle.call_trace.specs.Events.{EndsNow, IsIdle, IsIdleTaken, IsParting, IsPartingTaken}
use Rattle.call_trace.specs.Listed.{AllOf}
use Rattle.call_trace.specs.Messages.{offering}
use Rattle.call_trace.specs.Moves.{Leaves as LeavesCall, Move, quiet}
use Rattle.call_trace.specs.Stands.{AllApart, HasTags}
use Rattle.media_laws.specs.Heard.{HearsAction, HearsActions}
use Rattle.media_laws.specs.Said.{EndSaid, EndTaken}
use Rattle.media_laws.proofs.CallLines.Ends.{ends_by_bye, ends_by_okay, goes_over, goes_unanswered}
use Rattle.media_laws.specs.Scenes.{ByeIn, LegIn}
use Rattle.media_laws.proofs.OfferPairs.SaidActions.{all_said, behind, leaves_of, left_of, slice_right, stands_behind}
use Rattle.media_laws.proofs.OfferPairs.Taking.{bye_one, okay_one}

-- ---- no call moves

idle_parts : (t : List Datagram) (taken : Option Message) (sent : List Message) (calls : List Call) (ms : List Message) → AllOf (IsIdle offering t taken) ms → AllOf (IsParting offering t taken sent calls) ms
idle_parts t taken sent calls [] all = tt
idle_parts t taken sent calls (m ∷ ms) all = (events.idle all.0, idle_parts t taken sent calls ms all.1)

pub stays : (t : List Datagram) (old : List Call) (taken : Option Message) (sent : List Message) → IsPartingTaken offering t taken old → AllOf (IsIdle offering t taken) sent → Move offering t old taken sent old
stays t old taken sent took all = quiet took (idle_parts t taken sent old sent all) refl

-- ---- a call goes

pub all_behind : (P : Message → Type 0) (xs ys : List Message) → AllOf P xs → AllOf P ys → AllOf P (xs ++ ys)
all_behind P [] ys a b = b
all_behind P (x ∷ xs) ys a b = (a.0, all_behind P xs ys a.1 b)

-- what an action of it says where the call goes
abbrev pub SaysEnd : List Datagram → Option Message → List Message → Call → Scene → Action → Type 0
SaysEnd t taken sent d s action = (count : ℕ) (m : Message) → HearsAction s count action m → EndSaid t taken sent d m

module _ (t : List Datagram) (old : List Call) (k : ℕ) (d : Call) (apart : AllApart old) (there : slice_get old k ≡ Some d) (has : HasTags d) (taken : Option Message) (before : List Message) (s : Scene) (tokens : ℕ) where
  -- before its first answer
  pub first_goes : (actions : List Action) (ms : List Message) → d.stage ≡ Asked → EndTaken t taken d → AllOf (EndSaid t taken (before ++ ms) d) before → AllOf (SaysEnd t taken (before ++ ms) d s) actions
      → HearsActions s tokens actions ms → Move offering t old taken (before ++ ms) (remove old k)
  first_goes actions ms stage took earlier each h =
      goes_unanswered t taken (before ++ ms) old k d apart there has stage took (all_behind (EndSaid t taken (before ++ ms) d) before ms earlier (all_said (EndSaid t taken (before ++ ms) d) s tokens actions ms each h))

  -- once it was answered
  pub answered_goes : (actions : List Action) (ms : List Message) → LeavesCall t taken (before ++ ms) d true → LeavesCall t taken (before ++ ms) d false → EndTaken t taken d → AllOf (EndSaid t taken (before ++ ms) d) before
      → AllOf (SaysEnd t taken (before ++ ms) d s) actions → HearsActions s tokens actions ms → Move offering t old taken (before ++ ms) (remove old k)
  answered_goes actions ms one two took earlier each h =
      goes_over t taken (before ++ ms) old k d apart there has one two took (all_behind (EndSaid t taken (before ++ ms) d) before ms earlier (all_said (EndSaid t taken (before ++ ms) d) s tokens actions ms each h))

  -- a leg ends by the BYE after these actions
  pub bye_ends : (first : List Action) (end : End) (later : List Action) (ms : List Message) (y : Dialog) → LegIn s end y → HearsActions s tokens (first ++ Bye end ∷ later) ms → EndsNow t taken (before ++ ms) y
  bye_ends first end later ms y l h =
      let found = stands_behind s tokens first (Bye end) later ms (λ count. bye_one s count end l.leg l.has l.numbered l.leads) h in
      ends_by_bye t taken (before ++ ms) (behind before found.place) y found.message (slice_right before ms found.place found.message found.there) (leaves_of s end y l found.count found.message found.heard)

-- a leg ends by the 200 to the BYE that came in it
pub okay_ends : (t : List Datagram) (before : List Message) (s : Scene) (tokens : ℕ) (first : List Action) (end : End) (later : List Action) (ms : List Message) (x : Dialog) (came : Message) → ByeIn s x came
    → HearsActions s tokens (first ++ Okay end ∷ later) ms → EndsNow t (Some came) (before ++ ms) x
okay_ends t before s tokens first end later ms x came b h =
    let found = stands_behind s tokens first (Okay end) later ms (λ count. okay_one s count end b.asker b.has) h in
    ends_by_okay t (before ++ ms) (behind before found.place) x came found.message (slice_right before ms found.place found.message found.there) (left_of s end x came b found.count found.message found.heard)

-- ---- what says nothing

pub silent_end : (t : List Datagram) (taken : Option Message) (sent : List Message) (d : Call) (s : Scene) (action : Action) → ((count : ℕ) (m : Message) → HearsAction s count action m → ⊥) → SaysEnd t taken sent d s action
silent_end t taken sent d s action none = λ count m h. absurd (none count m h)

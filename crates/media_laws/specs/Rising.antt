-- What an event makes of the numbers that the dialogs of calls have taken (RFC 3261 section 12.2.2).
use Rattle.std.specs.Prelude.{◌≡◌, ℕ, ◌<◌, ◌^◌, List, Some, slice_get}
use Rattle.responses.specs.Tokens.{token}
use Rattle.call_media.specs.declared.end.End.{End}
use Rattle.call_core.specs.Calls.{dialog_of}
use Rattle.call_steps.specs.Scenes.{tag_to}
use Rattle.calls.specs.declared.standing_call.StandingCall.{StandingCall}
use Rattle.media_laws.specs.Taken.{IsTakenIn}

-- the call goes on with the same tags of the server's, and what its dialogs had taken they have taken still
pub record IsRaised (c d : StandingCall) : Type 0 where
  pub tags : (end : End) → tag_to end d ≡ tag_to end c
  pub taken : (end : End) (number : ℕ) → IsTakenIn number (dialog_of end c.call) → IsTakenIn number (dialog_of end d.call)

-- a token that is made after this many
pub record IsMadeNext (made : ℕ) (text : List ℕ) : Type 0 where
  pub salt : ℕ
  pub count : ℕ
  pub later : made < count
  pub few : count < 2 ^ 64
  pub said : text ≡ token salt count

-- an earlier call goes on this way, or one begins, whose tags are made now
pub data RisesFrom (made : ℕ) (calls : List StandingCall) (d : StandingCall) : Type 0 where
  stood : (place : ℕ) (c : StandingCall) → slice_get calls place ≡ Some c → IsRaised c d → RisesFrom made calls d
  began : ((end : End) → IsMadeNext made (tag_to end d)) → RisesFrom made calls d

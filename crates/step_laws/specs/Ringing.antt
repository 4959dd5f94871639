-- What a step does for a provisional response.
use Rattle.std.specs.Prelude.{◌==◌, ℕ, Bool, true, false, List, [], ◌∷◌, if◌then◌else◌}
use Rattle.call_core.specs.declared.stage.Cancelled.TheVariants.{Never, PassedOn, Waits}
use Rattle.call_core.specs.declared.stage.Stage.{Stage}
use Rattle.call_core.specs.declared.stage.Stage.TheVariants.{Asked, Cancelling, Answered, Settled, Reasked, Reanswered, Updating, Ending}
use Rattle.calls.specs.declared.standing_call.StandingCall.{StandingCall}
use Rattle.transactions.specs.declared.transaction.Transaction.{Transaction}
use Rattle.step_laws.specs.Leaving.{to_offerer}
use Rattle.step_laws.specs.Sending.{Going}

-- 101 to 199 go on to the offerer with their number; 100 is of one hop, and goes no further (RFC 3261 sections 8.2.6.1
-- and 13.3.1.1)
abbrev pub provisional_to : StandingCall → Transaction → ℕ → List Going
provisional_to c offered status = if status == 100 then [] else to_offerer c offered status ∷ []

-- a CANCEL waits for the first provisional response (section 9.1)
abbrev pub keeps_cancel : Stage → Bool
keeps_cancel (Asked rung) = false
keeps_cancel (Cancelling true) = false
keeps_cancel (Cancelling false) = true
keeps_cancel (Answered interval) = false
keeps_cancel Settled = false
keeps_cancel (Reasked rung Never) = false
keeps_cancel (Reasked rung Waits) = true
keeps_cancel (Reasked rung PassedOn) = false
keeps_cancel (Reanswered interval) = false
keeps_cancel Updating = false
keeps_cancel (Ending interval) = false

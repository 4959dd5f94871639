-- A call's standing.
use Rattle.call_core.specs.declared.stage.Phase.{Phase}
use Rattle.call_core.specs.declared.stage.Phase.TheVariants as phases
use Rattle.call_core.specs.declared.stage.Stage.{Stage}
use Rattle.call_core.specs.declared.stage.Stage.TheVariants.{Asked, Cancelling, Answered, Settled, Reasked, Reanswered, Updating, Ending}

abbrev pub phase_of : Stage → Phase
phase_of (Asked rung) = phases.Asked
phase_of (Cancelling sent) = phases.Cancelling
phase_of (Answered interval) = phases.Answered
phase_of Settled = phases.Settled
phase_of (Reasked rung cancelled) = phases.Reasked
phase_of (Reanswered interval) = phases.Reanswered
phase_of Updating = phases.Updating
phase_of (Ending interval) = phases.Ending

-- What `serve` is for, and what a fault of it says.
use Rattle.std.specs.Prelude.{◌≡◌, ℕ, List, Option, Some}
use Rattle.configuration.specs.declared.config.Config.{Config}
use Rattle.server.specs.declared.fault.Fault.{Fault}
use Rattle.server.specs.declared.fault.Fault.TheVariants.{Input, Script, Config as Wrong, Output, Socket, OutOfMemory}
use Rattle.server.specs.Leaves.{IsWrongIn}
use Rattle.server.specs.Replay.{IsOffice}

-- what a host was asked to serve last: a configuration, and for how many turns
abbrev pub Request : Type 0
Request = Option (Config × Option ℕ)

-- the host was asked to serve the office that the file says, for this many turns
abbrev pub Serves : Option (List ℕ) → Option ℕ → Request → Type 0
Serves file turns asked = (office : Config) × IsOffice (Some file) office × (asked ≡ Some (office, turns))

-- no input is read, and no output written; a socket fails only where there is an office
abbrev pub ServeLeaves : Option (List ℕ) → Option ℕ → Request → Request → Fault → Type 0
ServeLeaves file turns asked asked_after Input = ⊥
ServeLeaves file turns asked asked_after (Script at) = ⊥
ServeLeaves file turns asked asked_after (Wrong fault) = (asked_after ≡ asked) × IsWrongIn file fault
ServeLeaves file turns asked asked_after Output = ⊥
ServeLeaves file turns asked asked_after Socket = Serves file turns asked_after
ServeLeaves file turns asked asked_after OutOfMemory = Unit {0}

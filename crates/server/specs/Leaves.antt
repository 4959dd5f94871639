-- What a fault leaves of the output, and what it says.
use Rattle.std.specs.Prelude.{◌≡◌, ◌≢◌, ℕ, List, Option, Some, None}
use Rattle.std.specs.Io.KnownBytes.{Keeps}
use Rattle.configuration.specs.declared.config.Config.{Config as Office}
use Rattle.configuration.specs.declared.fault.ConfigFault.{ConfigFault}
use Rattle.configuration.specs.Reading.{ReadsConfig}
use Rattle.configuration.specs.FaultOf.{IsFaultOf}
use Rattle.events.specs.declared.event.Event.{Event}
use Rattle.scripts.specs.declared.error.ScriptError.{ScriptError}
use Rattle.scripts.specs.declared.error.ScriptError.TheVariants as scripts
use Rattle.scripts.specs.Grammar.{IsMalformedAt, ReadsScript}
use Rattle.server.specs.Texts.{HasText}
use Rattle.server.specs.declared.fault.Fault.{Fault}
use Rattle.server.specs.declared.fault.Fault.TheVariants.{Input, Script, Config, Output, Socket, OutOfMemory}

-- what the writer held stays, but where the output itself failed; the example office breaks no rule, and no script is
-- read
abbrev pub Leaves : Fault → Option (List ℕ) → Option (List ℕ) → Type 0
Leaves Input held held_after = Keeps held held_after
Leaves (Script at) held held_after = ⊥
Leaves (Config fault) held held_after = ⊥
Leaves Output held held_after = Unit {0}
Leaves Socket held held_after = ⊥
Leaves OutOfMemory held held_after = Keeps held held_after

-- a fault of reading
abbrev pub IsOfReading : Fault → Type 0
IsOfReading Input = Unit {0}
IsOfReading (Script at) = ⊥
IsOfReading (Config fault) = ⊥
IsOfReading Output = ⊥
IsOfReading Socket = ⊥
IsOfReading OutOfMemory = Unit {0}

-- where a file of a script is malformed
abbrev pub IsMalformed : Option (List ℕ) → ℕ → Type 0
IsMalformed file at = (text : List ℕ) × HasText file text × IsMalformedAt text at

-- a fault of the file of a script
abbrev pub IsOfScript : Option (List ℕ) → Fault → Type 0
IsOfScript file Input = Unit {0}
IsOfScript file (Script at) = IsMalformed file at
IsOfScript file (Config fault) = ⊥
IsOfScript file Output = ⊥
IsOfScript file Socket = ⊥
IsOfScript file OutOfMemory = Unit {0}

-- of a text that is refused as a script
abbrev pub IsScriptFault : List ℕ → ScriptError → Fault → Type 0
IsScriptFault text error Input = (events : List Event) × ReadsScript text events
IsScriptFault text error (Script at) = IsMalformedAt text at
IsScriptFault text error (Config fault) = ⊥
IsScriptFault text error Output = ⊥
IsScriptFault text error Socket = ⊥
IsScriptFault text error OutOfMemory = error ≡ scripts.OutOfMemory

-- what is wrong with a text: nothing only where it is a configuration that keeps the rules
abbrev pub IsWrongWith : List ℕ → Option ConfigFault → Type 0
IsWrongWith text None = (config : Office) × ReadsConfig text config
IsWrongWith text (Some fault) = IsFaultOf text fault

-- of a text that is refused as a configuration
abbrev pub IsRefusalOf : List ℕ → Fault → Type 0
IsRefusalOf text Input = ⊥
IsRefusalOf text (Script at) = ⊥
IsRefusalOf text (Config fault) = IsWrongWith text fault
IsRefusalOf text Output = ⊥
IsRefusalOf text Socket = ⊥
IsRefusalOf text OutOfMemory = Unit {0}

-- what is wrong with the file of a configuration: it could not be read, or it has this fault
abbrev pub IsWrongIn : Option (List ℕ) → Option ConfigFault → Type 0
IsWrongIn file None = Unit {0}
IsWrongIn file (Some fault) = (text : List ℕ) × HasText file text × IsFaultOf text fault

-- a fault of the file of a configuration
abbrev pub IsOfConfig : Option (List ℕ) → Fault → Type 0
IsOfConfig file Input = ⊥
IsOfConfig file (Script at) = ⊥
IsOfConfig file (Config fault) = IsWrongIn file fault
IsOfConfig file Output = ⊥
IsOfConfig file Socket = ⊥
IsOfConfig file OutOfMemory = Unit {0}

-- the fault of a configuration is that of the file that was given for it
abbrev pub IsWrongFile : Option (Option (List ℕ)) → Option ConfigFault → Type 0
IsWrongFile None fault = ⊥
IsWrongFile (Some file) fault = IsWrongIn file fault

-- a fault of the office: one of the configuration only where there is a file for it
abbrev pub IsOfOffice : Option (Option (List ℕ)) → Fault → Type 0
IsOfOffice config Input = ⊥
IsOfOffice config (Script at) = ⊥
IsOfOffice config (Config fault) = (config ≢ None) × IsWrongFile config fault
IsOfOffice config Output = ⊥
IsOfOffice config Socket = ⊥
IsOfOffice config OutOfMemory = Unit {0}

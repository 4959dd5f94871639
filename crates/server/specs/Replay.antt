-- What `replay` writes for a script: the text of all that the agent sends, event by event, on an office to which
-- nothing has happened, and the state at the end.
use Rattle.std.specs.Prelude.{◌≡◌, ◌≢◌, ℕ, Bool, true, false, List, [], ◌∷◌, ◌++◌, ◌⊎◌, fold, Option, Some, None}
use Rattle.std.specs.List.{flat_map}
use Rattle.std.specs.Io.KnownBytes.{Appends, Keeps}
use Rattle.configuration.specs.declared.config.Config.{Config}
use Rattle.configuration.specs.Example.{example}
use Rattle.configuration.specs.Reading.{ReadsConfig}
use Rattle.events.specs.declared.event.Event.{Event}
use Rattle.events.specs.declared.sent.Sent.{Sent}
use Rattle.scripts.specs.Grammar.{ReadsScript}
use Rattle.scripts.specs.Writing.{sent_text}
use Rattle.event_rows.specs.Rows.{after, row}
use Rattle.event_rows.specs.State.{Contents, IsNew}
use Rattle.server.specs.State.{state_text}
use Rattle.note_lines.specs.Lines.{IsSaid}
use Rattle.server.specs.Texts.{HasText}
use Rattle.server.specs.Leaves.{IsMalformed, IsWrongFile}
use Rattle.server.specs.declared.fault.Fault.{Fault}
use Rattle.server.specs.declared.fault.Fault.TheVariants.{Input, Script, Config as Wrong, Output, Socket, OutOfMemory}

-- ---- a run

-- the agent after these events
abbrev pub after_all : Contents → List Event → Contents
after_all agent events = fold after agent events

-- what it sends at them, in order
abbrev pub sends_of : Contents → List Event → List Sent
sends_of agent [] = []
sends_of agent (e ∷ es) = (row agent e).plan.sends ++ sends_of (after agent e) es

-- the text of what is sent
abbrev pub text_of : List Sent → List ℕ
text_of sent = flat_map sent_text sent

abbrev pub run_text : Contents → List Event → List ℕ
run_text agent events = text_of (sends_of agent events)

-- ---- what is logged about events

-- what is logged about an event, if that is asked for
abbrev pub IsNote : Bool → List ℕ → Type 0
IsNote false note = note ≡ []
IsNote true note = IsSaid note

-- this was appended to what was there
abbrev pub TellsIf : Bool → List ℕ → List ℕ → Type 0
TellsIf notes before behind = (note : List ℕ) × IsNote notes note × (behind ≡ before ++ note)

-- the text of what is sent, and after that of each event what is logged about it
abbrev pub IsNotedRun : Contents → List Event → List ℕ → Type 0
IsNotedRun agent [] text = text ≡ []
IsNotedRun agent (e ∷ es) text =
    (note : List ℕ) × (rest : List ℕ) × IsSaid note × IsNotedRun (after agent e) es rest × (text ≡ text_of (row agent e).plan.sends ++ note ++ rest)

-- the same if that is asked for, and otherwise the text of what is sent and nothing else
abbrev pub IsRun : Bool → Contents → List Event → List ℕ → Type 0
IsRun false agent events text = text ≡ run_text agent events
IsRun true agent events text = IsNotedRun agent events text

-- ---- what is read

-- the office: the example, or what the file of a configuration says
abbrev pub IsOffice : Option (Option (List ℕ)) → Config → Type 0
IsOffice None config = config ≡ example
IsOffice (Some file) config = (text : List ℕ) × HasText file text × ReadsConfig text config

-- the file is this script
abbrev pub IsScript : Option (List ℕ) → List Event → Type 0
IsScript file events = (text : List ℕ) × HasText file text × ReadsScript text events

-- ---- what is written

-- an agent to which nothing has happened, of the office, and the events of the script
pub record Day (config : Option (Option (List ℕ))) (script : Option (List ℕ)) : Type 0 where
  pub office : Config
  pub agent : Contents
  pub events : List Event
  pub configured : IsOffice config office
  pub new : IsNew office agent
  pub told : IsScript script events

-- the text of an event was written, and nothing else
abbrev pub WritesEvent : Bool → Contents → Event → Option (List ℕ) → Option (List ℕ) → Type 0
WritesEvent notes agent e held held_after =
    (note : List ℕ) × IsNote notes note × Appends held held_after (text_of (row agent e).plan.sends ++ note)

-- the text of these events was written, and nothing else
abbrev pub WritesRun : Bool → Contents → List Event → Option (List ℕ) → Option (List ℕ) → Type 0
WritesRun notes agent events held held_after = (text : List ℕ) × IsRun notes agent events text × Appends held held_after text

-- the same, followed by the lines of the state at the end
abbrev pub WritesDay : Bool → Contents → List Event → Option (List ℕ) → Option (List ℕ) → Type 0
WritesDay notes agent events held held_after =
    (text : List ℕ) × IsRun notes agent events text × Appends held held_after (text ++ state_text (after_all agent events))

-- the text of all events was appended to what the writer held, followed by the lines of the state at the end
abbrev pub Replays : Bool → Option (Option (List ℕ)) → Option (List ℕ) → Option (List ℕ) → Option (List ℕ) → Type 0
Replays notes config script held held_after = (day : Day config script) × WritesDay notes day.agent day.events held held_after

-- the text of the first of these events was written, and nothing else
abbrev pub WritesFirst : Bool → Contents → List Event → Option (List ℕ) → Option (List ℕ) → Type 0
WritesFirst notes agent events held held_after =
    (done : List Event) × (rest : List Event) × (events ≡ done ++ rest) × WritesRun notes agent done held held_after

-- what is left by an event that could not be taken or whose text could not be written
abbrev pub EventLeaves : Fault → Option (List ℕ) → Option (List ℕ) → Type 0
EventLeaves Input held held_after = ⊥
EventLeaves (Script at) held held_after = ⊥
EventLeaves (Wrong fault) held held_after = ⊥
EventLeaves Output held held_after = Unit {0}
EventLeaves Socket held held_after = ⊥
EventLeaves OutOfMemory held held_after = Keeps held held_after

-- what is left by events of which one was not taken, or its text not written
abbrev pub RunLeaves : Bool → Contents → List Event → Fault → Option (List ℕ) → Option (List ℕ) → Type 0
RunLeaves notes agent events Input held held_after = ⊥
RunLeaves notes agent events (Script at) held held_after = ⊥
RunLeaves notes agent events (Wrong fault) held held_after = ⊥
RunLeaves notes agent events Output held held_after = Unit {0}
RunLeaves notes agent events Socket held held_after = ⊥
RunLeaves notes agent events OutOfMemory held held_after = WritesFirst notes agent events held held_after

-- what a fault leaves of the output, and when it comes: one of the configuration only if a file was given for it, and
-- one of the script only if there is an office
abbrev pub ReplayLeaves : Bool → Option (Option (List ℕ)) → Option (List ℕ) → Fault → Option (List ℕ) → Option (List ℕ) → Type 0
ReplayLeaves notes config script Input held held_after = (office : Config) × IsOffice config office × Keeps held held_after
ReplayLeaves notes config script (Script at) held held_after = (office : Config) × IsOffice config office × IsMalformed script at × Keeps held held_after
ReplayLeaves notes config script (Wrong fault) held held_after = (config ≢ None) × IsWrongFile config fault × Keeps held held_after
ReplayLeaves notes config script Output held held_after = Day config script
ReplayLeaves notes config script Socket held held_after = ⊥
ReplayLeaves notes config script OutOfMemory held held_after =
    Keeps held held_after ⊎ ((day : Day config script) × WritesFirst notes day.agent day.events held held_after)

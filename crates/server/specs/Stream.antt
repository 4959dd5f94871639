-- What `follow` does with a script that comes bit by bit: what `replay` does with a script of the same bytes, and if
-- that is malformed, what came before the fault.
use Rattle.std.specs.Prelude.{◌≡◌, ◌≢◌, ℕ, Bool, List, [], ◌++◌, length, ◌⊎◌, Option, Some, None}
use Rattle.std.specs.Io.KnownBytes.{Consumes, IsAtEnd, Keeps}
use Rattle.configuration.specs.declared.config.Config.{Config}
use Rattle.events.specs.declared.event.Event.{Event}
use Rattle.scripts.specs.Grammar.{IsMalformedAt, LeadsTo, NeverBegins, ReadsScript}
use Rattle.event_rows.specs.State.{Contents, IsNew}
use Rattle.server.specs.Input.{ReadsAll}
use Rattle.server.specs.Leaves.{IsWrongFile}
use Rattle.server.specs.Texts.{HasText}
use Rattle.server.specs.Replay.{after_all, IsOffice, Replays, WritesDay, WritesRun}
use Rattle.server.specs.declared.fault.Fault.{Fault}
use Rattle.server.specs.declared.fault.Fault.TheVariants.{Input, Script, Config as Wrong, Output, Socket, OutOfMemory}

-- ---- what is read

-- a fault of the event that begins a text, `at` bytes from the head
abbrev pub IsOfEvent : List ℕ → ℕ → Fault → Type 0
IsOfEvent text at Input = ⊥
IsOfEvent text at (Script place) = (place ≡ at) × (text ≢ []) × NeverBegins text
IsOfEvent text at (Wrong fault) = ⊥
IsOfEvent text at Output = ⊥
IsOfEvent text at Socket = ⊥
IsOfEvent text at OutOfMemory = Unit {0}

-- bytes at the end that are no event, `at` bytes from the head
abbrev pub IsLeftOver : List ℕ → ℕ → Fault → Type 0
IsLeftOver text at Input = ⊥
IsLeftOver text at (Script place) = (place ≡ at) × (text ≢ [])
IsLeftOver text at (Wrong fault) = ⊥
IsLeftOver text at Output = ⊥
IsLeftOver text at Socket = ⊥
IsLeftOver text at OutOfMemory = ⊥

-- `count` bytes were taken and appended to what was kept: none only at the end
abbrev pub Grows : List ℕ → List ℕ → Option (List ℕ) → Option (List ℕ) → ℕ → Type 0
Grows kept kept_after left left_after count =
    (bytes : List ℕ) × Consumes left left_after bytes × (kept_after ≡ kept ++ bytes) × (length bytes ≡ count) × (count ≡ 0 → IsAtEnd left_after)

-- events at the head of an input, one after the other, and what comes after them
pub record Front (input : Option (List ℕ)) : Type 0 where
  pub text : List ℕ
  pub events : List Event
  pub rest : List ℕ
  pub there : HasText input text
  pub leads : LeadsTo text events rest

-- ---- what is written

-- all that the input had is a script, the agent took its events, and their text was written
abbrev pub FollowsRun : Bool → Contents → Contents → Option (List ℕ) → Option (List ℕ) → Option (List ℕ) → Option (List ℕ) → Type 0
FollowsRun notes agent agent_after left left_after held held_after =
    (text : List ℕ) × (events : List Event) × ReadsAll left left_after text × ReadsScript text events × (agent_after ≡ after_all agent events) × WritesRun notes agent events held held_after

-- the same, followed by the lines of the state at the end
abbrev pub FollowsDay : Bool → Contents → Option (List ℕ) → Option (List ℕ) → Option (List ℕ) → Option (List ℕ) → Type 0
FollowsDay notes agent left left_after held held_after =
    (text : List ℕ) × (events : List Event) × ReadsAll left left_after text × ReadsScript text events × WritesDay notes agent events held held_after

-- what `replay` writes for a file of the bytes that the input had, which were all taken
abbrev pub Follows : Bool → Option (Option (List ℕ)) → Option (List ℕ) → Option (List ℕ) → Option (List ℕ) → Option (List ℕ) → Type 0
Follows notes config left left_after held held_after = (text : List ℕ) × ReadsAll left left_after text × Replays notes config (Some text) held held_after

-- ---- what a fault leaves

-- the text of events at the head of the input was written, and nothing else
abbrev pub WritesFront : Bool → Contents → Option (List ℕ) → Option (List ℕ) → Option (List ℕ) → Type 0
WritesFront notes agent input held held_after = (front : Front input) × WritesRun notes agent front.events held held_after

-- that of all events before the first line that begins none, and nothing else
abbrev pub WritesUpTo : Bool → Contents → Option (List ℕ) → ℕ → Option (List ℕ) → Option (List ℕ) → Type 0
WritesUpTo notes agent input at held held_after =
    (text : List ℕ) × HasText input text × (malformed : IsMalformedAt text at) × WritesRun notes agent malformed.events held held_after

-- what a fault leaves that comes while an office follows its input
abbrev pub InputLeaves : Bool → Contents → Option (List ℕ) → Fault → Option (List ℕ) → Option (List ℕ) → Type 0
InputLeaves notes agent input Input held held_after = WritesFront notes agent input held held_after
InputLeaves notes agent input (Script at) held held_after = WritesUpTo notes agent input at held held_after
InputLeaves notes agent input (Wrong fault) held held_after = ⊥
InputLeaves notes agent input Output held held_after = Unit {0}
InputLeaves notes agent input Socket held held_after = ⊥
InputLeaves notes agent input OutOfMemory held held_after = WritesFront notes agent input held held_after

-- an office, and its agent, to which nothing has happened
pub record Start (config : Option (Option (List ℕ))) : Type 0 where
  pub office : Config
  pub agent : Contents
  pub configured : IsOffice config office
  pub new : IsNew office agent

-- what a fault leaves of the output, and when it comes: one of the configuration only if a file was given for it, and
-- before anything is written
abbrev pub FollowLeaves : Bool → Option (Option (List ℕ)) → Option (List ℕ) → Fault → Option (List ℕ) → Option (List ℕ) → Type 0
FollowLeaves notes config input Input held held_after = (start : Start config) × WritesFront notes start.agent input held held_after
FollowLeaves notes config input (Script at) held held_after = (start : Start config) × WritesUpTo notes start.agent input at held held_after
FollowLeaves notes config input (Wrong fault) held held_after = (config ≢ None) × IsWrongFile config fault × Keeps held held_after
FollowLeaves notes config input Output held held_after = Start config
FollowLeaves notes config input Socket held held_after = ⊥
FollowLeaves notes config input OutOfMemory held held_after =
    Keeps held held_after ⊎ ((start : Start config) × WritesFront notes start.agent input held held_after)

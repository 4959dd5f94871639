-- What an operator is asked and told of a round.
use Rattle.std.specs.Prelude.{ℕ, ◌==◌, ◌&&◌, nat_lt, List, [], ◌∷◌, ◌++◌, Option, Some, None, if◌then◌else◌}
use Rattle.sip_uri.specs.declared.uri.Addr.{Addr}
use Rattle.event_rows.specs.State.{Contents}
use Rattle.live.specs.Troubles.{trouble_between}
use Rattle.live.specs.declared.report.Report.{Report}
use Rattle.live.specs.declared.report.Report.TheVariants.{Begins, Ends, Noted, Looked}
use Rattle.live.specs.declared.round.Round.{Round}
use Rattle.live.specs.declared.round.Round.TheVariants.{Fired, Heard, Took, Waited, Failed}
use Rattle.live.specs.declared.streaks.Streaks.{Streaks}
use Rattle.live.specs.declared.trouble.Trouble.{Trouble}
use Rattle.live.specs.declared.trouble.Trouble.TheVariants.{Socket, Memory}
use Rattle.live.specs.declared.turn.Turned.{Turned}
use Rattle.live.specs.declared.turn.Turned.TheVariants.{Done, Lost, Behind}

-- the agent took an event at this moment, a datagram from this source if there is one, and is lent as it is after it
abbrev pub noted : Contents → Option Addr → ℕ → Report
noted agent source now = Noted (record { marker = record {}; value = agent }) source now

-- a round took no event at this moment, and the agent is lent as it is
abbrev pub looked : Contents → ℕ → Report
looked agent now = Looked (record { marker = record {}; value = agent }) now

-- ---- trouble

-- that trouble begins, if some does
abbrev pub begun : Option Trouble → List Report
begun None = []
begun (Some trouble) = Begins trouble ∷ []

-- that a kind of trouble is over, if it is: the count of its failures in a row was above 0, and is 0
abbrev pub over : Trouble → ℕ → ℕ → List Report
over trouble before after = if nat_lt 0 before && after == 0 then Ends trouble ∷ [] else []

-- what begins and what is over, by the counts before a round and after it
abbrev pub troubles : Streaks → Streaks → List Report
troubles before after = begun (trouble_between before after) ++ over Socket before.failed after.failed ++ over Memory before.lost after.lost

-- ---- events

-- an event counts as taken if it was done: one that was lost does not, nor one whose changes could not be published
abbrev pub turn_report : Contents → Option Addr → Turned → ℕ → Report
turn_report agent source (Done taken failed) now = noted agent source now
turn_report agent source Lost now = looked agent now
turn_report agent source Behind now = looked agent now

-- of the event of a round, with the agent after it
abbrev pub event_report : Contents → Round → ℕ → Report
event_report agent (Fired turned) now = turn_report agent None turned now
event_report agent (Heard turned) now = turn_report agent None turned now
event_report agent (Took source turned) now = turn_report agent (Some source) turned now
event_report agent Waited now = looked agent now
event_report agent Failed now = looked agent now

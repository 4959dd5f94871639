-- What is written at the end of a day: the live calls, and the rows of the relay table.
use Rattle.std.specs.Prelude.{ℕ, List, [], ◌++◌, codes, Option, Some, None}
use Prim.Native.Nat.{zero, suc}
use Rattle.std.specs.FinMap.{get}
use Rattle.std.specs.List.{flat_map}
use Rattle.port_pool.specs.declared.hop.Hop.{Hop}
use Rattle.port_pool.specs.RelayTable.{Rows}
use Rattle.call_core.specs.declared.stage.Phase.{Phase}
use Rattle.call_core.specs.declared.stage.Phase.TheVariants.{Asked, Cancelling, Answered, Settled, Reasked, Reanswered, Updating, Ending}
use Rattle.call_core.specs.Calls.{phase_in}
use Rattle.calls.specs.declared.standing_call.StandingCall.{StandingCall}
use Rattle.scripts.specs.Writing.{call_text, hop_text}
use Rattle.event_rows.specs.State.{Contents}

abbrev pub phase_name : Phase → List ℕ
phase_name Asked = codes "asked"
phase_name Cancelling = codes "cancelling"
phase_name Answered = codes "answered"
phase_name Settled = codes "settled"
phase_name Reasked = codes "reasked"
phase_name Reanswered = codes "reanswered"
phase_name Updating = codes "updating"
phase_name Ending = codes "ending"

abbrev pub phase_word : Option Phase → List ℕ
phase_word None = codes ""
phase_word (Some phase) = phase_name phase

abbrev pub call_line : StandingCall → List ℕ
call_line c = call_text c.call.number (phase_word (phase_in c.call.standing))

abbrev pub calls_text : List StandingCall → List ℕ
calls_text calls = flat_map call_line calls

abbrev pub hop_text_if : ℕ → Option Hop → List ℕ
hop_text_if port None = []
hop_text_if port (Some hop) = hop_text port hop

abbrev pub hop_line : Rows → ℕ → List ℕ
hop_line rows port = hop_text_if port (get rows port)

-- those of the ports below this one, by rising port
unfoldable pub hops_below : Rows → ℕ → List ℕ
hops_below rows zero = []
hops_below rows (suc n) = hops_below rows n ++ hop_line rows n

-- those of all ports, from 0 to 65535
abbrev pub hops_text : Rows → List ℕ
hops_text rows = hops_below rows 65536

-- `call NUMBER PHASE` for each call, in the order in which they began, followed by `hop PORT IP PORT FROM` for each
-- row
abbrev pub state_text : Contents → List ℕ
state_text s = calls_text s.calls.calls ++ hops_text s.calls.pool.rows

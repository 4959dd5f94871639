-- The calls on the page, with the state of their media.
use Rattle.std.specs.Prelude.{ℕ, ◌-◌, ◌==◌, ◌&&◌, Bool, true, false, List, ◌++◌, [], ◌∷◌, length, Option, Some, None, codes, decimal, if◌then◌else◌}
use Rattle.std.specs.List.{flat_map, list_any}
use Rattle.pages.specs.Escape.{html}
use Rattle.pages.specs.Pieces.{duration_text, together}
use Rattle.pages.specs.declared.page_calls.Expected.{Expected}
use Rattle.pages.specs.Words.{direction_word, phase_word}
use Rattle.status.specs.declared.call.CallPhase.{CallPhase}
use Rattle.status.specs.declared.call.CallPhase.TheVariants.{Calling, Cancelling, Answered, Talking, Changing, Ending}
use Rattle.status.specs.declared.call.CallStatus.{CallStatus}
use Rattle.status.specs.declared.call.CallTraffic.{CallTraffic}
use Rattle.status.specs.declared.call.Direction.{Direction}
use Rattle.status.specs.declared.call.Direction.TheVariants.{Both, FromCaller, FromCallee, Neither}
use Rattle.status.specs.declared.call.Flow.{Flow}
use Rattle.status.specs.declared.call.MediumStatus.{MediumStatus}

abbrev pub medium_text : MediumStatus → List ℕ
medium_text medium = together (
    html medium.kind ∷ codes " " ∷ html medium.codec ∷ codes ", " ∷ direction_word medium.direction ∷
    codes "<br>" ∷ [])

-- the first cells of a row, up to its media
abbrev pub call_ends : CallStatus → List ℕ
call_ends call = together (
    codes "<tr><td>" ∷ decimal call.number ∷ codes "</td><td>" ∷ html call.caller ∷ codes "</td><td>" ∷
    html call.callee ∷ codes "</td><td>" ∷ phase_word call.phase ∷ codes "</td><td>" ∷ [])

abbrev pub comes_from_caller : Direction → Bool
comes_from_caller Both = true
comes_from_caller FromCaller = true
comes_from_caller FromCallee = false
comes_from_caller Neither = false

abbrev pub comes_from_callee : Direction → Bool
comes_from_callee Both = true
comes_from_callee FromCaller = false
comes_from_callee FromCallee = true
comes_from_callee Neither = false

abbrev pub is_talking : CallPhase → Bool
is_talking Talking = true
is_talking Calling = false
is_talking Cancelling = false
is_talking Answered = false
is_talking Changing = false
is_talking Ending = false

-- from which ends media should come: both ends talk, and a medium goes that way
abbrev pub expected_ends : CallStatus → Expected
expected_ends call = record {
  caller = is_talking call.phase && list_any (λ m. comes_from_caller m.direction) call.media;
  callee = is_talking call.phase && list_any (λ m. comes_from_callee m.direction) call.media;
}

-- an end from which media should come sent nothing recently
abbrev pub recent_cell : Bool → ℕ → List ℕ
recent_cell is_expected recent = if is_expected && recent == 0 then codes "<td class=\"silent\">" else codes "<td>"

-- in the last ten seconds, and in total
abbrev pub flow_cells : Bool → Flow → List ℕ
flow_cells is_expected flow = together (
    recent_cell is_expected flow.recent ∷ decimal flow.recent ∷ codes "</td><td>" ∷ decimal flow.total ∷
    codes "</td>" ∷ [])

abbrev pub age_cell : ℕ → List ℕ
age_cell millis = together (
    codes "<td>" ∷ duration_text millis ∷ codes " ago</td>" ∷ [])

abbrev pub counted_cells : ℕ → Expected → CallTraffic → List ℕ
counted_cells moment ends traffic = together (
    age_cell (moment - traffic.begun) ∷ flow_cells ends.caller traffic.from_caller ∷ flow_cells ends.callee traffic.from_callee ∷ [])

-- since when, and how many datagrams from each end
abbrev pub traffic_cells : ℕ → Expected → Option CallTraffic → List ℕ
traffic_cells moment ends None = codes "<td></td><td></td><td></td><td></td><td></td>"
traffic_cells moment ends (Some traffic) = counted_cells moment ends traffic

abbrev pub call_row : ℕ → CallStatus → List ℕ
call_row moment call = together (
    call_ends call ∷ flat_map medium_text call.media ∷ codes "</td>" ∷ traffic_cells moment (expected_ends call) call.traffic ∷ codes "</tr>\n" ∷ [])

abbrev pub calls_heading : ℕ → List ℕ
calls_heading count = together (
    codes "<h2>Calls: " ∷ decimal count ∷
    codes "</h2>\n<div><table>\n<tr><th rowspan=\"2\">Call</th><th rowspan=\"2\">Caller</th><th rowspan=\"2\">Callee</th><th rowspan=\"2\">Phase</th><th rowspan=\"2\">Media</th><th rowspan=\"2\">Begun</th><th colspan=\"2\">From caller</th><th colspan=\"2\">From callee</th></tr>\n<tr><th>10 s</th><th>all</th><th>10 s</th><th>all</th></tr>\n" ∷ [])

unfoldable pub calls_table : ℕ → List CallStatus → List ℕ
calls_table moment calls = together (calls_heading (length calls) ∷ flat_map (call_row moment) calls ∷ codes "</table></div>\n" ∷ [])

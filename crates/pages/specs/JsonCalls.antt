-- The calls in JSON, with their media.
use Rattle.std.specs.Prelude.{ℕ, List, ◌++◌, [], ◌∷◌, Option, Some, None, codes, decimal}
use Rattle.pages.specs.Escape.{json}
use Rattle.pages.specs.Pieces.{listed, together}
use Rattle.pages.specs.Words.{direction_word, phase_word}
use Rattle.status.specs.declared.call.CallPhase.{CallPhase}
use Rattle.status.specs.declared.call.CallStatus.{CallStatus}
use Rattle.status.specs.declared.call.CallTraffic.{CallTraffic}
use Rattle.status.specs.declared.call.MediumStatus.{MediumStatus}

unfoldable pub medium_object : MediumStatus → List ℕ
medium_object medium = together (
    codes "{\"kind\":\"" ∷ json medium.kind ∷ codes "\",\"codec\":\"" ∷ json medium.codec ∷
    codes "\",\"direction\":\"" ∷ direction_word medium.direction ∷ codes "\"}" ∷ [])

unfoldable pub call_ends : CallStatus → List ℕ
call_ends call = together (
    codes "{\"number\":" ∷ decimal call.number ∷ codes ",\"caller\":\"" ∷ json call.caller ∷
    codes "\",\"callee\":\"" ∷ json call.callee ∷ [])

unfoldable pub phase_start : CallPhase → List ℕ
phase_start phase = codes "\",\"phase\":\"" ++ phase_word phase

-- up to the media
unfoldable pub phase_member : CallPhase → List ℕ
phase_member phase = phase_start phase ++ codes "\",\"media\":["

abbrev pub traffic_object : CallTraffic → List ℕ
traffic_object traffic = together (
    codes "{\"begun_milliseconds\":" ∷ decimal traffic.begun ∷ codes ",\"from_caller\":{\"recent\":" ∷
    decimal traffic.from_caller.recent ∷ codes ",\"total\":" ∷ decimal traffic.from_caller.total ∷
    codes "},\"from_callee\":{\"recent\":" ∷ decimal traffic.from_callee.recent ∷ codes ",\"total\":" ∷
    decimal traffic.from_callee.total ∷ codes "}}" ∷ [])

abbrev pub traffic_value : Option CallTraffic → List ℕ
traffic_value None = codes "null"
traffic_value (Some traffic) = traffic_object traffic

unfoldable pub call_front : CallStatus → List ℕ
call_front call = call_ends call ++ phase_member call.phase

unfoldable pub call_media : List MediumStatus → List ℕ
call_media media = listed medium_object media ++ codes "],\"traffic\":"

unfoldable pub call_end : Option CallTraffic → List ℕ
call_end traffic = traffic_value traffic ++ codes "}"

unfoldable pub call_object : CallStatus → List ℕ
call_object call = call_front call ++ call_media call.media ++ call_end call.traffic

-- The users and the calls as Prometheus' metrics.
use Rattle.std.specs.Prelude.{ℕ, List, ◌++◌, [], ◌∷◌, length, Option, Some, None, codes, decimal}
use Rattle.pages.specs.Escape.{label}
use Rattle.pages.specs.Pieces.{together}
use Rattle.pages.specs.Words.{phase_word}
use Rattle.status.specs.declared.call.CallPhase.{CallPhase}
use Rattle.status.specs.declared.call.CallStatus.{CallStatus}
use Rattle.status.specs.declared.call.CallTraffic.{CallTraffic}
use Rattle.status.specs.declared.user.UserStatus.{UserStatus}

unfoldable pub bound_sample : List ℕ → ℕ → List ℕ
bound_sample name count = together (
    codes "office_bindings{user=\"" ∷ label name ∷ codes "\"} " ∷ decimal count ∷ codes "\n" ∷ [])

abbrev pub user_sample : UserStatus → List ℕ
user_sample user = bound_sample user.name (length user.bindings)

unfoldable pub ends_sample : CallStatus → List ℕ
ends_sample call = together (
    codes "office_call_info{call=\"" ∷ decimal call.number ∷ codes "\",caller=\"" ∷ label call.caller ∷
    codes "\",callee=\"" ∷ label call.callee ∷ [])

unfoldable pub phase_sample : CallPhase → List ℕ
phase_sample phase = together (
    codes "\",phase=\"" ∷ phase_word phase ∷ codes "\"} 1\n" ∷ [])

abbrev pub call_sample : CallStatus → List ℕ
call_sample call = ends_sample call ++ phase_sample call.phase

abbrev pub traffic_samples : ℕ → CallTraffic → List ℕ
traffic_samples number traffic = together (
    codes "office_call_datagrams{call=\"" ∷ decimal number ∷ codes "\",direction=\"from_caller\"} " ∷
    decimal traffic.from_caller.total ∷ codes "\noffice_call_datagrams{call=\"" ∷ decimal number ∷
    codes "\",direction=\"from_callee\"} " ∷ decimal traffic.from_callee.total ∷ codes "\n" ∷ [])

abbrev pub samples_of : ℕ → Option CallTraffic → List ℕ
samples_of number None = []
samples_of number (Some traffic) = traffic_samples number traffic

abbrev pub datagram_samples : CallStatus → List ℕ
datagram_samples call = samples_of call.number call.traffic

-- The status in Prometheus' text form (version 0.0.4).
use Rattle.std.specs.Prelude.{ℕ, List, ◌++◌, [], ◌∷◌, length, codes, decimal}
use Rattle.std.specs.List.{flat_map}
use Rattle.pages.specs.Escape.{label}
use Rattle.pages.specs.MetricCalls.{bound_sample, call_sample, datagram_samples, user_sample}
use Rattle.pages.specs.Pieces.{together}
use Rattle.pages.specs.declared.metrics.TheConstants.{DATAGRAMS, EVENTS}
use Rattle.port_pool.specs.declared.pair_counts.PairCounts.{PairCounts}
use Rattle.status.specs.declared.call.CallStatus.{CallStatus}
use Rattle.status.specs.declared.status.DatagramCounts.{DatagramCounts}
use Rattle.status.specs.declared.status.EventCount.{EventCount}
use Rattle.status.specs.declared.status.Overview.{Overview}
use Rattle.status.specs.declared.status.Status.{Status}
use Rattle.status.specs.declared.user.UserStatus.{UserStatus}

unfoldable pub server_samples : Overview → List ℕ
server_samples overview = together (
    codes "# HELP office_info The version of the server.\n# TYPE office_info gauge\noffice_info{version=\"" ∷
    label overview.version.now ∷
    codes "\"} 1\n# HELP office_start_time_seconds When the server started, in seconds since 1970.\n# TYPE office_start_time_seconds gauge\noffice_start_time_seconds " ∷
    decimal overview.started ∷ codes "\n" ∷ [])

unfoldable pub limit_samples : PairCounts → ℕ → List ℕ
limit_samples pairs transactions = together (
    codes "# HELP office_pairs Pairs of ports, by state.\n# TYPE office_pairs gauge\noffice_pairs{state=\"used\"} " ∷
    decimal pairs.used ∷ codes "\noffice_pairs{state=\"resting\"} " ∷ decimal pairs.resting ∷
    codes "\noffice_pairs{state=\"free\"} " ∷ decimal pairs.free ∷
    codes "\n# HELP office_server_transactions Server transactions.\n# TYPE office_server_transactions gauge\noffice_server_transactions " ∷
    decimal transactions ∷
    codes "\n# HELP office_server_transactions_limit The most server transactions at once.\n# TYPE office_server_transactions_limit gauge\noffice_server_transactions_limit 4096\n" ∷ [])

unfoldable pub total_samples : DatagramCounts → List ℕ
total_samples datagrams = together (
    codes "# HELP office_datagrams_total Datagrams of media since the start.\n# TYPE office_datagrams_total counter\noffice_datagrams_total{direction=\"from_caller\"} " ∷
    decimal datagrams.from_callers ∷ codes "\noffice_datagrams_total{direction=\"from_callee\"} " ∷
    decimal datagrams.from_callees ∷ codes "\n" ∷ [])

unfoldable pub event_sample : EventCount → List ℕ
event_sample event = together (
    codes "office_events_total{kind=\"" ∷ label event.kind.now ∷ codes "\"} " ∷ decimal event.count ∷
    codes "\n" ∷ [])

unfoldable pub users_head : ℕ → List ℕ
users_head count = together (
    codes "# HELP office_users Users of the configuration.\n# TYPE office_users gauge\noffice_users " ∷
    decimal count ∷
    codes "\n# HELP office_bindings Bindings of each user.\n# TYPE office_bindings gauge\n" ∷ [])

abbrev pub calls_head : ℕ → List ℕ
calls_head count = together (
    codes "# HELP office_calls Calls that stand.\n# TYPE office_calls gauge\noffice_calls " ∷ decimal count ∷
    codes "\n# HELP office_call_info Each call, with its users and its phase.\n# TYPE office_call_info gauge\n" ∷ [])

unfoldable pub users_samples : List UserStatus → List ℕ
users_samples users = users_head (length users) ++ flat_map user_sample users

unfoldable pub info_samples : List CallStatus → List ℕ
info_samples calls = calls_head (length calls) ++ flat_map call_sample calls

unfoldable pub flow_samples : List CallStatus → List ℕ
flow_samples calls = DATAGRAMS.now ++ flat_map datagram_samples calls

unfoldable pub calls_samples : List CallStatus → List ℕ
calls_samples calls = info_samples calls ++ flow_samples calls

unfoldable pub events_samples : List EventCount → List ℕ
events_samples events = EVENTS.now ++ flat_map event_sample events

unfoldable pub number_samples : Status → List ℕ
number_samples status =
    total_samples status.datagrams ++ limit_samples status.pairs status.transactions ++ events_samples status.events

unfoldable pub metrics_text : Overview → List ℕ
metrics_text overview =
    server_samples overview ++ users_samples overview.status.now.users ++ calls_samples overview.status.now.calls ++ number_samples overview.status.now

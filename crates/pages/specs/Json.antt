-- The status as JSON.
use Rattle.std.specs.Prelude.{ℕ, List, ◌++◌, [], ◌∷◌, codes, decimal}
use Rattle.pages.specs.Escape.{json}
use Rattle.pages.specs.JsonCalls.{call_object}
use Rattle.pages.specs.JsonUsers.{user_object}
use Rattle.pages.specs.Pieces.{listed, together}
use Rattle.pages.specs.declared.json.TheConstants.{CALLS}
use Rattle.port_pool.specs.declared.pair_counts.PairCounts.{PairCounts}
use Rattle.status.specs.declared.status.DatagramCounts.{DatagramCounts}
use Rattle.status.specs.declared.status.EventCount.{EventCount}
use Rattle.status.specs.declared.status.Overview.{Overview}
use Rattle.status.specs.declared.status.Status.{Status}

unfoldable pub event_member : EventCount → List ℕ
event_member event = together (
    codes "\"" ∷ json event.kind.now ∷ codes "\":" ∷ decimal event.count ∷ [])

unfoldable pub line_string : List ℕ → List ℕ
line_string line = together (
    codes "\"" ∷ json line ∷ codes "\"" ∷ [])

unfoldable pub json_start : Overview → List ℕ
json_start overview = together (
    codes "{\"version\":\"" ∷ json overview.version.now ∷ codes "\",\"started\":" ∷ decimal overview.started ∷
    codes ",\"moment_milliseconds\":" ∷ decimal overview.status.now.moment ∷ codes ",\"users\":[" ∷ [])

unfoldable pub json_datagrams : DatagramCounts → List ℕ
json_datagrams datagrams = together (
    codes "],\"datagrams\":{\"from_callers\":" ∷ decimal datagrams.from_callers ∷ codes ",\"from_callees\":" ∷
    decimal datagrams.from_callees ∷ codes "}" ∷ [])

unfoldable pub json_limits : PairCounts → ℕ → List ℕ
json_limits pairs transactions = together (
    codes ",\"pairs\":{\"used\":" ∷ decimal pairs.used ∷ codes ",\"resting\":" ∷ decimal pairs.resting ∷
    codes ",\"free\":" ∷ decimal pairs.free ∷ codes "},\"transactions\":" ∷ decimal transactions ∷
    codes ",\"transactions_limit\":4096,\"events\":{" ∷ [])

unfoldable pub json_head : Overview → List ℕ
json_head overview = json_start overview ++ listed user_object overview.status.now.users

unfoldable pub json_front : Overview → List ℕ
json_front overview = json_head overview ++ CALLS.now

unfoldable pub json_counts : Status → List ℕ
json_counts status = json_datagrams status.datagrams ++ json_limits status.pairs status.transactions ++ listed event_member status.events

unfoldable pub json_log : List (List ℕ) → List ℕ
json_log log = codes "},\"log\":[" ++ listed line_string log ++ codes "]}\n"

unfoldable pub json_text : Overview → List ℕ
json_text overview =
    json_front overview ++ listed call_object overview.status.now.calls ++ json_counts overview.status.now ++ json_log overview.log.now

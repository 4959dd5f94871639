-- The limits, the counts of events and the log on the page.
use Rattle.std.specs.Prelude.{ℕ, List, ◌++◌, [], ◌∷◌, codes, decimal}
use Rattle.std.specs.List.{flat_map}
use Rattle.pages.specs.Escape.{html}
use Rattle.pages.specs.Pieces.{together}
use Rattle.port_pool.specs.declared.pair_counts.PairCounts.{PairCounts}
use Rattle.status.specs.declared.status.DatagramCounts.{DatagramCounts}
use Rattle.status.specs.declared.status.EventCount.{EventCount}
use Rattle.status.specs.declared.status.Status.{Status}

abbrev pub limit_rows : PairCounts → ℕ → List ℕ
limit_rows pairs transactions = together (
    codes "<h2>Limits</h2>\n<div><table>\n<tr><td>Pairs of ports used</td><td>" ∷ decimal pairs.used ∷
    codes "</td></tr>\n<tr><td>Pairs resting</td><td>" ∷ decimal pairs.resting ∷
    codes "</td></tr>\n<tr><td>Pairs free</td><td>" ∷ decimal pairs.free ∷
    codes "</td></tr>\n<tr><td>Server transactions</td><td>" ∷ decimal transactions ∷
    codes " of 4096</td></tr>\n" ∷ [])

abbrev pub datagram_rows : DatagramCounts → List ℕ
datagram_rows datagrams = together (
    codes "<tr><td>Datagrams from callers</td><td>" ∷ decimal datagrams.from_callers ∷
    codes "</td></tr>\n<tr><td>Datagrams from callees</td><td>" ∷ decimal datagrams.from_callees ∷
    codes "</td></tr>\n</table></div>\n" ∷ [])

unfoldable pub limits_table : Status → List ℕ
limits_table status = limit_rows status.pairs status.transactions ++ datagram_rows status.datagrams

abbrev pub event_row : EventCount → List ℕ
event_row event = together (
    codes "<tr><td>" ∷ html event.kind.now ∷ codes "</td><td>" ∷ decimal event.count ∷
    codes "</td></tr>\n" ∷ [])

unfoldable pub events_table : List EventCount → List ℕ
events_table events = together (codes "<h2>Events</h2>\n<div><table>\n" ∷ flat_map event_row events ∷ codes "</table></div>\n" ∷ [])

abbrev pub log_line : List ℕ → List ℕ
log_line line = html line ++ codes "\n"

unfoldable pub log_text : List (List ℕ) → List ℕ
log_text log = together (codes "<h2>Log</h2>\n<pre>" ∷ flat_map log_line log ∷ codes "</pre>\n" ∷ [])

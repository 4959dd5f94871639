use Rattle.std.proofs.Common.{◌≤◌, List, length}
use denote.Text.{Utf8}
use denote.Shadow.{shadow}
use Rattle.configuration.specs.Entries.{Entry, AreEntries, first_top}
use Rattle.configuration.proofs.EntryLaws.{Left}
use Rattle.configuration.proofs.entries.first_top.Given as goal

-- the first entry of the key among those from here on is the first of all
abbrev pub invariant-entries : goal.invariant-entries
invariant-entries l =
    shadow (Utf8 l.rest) × (length l.rest ≤ length l.fn.text)
    × ((entries : List Entry) → AreEntries l.fn.text entries → Left l.key l.rest l.under_header (first_top l.key entries))

abbrev pub decreases-entries : goal.decreases-entries
decreases-entries l = length l.rest

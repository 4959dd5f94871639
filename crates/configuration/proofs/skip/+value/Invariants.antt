use Rattle.std.proofs.Common.{◌≡◌, ℕ, ◌+◌, ◌*◌, ◌<◌, ◌≤◌, List, length, Some}
use denote.Text.{Utf8}
use denote.Shadow.{shadow}
use Rattle.toml.specs.Data.{Items, Members, no_items}
use Rattle.toml.specs.Tables.{no_nodes}
use Rattle.toml.specs.Parse.{val, items, members}
use Rattle.configuration.proofs.SkipLaws.{ReadsItems, ReadsMembers}
use Rattle.configuration.proofs.skip.+value.Given as goal

abbrev pub decreases-skip_items : goal.decreases-skip_items
decreases-skip_items l = 2 * l.depth + 2

abbrev pub decreases-skip_members : goal.decreases-skip_members
decreases-skip_members l = 2 * l.depth + 2

abbrev pub decreases-skip_value : goal.decreases-skip_value
decreases-skip_value l = 2 * l.depth + 1

-- an array that the grammar reads is read from here on
abbrev pub invariant-skip_items-items : goal.invariant-skip_items-items
invariant-skip_items-items l =
    shadow (Utf8 l.rest) × (length l.rest ≤ length l.fn.s)
    × ((n : ℕ) → length l.fn.s < n → (read : Items × List ℕ) → items (val l.fn.depth) n no_items l.fn.s ≡ Some read
    → (m : ℕ) × (length l.rest < m) × ReadsItems (val l.fn.depth) m l.rest read)

abbrev pub decreases-skip_items-items : goal.decreases-skip_items-items
decreases-skip_items-items l = length l.rest

-- and so is an inline table
abbrev pub invariant-skip_members-members : goal.invariant-skip_members-members
invariant-skip_members-members l =
    shadow (Utf8 l.rest) × (length l.rest ≤ length l.fn.s)
    × ((n : ℕ) → length l.fn.s < n → (read : Members × List ℕ) → members (val l.fn.depth) n no_nodes l.fn.s ≡ Some read
    → (m : ℕ) × (length l.rest < m) × ReadsMembers (val l.fn.depth) m l.rest read)

abbrev pub decreases-skip_members-members : goal.decreases-skip_members-members
decreases-skip_members-members l = length l.rest

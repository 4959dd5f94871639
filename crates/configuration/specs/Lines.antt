-- The line of a text on which the definition of a key begins.
use Rattle.std.specs.Prelude.{◌≡◌, ◌==◌, ◌+◌, ◌-◌, ◌||◌, ℕ, Bool, false, List, [], ◌∷◌, length, take, Option, option_map, if◌then◌else◌}
use Rattle.toml.specs.Data.{Members, no_members, member}
use Rattle.toml.specs.Parse.{skip_bom}
use Rattle.configuration.specs.Keys.{is_same}
use Rattle.configuration.specs.Entries.{Entry, AreEntries, first_top}

-- a line is looked for in texts of at most this many bytes
abbrev pub max_looked : ℕ
max_looked = 65536

abbrev pub newlines : List ℕ → ℕ
newlines [] = 0
newlines (b ∷ bs) = if b == 10 then newlines bs + 1 else newlines bs

-- the line that comes after this text, from 1
abbrev pub line_behind : List ℕ → ℕ
line_behind before = newlines before + 1

-- the line on which an entry of the text begins
abbrev pub line_at : List ℕ → List ℕ → ℕ
line_at text from = line_behind (take (length text - length from) text)

-- whether a table has a key
abbrev pub has_key : List ℕ → Members → Bool
has_key key no_members = false
has_key key (member other value rest) = is_same other key || has_key key rest

-- the line of the first entry of the key, if these are the text's entries, and none if none of them is of the key
abbrev pub line_among : List ℕ → List ℕ → List Entry → Option ℕ
line_among text key entries = option_map (λ entry. line_at text entry.from) (first_top key entries)

-- the same for the entries that the text has, whatever they are
abbrev pub IsTold : List ℕ → List ℕ → Option ℕ → Type 0
IsTold text key line = (entries : List Entry) → AreEntries (skip_bom text) entries → line ≡ line_among text key entries

-- the text has entries, and this is the line of the first of the key, or none if none of them is of the key
abbrev pub IsLineOf : List ℕ → List ℕ → Option ℕ → Type 0
IsLineOf text key line = (entries : List Entry) × AreEntries (skip_bom text) entries × (line ≡ line_among text key entries)

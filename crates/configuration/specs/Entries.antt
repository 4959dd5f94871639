-- The entries of a text, as TOML's grammar reads them, and the first that is of a key of the whole file.
use Rattle.std.specs.Prelude.{◌≡◌, ℕ, Bool, true, false, not, ◌||◌, if◌then◌else◌, List, [], ◌∷◌, length, find, Option, Some, Result, MatchResult}
use Rattle.std.specs.Borrow.{Bor}
use Rattle.toml_parser.specs.Lexical.{Read, skip_blank}
use Rattle.toml_parser.specs.Strings.{Key}
use Rattle.toml_parser.specs.Reading.{key_view}
use Rattle.toml_parser.specs.declared.key.Key as code_key
use Rattle.toml_parser.specs.declared.error.ParseError.{ParseError}
use Rattle.toml_parser.specs.declared.error.ParseError.TheVariants.{OutOfMemory}
use Rattle.toml.specs.Tables.{Definition, key_value, std_table, array_table, Expression}
use Rattle.toml.specs.Parse.{line}
use Rattle.configuration.specs.Keys.{is_same}

-- an entry: the text from its beginning on, its key, the value or the header, and the text after it
pub record Entry : Type 0 where
  pub from : List ℕ
  pub key : Key
  pub what : Definition
  pub behind : List ℕ

-- these entries are the text, except for blanks between them
abbrev pub AreEntries : List ℕ → List Entry → Type 0
AreEntries text [] = length (skip_blank text) ≡ 0
AreEntries text (entry ∷ entries) =
    (entry.from ≡ skip_blank text) × (line entry.from ≡ Some ((entry.key, entry.what), entry.behind)) × AreEntries entry.behind entries

abbrev pub is_header : Definition → Bool
is_header (key_value d) = false
is_header std_table = true
is_header array_table = true

abbrev pub first_part : List (List ℕ) → List ℕ → List ℕ
first_part [] last = last
first_part (part ∷ path) last = part

-- the first part of a dotted key: the key of the enclosing table
abbrev pub root_of : Key → List ℕ
root_of key = first_part key.0 key.1

-- the entries whose keys are of the whole file's table: the pairs before all headers, and the headers
abbrev pub top_entries : Bool → List Entry → List Entry
top_entries under [] = []
top_entries under (entry ∷ entries) =
    if is_header entry.what || not under
    then entry ∷ top_entries (under || is_header entry.what) entries
    else top_entries (under || is_header entry.what) entries

-- the first entry that is of this key of the whole file, or of something in it
abbrev pub first_top : List ℕ → List Entry → Option Entry
first_top key entries = find (λ entry. is_same (root_of entry.key) key) (top_entries false entries)

-- if the grammar reads something, what comes after it is left, unless memory runs out
abbrev pub Skips : {A : Type 0} → Result (Bor (List ℕ)) ParseError → Read A → Type 0
Skips {A} r expected = (read : A × List ℕ) → expected ≡ Some read → MatchResult r (λ rest. rest.now ≡ read.1) (λ e. e ≡ OutOfMemory)

-- if the grammar reads an entry, its key is given, whether it is a header, and what comes after it
abbrev pub IsRead : Result (code_key.Key × Bool × Bor (List ℕ)) ParseError → Read Expression → Type 0
IsRead r expected = (read : Expression × List ℕ) → expected ≡ Some read
    → MatchResult r (λ entry. (key_view entry.0 ≡ read.0.0) × (entry.1 ≡ is_header read.0.1) × (entry.2.now ≡ read.1)) (λ e. e ≡ OutOfMemory)

-- Why a text is no configuration that keeps the rules, and where.
use Rattle.std.specs.Prelude.{◌≡◌, ◌<◌, ◌≤◌, ◌⊎◌, ℕ, Bool, true, false, List, length, take, Option, Some, None, IfNone}
use Rattle.toml.specs.Data.{Members}
use Rattle.configuration.specs.Reading.{IsTextOf}
use Rattle.configuration.specs.Keys.{key_name}
use Rattle.configuration.specs.Flaws.{flaw_in}
use Rattle.configuration.specs.Lines.{max_looked, line_behind, has_key, IsLineOf}
use Rattle.configuration.specs.declared.fault.ConfigFault.{ConfigFault}
use Rattle.configuration.specs.declared.key.Key.TheVariants as keys
use Rattle.configuration.specs.declared.flaw.Flaw.{Flaw}
use Rattle.configuration.specs.declared.flaw.Flaw.TheVariants.{NoToml, UnknownKey, Missing, OtherType, OutOfRange, Odd, PastLastPort, RelayPort, Malformed, RandomKey, UserCount, UserTwice}

-- the key whose line is reported
abbrev pub key_of_flaw : Flaw → Option (List ℕ)
key_of_flaw (NoToml words) = None
key_of_flaw (UnknownKey key) = Some key
key_of_flaw (Missing key) = None
key_of_flaw (OtherType key) = Some (key_name key)
key_of_flaw (OutOfRange key z) = Some (key_name key)
key_of_flaw (Odd z) = Some (key_name keys.RelayFirst)
key_of_flaw (PastLastPort z) = Some (key_name keys.RelayPairs)
key_of_flaw (RelayPort z) = Some (key_name keys.SipPort)
key_of_flaw (Malformed key text) = Some (key_name key)
key_of_flaw (RandomKey count) = Some (key_name keys.RandomKey)
key_of_flaw (UserCount count) = Some (key_name keys.Users)
key_of_flaw (UserTwice user) = Some (key_name keys.Users)

abbrev pub is_no_toml : Flaw → Bool
is_no_toml (NoToml words) = true
is_no_toml (UnknownKey key) = false
is_no_toml (Missing key) = false
is_no_toml (OtherType key) = false
is_no_toml (OutOfRange key z) = false
is_no_toml (Odd z) = false
is_no_toml (PastLastPort z) = false
is_no_toml (RelayPort z) = false
is_no_toml (Malformed key text) = false
is_no_toml (RandomKey count) = false
is_no_toml (UserCount count) = false
is_no_toml (UserTwice user) = false

-- the bytes are the text of a table
abbrev pub HasTable : List ℕ → Type 0
HasTable bytes = (ms : Members) × IsTextOf bytes ms

-- the bytes are the text of a table with this key
abbrev pub HasKey : List ℕ → List ℕ → Type 0
HasKey bytes key = (ms : Members) × IsTextOf bytes ms × (has_key key ms ≡ true)

-- the line of the first entry of a key; none in a text that is too long to be searched, and if the key is missing
pub record IsLineOfKey (bytes key : List ℕ) (line : Option ℕ) : Type 0 where
  pub first : length bytes ≤ max_looked → IsLineOf bytes key line
  pub long : max_looked < length bytes → line ≡ None
  pub none : IfNone line ((max_looked < length bytes) ⊎ ¬ (HasKey bytes key))

-- the line that is reported for a key
abbrev pub IsKeyLine : List ℕ → Option (List ℕ) → Option ℕ → Type 0
IsKeyLine bytes None line = line ≡ None
IsKeyLine bytes (Some key) line = IsLineOfKey bytes key line

-- the text has no table: the line is one of the text's
pub record HasNoTable (bytes : List ℕ) (fault : ConfigFault) : Type 0 where
  pub no_toml : is_no_toml fault.flaw ≡ true
  pub none : (ms : Members) → ¬ (IsTextOf bytes ms)
  pub line : (at : ℕ) × (at ≤ length bytes) × (fault.line ≡ Some (line_behind (take at bytes)))

-- the text has a table: the flaw is its first, and the line that of its key
pub record HasTableWith (bytes : List ℕ) (fault : ConfigFault) : Type 0 where
  pub table : Members
  pub text : IsTextOf bytes table
  pub first : flaw_in table ≡ Some fault.flaw
  pub line : IsKeyLine bytes (key_of_flaw fault.flaw) fault.line

abbrev pub IsFaultOf : List ℕ → ConfigFault → Type 0
IsFaultOf bytes fault = HasNoTable bytes fault ⊎ HasTableWith bytes fault

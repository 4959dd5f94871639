-- What each key of a table has that says a configuration.
use Rattle.std.specs.Prelude.{◌≡◌, ◌≤◌, ℕ, ℤ, pos, Bool, false, true, Option, Some, None, option_and_then}
use Rattle.std.specs.List.{Contains}
use Rattle.toml.specs.Data.{Data, Items, Members, as_integer, as_bool, as_str, as_array}
use Rattle.configuration.specs.Keys.{Row, row_of, all_keys}
use Rattle.configuration.specs.Files.{value_at, flag_at, small_at, key_of, level_named}
use Rattle.configuration.specs.Status.{page_at}
use Rattle.configuration.specs.Flaws.{are_texts, said_flaw}
use Rattle.configuration.specs.declared.key.Key.{Key}
use Rattle.configuration.specs.declared.key.Key.TheVariants as keys
use Rattle.configuration.specs.declared.key.Measure.{Measure}
use Rattle.configuration.specs.declared.key.Kind.{Kind}
use Rattle.configuration.specs.declared.key.Kind.TheVariants.{Whole, Between, Truth, Text, Digits, Level, Page, Texts}

abbrev pub IsThere : {X : Type 0} → Option X → Type 0
IsThere {X} o = (x : X) × (o ≡ Some x)

-- a whole number from the least to the most
abbrev pub IsBetween : ℕ → ℕ → Option ℤ → Type 0
IsBetween least most z = (n : ℕ) × (z ≡ Some (pos n)) × (least ≤ n) × (n ≤ most)

-- a list of texts, and of nothing else
abbrev pub HoldsTexts : Option Items → Type 0
HoldsTexts items = (some : Items) × (items ≡ Some some) × (are_texts some ≡ true)

-- a value of this kind, in a table that says whether the page is open
abbrev pub IsOfKind : Bool → Kind → Data → Type 0
IsOfKind is_open (Whole rule) value = IsThere (as_integer value)
IsOfKind is_open (Between measure least most) value = IsBetween least most (as_integer value)
IsOfKind is_open Truth value = IsThere (as_bool value)
IsOfKind is_open (Text rule) value = IsThere (as_str value)
IsOfKind is_open Digits value = IsThere (option_and_then key_of (as_str value))
IsOfKind is_open Level value = IsThere (option_and_then level_named (as_str value))
IsOfKind is_open Page value = IsThere (option_and_then (page_at is_open) (as_str value))
IsOfKind is_open (Texts rule) value = HoldsTexts (as_array value)

-- what a row asks: a value of its kind, which may be missing only if it is optional
abbrev pub KeepsRow : Bool → Row → Option Data → Type 0
KeepsRow is_open row None = row.is_required ≡ false
KeepsRow is_open row (Some value) = IsOfKind is_open row.kind value

-- each key of the table of keys has what its row asks, in a table whose keys have no flaw
abbrev pub KeysKeepRows : Type 0
KeysKeepRows = (ms : Members) (key : Key) → Contains all_keys key → said_flaw ms ≡ None → KeepsRow (flag_at keys.StatusOpen ms) (row_of key) (value_at key ms)

-- the file's number, or the usual one where the key is missing
abbrev pub IsExact : ℕ → Option Data → ℕ → Type 0
IsExact usual None n = n ≡ usual
IsExact usual (Some value) n = as_integer value ≡ Some (pos n)

-- so is what is read of a key of small numbers
abbrev pub SmallNumbersAreExact : Type 0
SmallNumbersAreExact = (ms : Members) (key : Key) (measure : Measure) (least most usual : ℕ)
    → Contains all_keys key → said_flaw ms ≡ None → (row_of key).kind ≡ Between measure least most → most ≤ 255 → IsExact usual (value_at key ms) (small_at key usual ms)

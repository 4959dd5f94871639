-- What a range means.
use Rattle.std.specs.Prelude.{◌≡◌, ◌≤◌, ℕ, true, List, length, Some}
use Rattle.std.specs.List.{Contains, list_all}
use Rattle.std.specs.Char.{is_ascii_digit}
use Rattle.std.specs.Str.Parse.{digits_value}
use Rattle.configuration.specs.Ranges.{range_of, names_of}
use Rattle.configuration.specs.declared.ranges.Range.{Range}

-- a number with as many digits as the range's, between its ends
pub record IsBetween (r : Range) (name : List ℕ) : Type 0 where
  pub digits : list_all is_ascii_digit name ≡ true
  pub long : length name ≡ r.digits
  pub from : r.first ≤ digits_value 10 name
  pub to : digits_value 10 name ≤ r.last

-- a range means these names, and no others
abbrev pub RangeHolds : Type 0
RangeHolds = (text name : List ℕ) (r : Range) → range_of text ≡ Some r
    → (Contains (names_of text) name → IsBetween r name) × (IsBetween r name → Contains (names_of text) name)

-- What a file is read as.
use Rattle.std.specs.Prelude.{◌≡◌, ℕ, List, Option, Some, None}

-- a file with these bytes, if they are known, reads as this text
abbrev pub HasText : Option (List ℕ) → List ℕ → Type 0
HasText None text = Unit {0}
HasText (Some bytes) text = bytes ≡ text

-- What is kept of an input.
use Rattle.std.specs.Prelude.{◌≡◌, ℕ, List, take, Option}
use Rattle.std.specs.Io.KnownBytes.{Consumes, IsAtEnd}

-- at most this much of a datagram is kept, which is enough to see that it is too long
abbrev pub max_kept : ℕ
max_kept = 16385

-- these bytes were taken, and the first of them are kept
abbrev pub Takes : Option (List ℕ) → Option (List ℕ) → List ℕ → Type 0
Takes left left_after kept = (whole : List ℕ) × Consumes left left_after whole × (kept ≡ take max_kept whole)

-- all bytes were taken, and the first of them are kept
abbrev pub Reads : Option (List ℕ) → Option (List ℕ) → List ℕ → Type 0
Reads left left_after kept = Takes left left_after kept × IsAtEnd left_after

-- all bytes were taken, and are kept
abbrev pub ReadsAll : Option (List ℕ) → Option (List ℕ) → List ℕ → Type 0
ReadsAll left left_after whole = Consumes left left_after whole × IsAtEnd left_after

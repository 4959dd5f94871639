-- Numbers under prints. A print is a number that is made from what is looked for: equal things have equal prints, and
-- what has another print is not compared.
use Rattle.std.specs.Prelude.{ℕ, List, [], ◌∷◌, nat_lt, nat_eq, if◌then◌else◌}
use Rattle.index.specs.declared.index.Entry.{Entry}

-- Numbers with their prints, and how many more can be put without memory. `numbers_of` says which are under a print.
pub record Indexed : Type 0 where
  pub entries : List Entry
  pub room : ℕ

-- a number goes before the first that is not less
abbrev pub put_number : List ℕ → ℕ → List ℕ
put_number [] number = number ∷ []
put_number (n ∷ ns) number = if nat_lt n number then n ∷ put_number ns number else number ∷ n ∷ ns

-- a number is removed once, if it is there
abbrev pub remove_number : List ℕ → ℕ → List ℕ
remove_number [] number = []
remove_number (n ∷ ns) number = if nat_eq n number then ns else n ∷ remove_number ns number

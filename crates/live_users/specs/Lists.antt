-- Lists of users.
use Rattle.std.specs.Prelude.{ℕ, Bool, not, nat_eq, List, count_by}
use Rattle.std.specs.List.{list_any}
use Rattle.std.specs.Cmp.Lexicographic.{pointwise}

abbrev pub is_among : List (List ℕ) → List ℕ → Bool
is_among others user = list_any (λ other. pointwise nat_eq other user) others

-- how many of these are not among the others
abbrev pub missing_count : List (List ℕ) → List (List ℕ) → ℕ
missing_count users others = count_by (λ user. not (is_among others user)) users

-- Looks at a flow of datagrams, the earliest first.
use Rattle.std.specs.Prelude.{ℕ, ◌≤◌, Bool, List, [], ◌∷◌, ◌++◌, nat_eq}
use Rattle.std.specs.List.{AllByRecursion, list_all}

-- how many datagrams had come by a moment, in milliseconds
pub record Look : Type 0 where
  pub moment : ℕ
  pub count : ℕ

-- a further look, as the last
abbrev pub after_look : List Look → ℕ → ℕ → List Look
after_look looks moment count = looks ++ record { moment = moment; count = count } ∷ []

-- each of them found this count
abbrev pub all_found : ℕ → List Look → Bool
all_found count looks = list_all (λ look. nat_eq look.count count) looks

-- none is later than one after it
abbrev pub MomentsRise : List Look → Type 0
MomentsRise [] = Unit {0}
MomentsRise (look ∷ looks) = AllByRecursion (λ other. look.moment ≤ other.moment) looks × MomentsRise looks

-- How long a flow has been still, by the looks at it.
use Rattle.std.specs.Prelude.{◌≡◌, ℕ, ◌≤◌, ◌-◌, true, List, [], ◌∷◌, ◌++◌, Option, Some, None, if◌then◌else◌}
use Rattle.call_traffic.specs.declared.stillness.Stillness.{Stillness}
use Rattle.call_traffic.specs.Looks.{Look, all_found}

-- the moment of the earliest look such that it and all after it found this count, if there is one
abbrev pub since_when : ℕ → List Look → Option ℕ
since_when count [] = None
since_when count (look ∷ looks) = if all_found count (look ∷ looks) then Some look.moment else since_when count looks

-- What is remembered of looks: the count that the last one found, and since when each found it.
abbrev pub IsStillnessOf : List Look → Stillness → Type 0
IsStillnessOf looks stillness = since_when stillness.count looks ≡ Some stillness.since

-- The flow has been still for `limit` at a moment: a look is at least that long ago, and all after it found its
-- count.
pub record IsStill (looks : List Look) (now limit : ℕ) : Type 0 where
  pub before : List Look
  pub first : Look
  pub behind : List Look
  pub parts : looks ≡ before ++ first ∷ behind
  pub long_ago : limit ≤ now - first.moment
  pub same : all_found first.count behind ≡ true

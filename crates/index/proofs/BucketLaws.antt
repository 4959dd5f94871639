-- Buckets after a change of one.
use Rattle.std.proofs.Common.{◌≡◌, ◌≢◌, ℕ, ◌+◌, ◌<◌, ◌≤◌, List, length, cond, eqb, get_or, set, refl, sym, subst, inl, inr, arith}
use Rattle.std.proofs.lemmas.Bool.{cases_eq, eq-eqb}
use Rattle.std.proofs.lemmas.List.{get_or-set_same, get_or-set_other}
use Rattle.index.specs.Buckets.{bucket_at, no_bucket}
use Rattle.index.specs.Entries.{numbers_of}
use Rattle.index.specs.Numbers.{Indexed, remove_number}
use Rattle.index.proofs.NumberLaws.{remove_length}

-- what holds of the bucket that is changed, and of the others, holds of each
pub set_each : (P : ℕ → Indexed → Type 0) (buckets : List Indexed) (i : ℕ) (b : Indexed) → i < length buckets → P i b → ((place : ℕ) → place ≢ i → P place (bucket_at buckets place))
    → (place : ℕ) → P place (bucket_at (set buckets i b) place)
set_each P buckets i b less here others place =
    elim (cases_eq place i) [
      | inl same ↦ rw same (subst (P i) (sym (get_or-set_same buckets i b no_bucket less)) here)
      | inr other ↦ subst (P place) (sym (get_or-set_other buckets i place b no_bucket other)) (others place other)
    ]

-- a number that is removed takes no room
pub room_removed : (b b' : Indexed) (print number : ℕ)
    → ((other : ℕ) → numbers_of b'.entries other ≡ cond (eqb other print) (remove_number (numbers_of b.entries print) number) (numbers_of b.entries other))
    → length (numbers_of b.entries print) + b.room ≤ length (numbers_of b'.entries print) + b'.room → b.room ≤ b'.room
room_removed b b' print number removed room =
    let fewer : length (numbers_of b'.entries print) ≡ length (remove_number (numbers_of b.entries print) number) = rw (removed print, eq-eqb print print refl) refl in
    let most = remove_length (numbers_of b.entries print) number in
    omega (arith, fewer, most, room)

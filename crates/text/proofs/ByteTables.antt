-- Classes of bytes by tables.
use Rattle.std.proofs.Common.{◌≡◌, ℕ, Bool, ◌<◌, true, not, nat_eq, get_or, List}
use Rattle.std.proofs.lemmas.Bool.{agree_below, agree_below_at}

-- a table with a bar at the places of the bytes that do not pass: it says of each byte what the test says
pub by_table : (table : List ℕ) (test : ℕ → Bool) (b : ℕ) → b < 256 → agree_below (λ k. not (nat_eq (get_or table k 0) 124)) test 256 ≡ true
    → not (nat_eq (get_or table b 0) 124) ≡ test b
by_table table test b small agrees = agree_below_at (λ k. not (nat_eq (get_or table k 0) 124)) test 256 b agrees small

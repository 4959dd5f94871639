-- How many of the events that strangers cause are logged in a second.
use Rattle.std.specs.Prelude.{◌≡◌, ◌+◌, ◌/◌, ◌≤◌, ◌==◌, ℕ, Bool, true, false, List, [], ◌∷◌, count_by, min, nat_lt, if◌then◌else◌}

-- at most this many
abbrev pub most_logged : ℕ
most_logged = 10

-- the second of the last question, how many were logged in it, and how many were left out and not yet counted in a line
pub record Contents : Type 0 where
  pub second : ℕ
  pub logged : ℕ
  pub left_out : ℕ

abbrev pub is_in : ℕ → ℕ → Bool
is_in second moment = moment / 1000 == second

abbrev pub logged_in : ℕ → Contents → ℕ
logged_in second limit = if second == limit.second then limit.logged else 0

-- the moments of all that was logged: as many of the last second, and none of a later one
abbrev pub Follows : List ℕ → Contents → Type 0
Follows moments limit = (second : ℕ) → limit.second ≤ second → count_by (is_in second) moments ≡ logged_in second limit

-- the moments of what was logged, with this one if it was
abbrev pub with_logged : Bool → ℕ → List ℕ → List ℕ
with_logged false now moments = moments
with_logged true now moments = now ∷ moments

abbrev pub after_question : ℕ → Contents → Contents
after_question now limit =
    if nat_lt (logged_in (now / 1000) limit) most_logged
    then record { second = now / 1000; logged = logged_in (now / 1000) limit + 1; left_out = limit.left_out }
    else record { second = now / 1000; logged = logged_in (now / 1000) limit; left_out = min (limit.left_out + 1) 18446744073709551615 }

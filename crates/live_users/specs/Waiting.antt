-- The list of users that the agent has yet to take.
use Rattle.std.specs.Prelude.{◌+◌, ℕ, Bool, true, false, List, length, Option, Some, None, option_map, is_some, min, nat_lt, if◌then◌else◌}
use Rattle.live_users.specs.declared.waiting_users.UsersChange.{UsersChange}

-- users are handed in again after this many milliseconds, where the agent could not take them
abbrev pub between_tries : ℕ
between_tries = 1000

-- counts and moments end here
abbrev pub most : ℕ
most = 18446744073709551615

-- the users that the agent shall have, where it has others; how many were added and removed since those that it has;
-- whether they were handed in for the round that goes on; and when they may be handed in next, in milliseconds
pub record Contents : Type 0 where
  pub wanted : Option (List (List ℕ))
  pub added : ℕ
  pub removed : ℕ
  pub are_handed_in : Bool
  pub next_try : ℕ

-- what is handed in at a moment
abbrev pub due_at : ℕ → Contents → Option (List (List ℕ))
due_at now waiting = if nat_lt now waiting.next_try then None else waiting.wanted

-- what the agent took with the event of this round, if that handed users in
abbrev pub taken : Contents → Option UsersChange
taken waiting =
    if waiting.are_handed_in
    then option_map (λ users. record { added = waiting.added; removed = waiting.removed; count = length users }) waiting.wanted
    else None

-- another list takes the place of one that waits; its counts add to those of that
abbrev pub wanting : Contents → List (List ℕ) → ℕ → ℕ → Contents
wanting waiting users added removed = record {
  wanted = Some users;
  added = min (waiting.added + added) most;
  removed = min (waiting.removed + removed) most;
  are_handed_in = false;
  next_try = 0;
}

-- the next try is a second after this one
abbrev pub put_off : ℕ → Contents → Contents
put_off now waiting = record waiting { next_try = min (now + between_tries) most }

-- what is handed in still waits, until the agent took it
abbrev pub handed_in : ℕ → Contents → Contents
handed_in now waiting = if is_some (due_at now waiting) then record (put_off now waiting) { are_handed_in = true } else waiting

-- what the agent took waits no longer
abbrev pub settled : Contents → Contents
settled waiting =
    if waiting.are_handed_in
    then (if is_some waiting.wanted
    then record { wanted = None; added = 0; removed = 0; are_handed_in = false; next_try = waiting.next_try }
    else record waiting { are_handed_in = false })
    else waiting

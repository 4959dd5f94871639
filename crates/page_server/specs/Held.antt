-- What a server holds: its connections, each at its stage.
use Rattle.std.specs.Prelude.{◌≡◌, ℕ, ◌+◌, ◌<◌, ◌≤◌, List, [], ◌∷◌, ◌++◌, length, replicate, ⊤, ◌⊎◌}

-- the maximum number of connections at once
abbrev pub max_connections : ℕ
max_connections = 32

-- the maximum lifetime of a connection, in milliseconds: that of all its stages together
abbrev pub max_stay : ℕ
max_stay = 16000

-- when a connection was accepted, since when it has been at its stage, how many stages it passed before that one, and
-- how long it may stay there: milliseconds
pub record Held : Type 0 where
  pub accepted : ℕ
  pub since : ℕ
  pub passed : ℕ
  pub patience : ℕ

-- it has been at its stage for less than its limit
abbrev pub IsTimely : ℕ → Held → Type 0
IsTimely now held = now < held.since + held.patience

-- it has lasted for less than it may
abbrev pub IsBrief : ℕ → Held → Type 0
IsBrief now held = now < held.accepted + max_stay

-- a connection that is accepted at this moment: the head of its request may take five seconds
abbrev pub accepted_at : ℕ → Held
accepted_at now = record { accepted = now; since = now; passed = 0; patience = 5000 }

-- A connection goes on: the moment of its accept stays, no stage comes again, and none begins anew. One that it reaches
-- begins now.
pub record GoesOn (now : ℕ) (before after : Held) : Type 0 where
  pub accepted : after.accepted ≡ before.accepted
  pub order : before.passed ≤ after.passed
  pub same : after.passed ≡ before.passed → after.since ≡ before.since
  pub later : before.passed < after.passed → after.since ≡ now

-- each of those that are left goes on, in the same order; the others are gone
abbrev pub AreLeft : ℕ → List Held → List Held → Type 0
AreLeft now [] [] = ⊤
AreLeft now [] (a ∷ after) = ⊥
AreLeft now (b ∷ before) [] = ⊤
AreLeft now (b ∷ before) (a ∷ after) = (GoesOn now b a × AreLeft now before after) ⊎ AreLeft now before (a ∷ after)

-- one more was accepted at this moment, if there was room
abbrev pub OneMayJoin : ℕ → List Held → List Held → Type 0
OneMayJoin now before after = (after ≡ before) ⊎ ((after ≡ before ++ accepted_at now ∷ []) × (length before < max_connections))

-- more were accepted at this moment, as many as there was room for at most
abbrev pub Join : ℕ → List Held → List Held → Type 0
Join now before after = (count : ℕ) × (after ≡ before ++ replicate count (accepted_at now)) × (length before ≤ max_connections → length before + count ≤ max_connections)

-- Connections are accepted, as far as there is room beside those that were there. Then each goes on, or is gone.
abbrev pub TurnsTo : ℕ → List Held → List Held → Type 0
TurnsTo now before after = (count : ℕ) × (length before + count ≤ max_connections) × AreLeft now (before ++ replicate count (accepted_at now)) after

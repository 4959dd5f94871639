-- Datagrams that a wire is asked to send one after the other, of which some may fail.
use Rattle.std.specs.Prelude.{◌≡◌, ◌⊎◌, ℕ, ◌+◌, Bool, List, [], ◌∷◌, ◌++◌, if◌then◌else◌}
use Rattle.events.specs.declared.sent.Sent.{Sent}

-- what a wire was asked to send, and what of it went, in order
pub record Tried : Type 0 where
  pub asked : List Sent
  pub sent : List Sent

abbrev pub nothing_tried : Tried
nothing_tried = record { asked = []; sent = [] }

-- it was asked to send one more, which went or failed
abbrev pub tried_one : Tried → Sent → Bool → Tried
tried_one t d failed = record { asked = t.asked ++ d ∷ []; sent = if failed then t.sent else t.sent ++ d ∷ [] }

-- `gone` are those of these datagrams that went, in their order, and `failed` others failed
abbrev pub Went : List Sent → List Sent → ℕ → Type 0
Went [] gone failed = (gone ≡ []) × (failed ≡ 0)
Went (d ∷ ds) gone failed =
    ((rest : List Sent) × (gone ≡ d ∷ rest) × Went ds rest failed) ⊎ ((others : ℕ) × (failed ≡ 1 + others) × Went ds gone others)

-- The wire was asked to send these datagrams, each once and in this order; those that went are appended to what went
-- before, and `failed` of them failed.
pub record Sends (tried tried_after : Tried) (datagrams : List Sent) (failed : ℕ) : Type 0 where
  pub asked : tried_after.asked ≡ tried.asked ++ datagrams
  pub gone : List Sent
  pub sent : tried_after.sent ≡ tried.sent ++ gone
  pub went : Went datagrams gone failed

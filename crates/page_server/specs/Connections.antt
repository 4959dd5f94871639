-- A connection, as a server holds it.
use Rattle.std.specs.Prelude.{◌≡◌, ℕ, ◌+◌, ◌≤◌, IsSomeAnd}
use Rattle.page_server.specs.declared.connection.Connection.{Connection}
use Rattle.page_server.specs.declared.moments.Moments.{Moments}
use Rattle.page_server.specs.declared.stages.Stage.{Stage}
use Rattle.page_server.specs.Held.{Held, IsTimely, IsBrief}
use Rattle.page_server.specs.Stages.{passed_of, patience_of, refusal_of, refused}

abbrev pub held_at : Moments → Stage → Held
held_at moments stage = record { accepted = moments.accepted; since = moments.since; passed = passed_of stage; patience = patience_of stage }

abbrev pub held_of : Connection → Held
held_of c = held_at c.moments c.stage

abbrev pub IsTimelyNow : ℕ → Connection → Type 0
IsTimelyNow now c = IsTimely now (held_of c)

abbrev pub IsBriefNow : ℕ → Connection → Type 0
IsBriefNow now c = IsBrief now (held_of c)

-- before its time is up, a connection stays as it is; after that it is refused
pub record IsWithinTime (now : ℕ) (before behind : Connection) : Type 0 where
  pub stays : IsTimely now (held_of before) → behind ≡ before
  pub refused : before.moments.since + patience_of before.stage ≤ now → IsSomeAnd (refusal_of before.stage) (λ r. behind.stage ≡ refused r)
  pub since : before.moments.since + patience_of before.stage ≤ now → behind.moments.since ≡ now

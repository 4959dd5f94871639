-- What the agent would send again was sent before.
use Rattle.std.specs.Prelude.{◌≡◌, ℕ, List, [], ◌∷◌, Option, Some, None, ◌⊎◌}
use Rattle.std.specs.List.{All}
use Rattle.events.specs.declared.sent.Sent.{Sent}
use Rattle.transactions.specs.declared.transaction.Transaction.{Transaction}
use Rattle.calls.specs.declared.standing_call.StandingCall.{StandingCall}
use Rattle.plans.specs.declared.acks.KeptAck.{KeptAck}
use Rattle.plans.specs.Office.{Office}

-- these bytes are one of the datagrams
abbrev pub WasSent : List Sent → List ℕ → Type 0
WasSent [] bytes = ⊥
WasSent (d ∷ sent) bytes = (d.bytes ≡ bytes) ⊎ WasSent sent bytes

abbrev pub WasSentIf : List Sent → Option (List ℕ) → Type 0
WasSentIf sent None = Unit {0}
WasSentIf sent (Some bytes) = WasSent sent bytes

-- what a transaction sent last
abbrev pub LastWasSent : List Sent → Option Transaction → Type 0
LastWasSent sent None = Unit {0}
LastWasSent sent (Some t) = WasSentIf sent t.last

-- the 200 that is sent again until its ACK comes (RFC 3261 section 13.3.1.4)
abbrev pub AnswerWasSent : List Sent → Option Sent → Type 0
AnswerWasSent sent None = Unit {0}
AnswerWasSent sent (Some answer) = WasSent sent answer.bytes

abbrev pub CallWasSent : List Sent → StandingCall → Type 0
CallWasSent sent c = AnswerWasSent sent c.answer

-- the ACK that is sent again where its 2xx comes again (section 13.2.2.4)
abbrev pub AckWasSent : List Sent → KeptAck → Type 0
AckWasSent sent ack = WasSent sent ack.sent.bytes

-- of all that was sent
pub record KnowsSent (s : Office) (sent : List Sent) : Type 0 where
  pub slots : All (LastWasSent sent) s.table.slots
  pub acks : All (AckWasSent sent) s.acks
  pub calls : All (CallWasSent sent) s.calls.calls

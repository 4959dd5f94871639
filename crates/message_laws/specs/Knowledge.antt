-- All that the agent knows of its own messages.
use Rattle.std.specs.Prelude.{List, [], ◌∷◌, ◌++◌}
use Rattle.events.specs.declared.sent.Sent.{Sent}
use Rattle.plans.specs.Office.{Office}
use Rattle.event_rows.specs.Trace.{Entry}
use Rattle.message_laws.specs.Acks.{KnowsAcks}
use Rattle.message_laws.specs.Knowing.{KnowsTokens}
use Rattle.message_laws.specs.Sending.{KnowsSent}
use Rattle.message_laws.specs.Waiting.{KnowsWaiting}

-- where this was sent, in order
pub record KnowsMessages (s : Office) (sent : List Sent) : Type 0 where
  pub tokens : KnowsTokens s
  pub waiting : KnowsWaiting s
  pub again : KnowsSent s sent
  pub acks : KnowsAcks s

-- what was sent at these events
abbrev pub sends_of : List Entry → List Sent
sends_of [] = []
sends_of (x ∷ xs) = x.sends ++ sends_of xs

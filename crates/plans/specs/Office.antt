-- What a plan looks at.
use Rattle.std.specs.Prelude.{◌≢◌, ℕ, ◌<◌, ◌≤◌, ◌^◌, ◌+◌, List}
use Rattle.sip_uri.specs.declared.uri.Addr.{Addr}
use Rattle.registrar.specs.Registrar as registrar
use Rattle.transactions.specs.Contents as transactions
use Rattle.offer_answer.specs.declared.range.OwnRange.{OwnRange}
use Rattle.offer_answer.specs.Direct.{hold_address}
use Rattle.calls.specs.State.{Standing}
use Rattle.plans.specs.declared.acks.KeptAck.{KeptAck}

-- the registrar, the transactions, the calls with their pool, and the ACKs that are sent again; where the server is
-- reached, its relay ports, the seconds that a binding has to last at least, and how many tokens were made
pub record Office : Type 0 where
  pub registrar : registrar.Contents
  pub table : transactions.Contents
  pub calls : Standing
  pub acks : List KeptAck
  pub server : Addr
  pub range : OwnRange
  pub least : ℕ
  pub tokens : ℕ

-- each call that began made tokens, of which one more can be counted; and the server has an address
pub record HasTokens (tokens begun : ℕ) (range : OwnRange) : Type 0 where
  pub few : tokens + 1 < 2 ^ 64
  pub counted : begun ≤ tokens
  pub somewhere : range.ip ≢ hold_address

-- The datagrams of a media socket.
use Rattle.std.specs.Prelude.{◌≡◌, ℕ, List, [], ◌∷◌, ◌++◌, Some, None}
use Rattle.std.specs.FinMap.{get}
use Rattle.sip_uri.specs.declared.uri.Addr.{Addr}
use Rattle.port_pool.specs.declared.hop.Hop.{Hop}
use Rattle.port_pool.specs.RelayTable.{Rows}
use Rattle.relay.specs.Counts.{Counted, one_more_of}
use Rattle.relay.specs.declared.worker.Turn.{Turn}
use Rattle.relay.specs.declared.worker.TurnFault.{TurnFault}
use Rattle.relay.specs.declared.worker.TurnFault.TheVariants.{Receive, Send}
use Rattle.relay.specs.declared.worker.Turn.TheVariants.{Idle, Sent, NoRow, Closed}

-- what came in, at a relay port
pub record Taken : Type 0 where
  pub port : ℕ
  pub bytes : List ℕ

-- what went out, from a relay port to a place
pub record Forwarded : Type 0 where
  pub from : ℕ
  pub to : Addr
  pub bytes : List ℕ

-- the datagram is forwarded by the hop, unchanged
abbrev pub forwarded : Taken → Hop → Forwarded
forwarded d hop = record { from = hop.from; to = hop.to; bytes = d.bytes }

-- What one turn did with what the socket took and sent, under a table of rows, and with the counts. Each but an idle
-- one takes one datagram; one that it sends is counted at the port at which it came, and no other.
module _ (rows : Rows) (taken taken' : List Taken) (sent sent' : List Forwarded) (counted counted' : Counted) where
  abbrev pub Does : Turn → Type 0
  Does Idle = (taken' ≡ taken) × (sent' ≡ sent) × (counted' ≡ counted)
  Does Sent = (d : Taken) × (hop : Hop) × (taken' ≡ taken ++ d ∷ []) × (get rows d.port ≡ Some hop) × (sent' ≡ sent ++ forwarded d hop ∷ []) × (counted' ≡ one_more_of d.port counted)
  Does NoRow = (d : Taken) × (taken' ≡ taken ++ d ∷ []) × (get rows d.port ≡ None) × (sent' ≡ sent) × (counted' ≡ counted)
  Does Closed = (d : Taken) × (taken' ≡ taken ++ d ∷ []) × (sent' ≡ sent) × (counted' ≡ counted)

-- What a turn that failed took: nothing, or one datagram that has a row.
abbrev pub Loses : Rows → List Taken → List Taken → TurnFault → Type 0
Loses rows taken taken' Receive = taken' ≡ taken
Loses rows taken taken' Send = (d : Taken) × (hop : Hop) × (taken' ≡ taken ++ d ∷ []) × (get rows d.port ≡ Some hop)

-- one datagram more was taken
abbrev pub TakesOne : List Taken → List Taken → Type 0
TakesOne taken taken' = (d : Taken) × (taken' ≡ taken ++ d ∷ [])

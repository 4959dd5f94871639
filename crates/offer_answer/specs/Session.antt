-- The rows of a session as lines for the pool of ports, and the pool's rows as a table that leads ports to places.
use Rattle.std.specs.Prelude.{◌≡◌, ◌+◌, ◌≤◌, ℕ, List, All, map, Option, Some, option_map}
use Rattle.std.specs.FinMap.{get}
use Rattle.sip_uri.specs.declared.uri.Addr.{Addr}
use Rattle.port_pool.specs.Limits.{last_port}
use Rattle.port_pool.specs.declared.relay_line.RelayLine.{RelayLine}
use Rattle.port_pool.specs.RelayTable.{Rows}
use Rattle.port_pool.specs.Holdings.{holder_of}
use Rattle.port_pool.specs.Pool.{Contents}
use Rattle.sdp.specs.declared.description.Description.{Description}
use Rattle.offer_answer.specs.Rows.{Named, ports_named, pairs_named}

-- a port that a session names, with the hop that it asks for, if any
abbrev pub line_of : Named → RelayLine
line_of n = record { port = n.port; hop = option_map (λ a. record { to = a; from = n.from }) n.to }

-- a line for each port that is named by the offer taken OX, the answer sent SX, the offer sent OY and the answer taken
-- SY
abbrev pub session_lines : Description → Description → Description → Description → List RelayLine
session_lines OX SX OY SY = map line_of (ports_named OX SX OY SY)

-- where the rows lead a port
abbrev pub leads_by : Rows → ℕ → Option Addr
leads_by rows port = option_map (λ h. h.to) (get rows port)

-- there is a port above
abbrev pub HasAbove : ℕ → Type 0
HasAbove port = port + 1 ≤ last_port

-- the call holds each pair that the session names
abbrev pub HoldsPairs : Contents → ℕ → Description → Description → Description → Description → Type 0
HoldsPairs pool call OX SX OY SY = All (λ even. holder_of pool.holdings even ≡ Some call) (pairs_named OX SX OY SY)

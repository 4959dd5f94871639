-- How the output shows what the server sends, notes and relays.
use Rattle.std.specs.Prelude.{ℕ, List, ◌++◌, length, codes, decimal}
use Rattle.sip_uri.specs.declared.uri.Addr.{Addr}
use Rattle.sip_uri.specs.Writing.{ip4_text}
use Rattle.events.specs.declared.sent.Sent.{Sent}
use Rattle.port_pool.specs.declared.hop.Hop.{Hop}

-- an address and a port, with a space between them
unfoldable pub place_text : Addr → List ℕ
place_text to = ip4_text to.ip ++ codes " " ++ decimal to.port

-- `S ip port length`, and a line feed
unfoldable pub head_text : Addr → ℕ → List ℕ
head_text to count = codes "S " ++ place_text to ++ codes " " ++ decimal count ++ codes "\n"

-- this line, the bytes, and a line feed
abbrev pub sent_text : Sent → List ℕ
sent_text sent = head_text sent.to (length sent.bytes) ++ sent.bytes ++ codes "\n"

-- `call NUMBER PHASE`
abbrev pub call_text : ℕ → List ℕ → List ℕ
call_text number phase = codes "call " ++ decimal number ++ codes " " ++ phase ++ codes "\n"

-- `hop PORT IP PORT FROM`
abbrev pub hop_text : ℕ → Hop → List ℕ
hop_text port hop = codes "hop " ++ decimal port ++ codes " " ++ place_text hop.to ++ codes " " ++ decimal hop.from ++ codes "\n"

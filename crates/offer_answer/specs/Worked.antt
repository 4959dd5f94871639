-- A plain call, with its four descriptions, and what becomes of it with hold, with a video that is rejected and at the
-- last port.
use Rattle.std.specs.Prelude.{ℕ, Bool, List, [], ◌∷◌, codes, Option, Some, None}
use Rattle.sip_uri.specs.declared.uri.Addr.{Addr}
use Rattle.sdp.specs.declared.address.Address.TheVariants.{Ip4}
use Rattle.sdp.specs.declared.line.Line.{Line}
use Rattle.sdp.specs.declared.description.Media.{Media}
use Rattle.sdp.specs.declared.description.Description.{Description}
use Rattle.offer_answer.specs.declared.stream.Stream.{Stream}
use Rattle.offer_answer.specs.declared.stream.Stream.TheVariants.{Used}
use Rattle.offer_answer.specs.Rows.{Row}

abbrev pub server : List ℕ
server = 192 ∷ 0 ∷ 2 ∷ 1 ∷ []

abbrev pub ann : List ℕ
ann = 192 ∷ 0 ∷ 2 ∷ 10 ∷ []

abbrev pub bob : List ℕ
bob = 192 ∷ 0 ∷ 2 ∷ 11 ∷ []

abbrev pub attribute : List ℕ → Line
attribute text = record { letter = 97; value = text }

abbrev pub medium : List ℕ → ℕ → List (List ℕ) → List Line → Media
medium kind port formats after = record { kind = kind; port = port; count = None; proto = codes "RTP/AVP"; formats = formats; info = None; connection = None; after = after }

abbrev pub said_by : List ℕ → List ℕ → List Media → Description
said_by user ip media = record {
  origin = record { username = user; id = codes "1"; version = codes "1"; network_type = codes "IN"; address_type = codes "IP4"; address = [] };
  before = record { letter = 115; value = codes "-" } ∷ [];
  connection = Some (Ip4 ip);
  after = record { letter = 116; value = codes "0 0" } ∷ [];
  media = media;
}

-- audio in the formats 0 and 8, of which the answer takes 0
abbrev pub offer_at : List ℕ → List ℕ → ℕ → List ℕ → Description
offer_at user ip port way = said_by user ip (medium (codes "audio") port (codes "0" ∷ codes "8" ∷ []) (attribute (codes "rtpmap:0 PCMU/8000") ∷ attribute way ∷ []) ∷ [])

abbrev pub answer_at : List ℕ → List ℕ → ℕ → List Line → Description
answer_at user ip port after = said_by user ip (medium (codes "audio") port (codes "0" ∷ []) after ∷ [])

abbrev pub offer_taken : Description
offer_taken = offer_at (codes "ann") ann 5004 (codes "sendrecv")

abbrev pub offer_sent : Description
offer_sent = offer_at (codes "-") server 40002 (codes "sendrecv")

abbrev pub answer_taken : Description
answer_taken = answer_at (codes "bob") bob 6000 []

abbrev pub answer_sent : Description
answer_sent = answer_at (codes "-") server 40000 []

abbrev pub address : List ℕ → ℕ → Addr
address ip port = record { ip = ip; port = port }

abbrev pub row : ℕ → List ℕ → ℕ → ℕ → Row
row port ip to from = record { port = port; to = address ip to; from = from }

abbrev pub four_rows : List Row
four_rows = row 40000 bob 6000 40002 ∷ row 40001 bob 6001 40003 ∷ row 40002 ann 5004 40000 ∷ row 40003 ann 5005 40001 ∷ []

-- audio in format 0, to each end's place, where it is on
abbrev pub audio_stream : Bool → Bool → Option Addr → Stream
audio_stream to_answerer to_offerer offerer =
    Used (codes "audio") (codes "RTP/AVP")
    (record { on = to_answerer; formats = codes "0" ∷ []; to = Some (address bob 6000) })
    (record { on = to_offerer; formats = codes "0" ∷ []; to = offerer })

-- audio, and a video that the answer refuses
abbrev pub with_video : List ℕ → List ℕ → ℕ → ℕ → Description
with_video user ip audio video =
    said_by user ip (medium (codes "audio") audio (codes "0" ∷ []) [] ∷ medium (codes "video") video (codes "31" ∷ []) [] ∷ [])

-- What an offer and its answer mean, passed directly (RFC 3264 sections 5 to 8).
use Rattle.std.specs.Prelude.{ℕ, Bool, false, ◌&&◌, ◌||◌, ◌==◌, nat_eq, List, [], ◌∷◌, filter, Option, Some, None, is_some, if◌then◌else◌}
use Rattle.std.specs.List.{list_any}
use Rattle.std.specs.Cmp.Lexicographic.{pointwise}
use Rattle.sip_uri.specs.declared.uri.Addr.{Addr}
use Rattle.sdp.specs.declared.address.Address.{Address}
use Rattle.sdp.specs.declared.address.Address.TheVariants.{Ip4, Multicast, Ip6, Name}
use Rattle.sdp.specs.declared.description.Media.{Media}
use Rattle.sdp.specs.declared.description.Description.{Description}
use Rattle.sdp.specs.declared.way.Way.{Way}
use Rattle.sdp.specs.Place.{Place}
use Rattle.sdp.specs.PlaceOf.{place_of}
use Rattle.sdp.specs.WayOf.{way_of, sends, receives}
use Rattle.offer_answer.specs.declared.stream.Stream.{Stream}
use Rattle.offer_answer.specs.declared.stream.Stream.TheVariants.{Rejected, Used}
use Rattle.offer_answer.specs.declared.stream.Side.{Side}
use Rattle.offer_answer.specs.Formats.{formats_match}

-- 0.0.0.0, at which nothing is wanted (section 8.4)
abbrev pub hold_address : List ℕ
hold_address = 0 ∷ 0 ∷ 0 ∷ 0 ∷ []

abbrev pub is_hold : Address → Bool
is_hold (Ip4 octets) = pointwise nat_eq octets hold_address
is_hold (Multicast text) = false
is_hold (Ip6 text) = false
is_hold (Name text) = false

-- where media can be sent: at an IPv4 address other than 0.0.0.0
abbrev pub sent_to : Address → ℕ → Option Addr
sent_to (Ip4 octets) port = if is_hold (Ip4 octets) then None else Some (record { ip = octets; port = port })
sent_to (Multicast text) port = None
sent_to (Ip6 text) port = None
sent_to (Name text) port = None

abbrev pub destination_at : Option Place → Option Addr
destination_at None = None
destination_at (Some p) = sent_to p.address p.port

-- where media of a description's medium can be sent
abbrev pub destination : Description → Media → Option Addr
destination d m = destination_at (place_of d m)

-- from one end to the other: on where the one sends, the other receives, and there is a destination
abbrev pub side : Way → Way → List (List ℕ) → Option Addr → Side
side from to formats destination = record { on = sends from && receives to && is_some destination; formats = formats; to = destination }

-- a format of the offer that matches one of the answer (section 6.1)
unfoldable pub is_answered : Media → Media → List ℕ → Bool
is_answered o s f = list_any (λ g. formats_match o f s g) s.formats

abbrev pub matching_formats : Media → Media → List (List ℕ)
matching_formats o s = filter (is_answered o s) o.formats

-- one medium o of the offer O, answered by s of S: rejected by port 0 of either (section 6); else the answerer gets the
-- answer's formats, and the offerer those of its own that match
unfoldable pub stream_of : Description → Media → Description → Media → Stream
stream_of O o S s =
    if o.port == 0 || s.port == 0 then Rejected
    else Used o.kind o.proto
    (side (way_of O o) (way_of S s) s.formats (destination S s))
    (side (way_of S s) (way_of O o) (matching_formats o s) (destination O o))

abbrev pub streams_of : Description → List Media → Description → List Media → List Stream
streams_of O (o ∷ os) S (s ∷ ss) = stream_of O o S s ∷ streams_of O os S ss
streams_of O _ S _ = []

-- what an offer and an answer with as many media mean: a stream for each medium
abbrev pub direct : Description → Description → List Stream
direct offer answer = streams_of offer offer.media answer answer.media

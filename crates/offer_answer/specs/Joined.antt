-- What two legs mean that a relay table joins: X the leg of the offerer, Y the leg of the answerer. A relay table leads
-- each port of the server to a place, or nowhere.
use Rattle.std.specs.Prelude.{ℕ, Bool, true, false, ◌&&◌, ◌||◌, nat_eq, List, [], ◌∷◌, filter, Option, Some, None, if◌then◌else◌}
use Rattle.std.specs.List.{list_any, list_all}
use Rattle.std.specs.Cmp.Lexicographic.{pointwise}
use Rattle.sip_uri.specs.declared.uri.Addr.{Addr}
use Rattle.sdp.specs.declared.address.Address.{Address}
use Rattle.sdp.specs.declared.address.Address.TheVariants.{Ip4, Multicast, Ip6, Name}
use Rattle.sdp.specs.declared.description.Media.{Media}
use Rattle.sdp.specs.declared.description.Description.{Description}
use Rattle.sdp.specs.Place.{Place}
use Rattle.sdp.specs.PlaceOf.{place_of}
use Rattle.offer_answer.specs.declared.stream.Stream.{Stream}
use Rattle.offer_answer.specs.declared.stream.Stream.TheVariants.{Rejected, Used}
use Rattle.offer_answer.specs.declared.stream.Side.{Side}
use Rattle.offer_answer.specs.Direct.{is_hold, stream_of}

-- the server's address
abbrev pub is_server : List ℕ → Address → Bool
is_server server (Ip4 octets) = pointwise nat_eq octets server
is_server server (Multicast text) = false
is_server server (Ip6 text) = false
is_server server (Name text) = false

-- what is sent to this place goes through the server's port, where the place is the server's
abbrev pub through : List ℕ → (ℕ → Option Addr) → Option Place → Option Addr
through server table None = None
through server table (Some p) = if is_server server p.address then table p.port else None

-- on where both legs have it on, with the formats of the offerer's leg that the other leg lists too
abbrev pub joined_side : Side → Side → Option Addr → Side
joined_side x y destination =
    record { on = x.on && y.on; formats = filter (λ f. list_any (λ g. pointwise nat_eq g f) y.formats) x.formats; to = destination }

-- rejected where either leg rejects it; the first destination is the answerer's, the second the offerer's
abbrev pub joined_stream : Stream → Stream → Option Addr → Option Addr → Stream
joined_stream (Used kind proto a o) (Used kind' proto' a' o') to_answerer to_offerer =
    Used kind proto (joined_side a a' to_answerer) (joined_side o o' to_offerer)
joined_stream (Used kind proto a o) Rejected to_answerer to_offerer = Rejected
joined_stream Rejected y to_answerer to_offerer = Rejected

-- what the offerer sends goes to its leg's answer, what the answerer sends to its leg's offer
abbrev pub joined_media : List ℕ → (ℕ → Option Addr) → Description → List Media → Description → List Media → Description → List Media → Description → List Media → List Stream
joined_media server table OX (ox ∷ oxs) SX (sx ∷ sxs) OY (oy ∷ oys) SY (sy ∷ sys) =
    joined_stream (stream_of OX ox SX sx) (stream_of OY oy SY sy) (through server table (place_of SX sx)) (through server table (place_of OY oy))
    ∷ joined_media server table OX oxs SX sxs OY oys SY sys
joined_media server table OX _ SX _ OY _ SY _ = []

-- what the offer taken OX, the answer sent SX, the offer sent OY and the answer taken SY mean together: a stream for
-- each medium that all four have
abbrev pub joined : List ℕ → (ℕ → Option Addr) → Description → Description → Description → Description → List Stream
joined server table OX SX OY SY = joined_media server table OX OX.media SX SX.media OY OY.media SY SY.media

-- no address, the server's, or 0.0.0.0
abbrev pub is_own_or_hold : List ℕ → Option Address → Bool
is_own_or_hold server None = true
is_own_or_hold server (Some a) = is_server server a || is_hold a

-- a description that names only the server's address and 0.0.0.0
abbrev pub is_at_server : List ℕ → Description → Bool
is_at_server server d = is_own_or_hold server d.connection && list_all (λ m. is_own_or_hold server m.connection) d.media

-- Which offers and answers the server refuses, and by which fault.
use Rattle.std.specs.Prelude.{ℕ, Bool, true, false, not, ◌&&◌, ◌||◌, ◌+◌, ◌==◌, nat_eq, nat_le, nat_lt, List, [], ◌∷◌, length, codes, Option, Some, None, is_some, if◌then◌else◌}
use Rattle.std.specs.Option.{option_or}
use Rattle.std.specs.Cmp.Lexicographic.{pointwise}
use Rattle.sdp.specs.declared.address.Address.{Address}
use Rattle.sdp.specs.declared.address.Address.TheVariants.{Ip4, Multicast, Ip6, Name}
use Rattle.sdp.specs.declared.description.Media.{Media}
use Rattle.sdp.specs.declared.description.Description.{Description}
use Rattle.sdp.specs.Place.{Place}
use Rattle.sdp.specs.PlaceOf.{address_of_medium, place_of}
use Rattle.offer_answer.specs.declared.range.OwnRange.{OwnRange}
use Rattle.offer_answer.specs.declared.fault.OfferFault.{OfferFault}
use Rattle.offer_answer.specs.declared.fault.OfferFault.TheVariants.{FewerMedia, Protocol, PortCount, HostName, Ip6Address, MulticastAddress, OwnPlace}
use Rattle.offer_answer.specs.declared.fault.AnswerFault.{AnswerFault}
use Rattle.offer_answer.specs.declared.fault.AnswerFault.TheVariants.{NumberOfMedia, OtherMedia, UnwantedPort, BadPlace}
use Rattle.offer_answer.specs.Direct.{is_hold}
use Rattle.offer_answer.specs.Joined.{is_server}

-- the fault of the first row whose condition holds
abbrev pub first_fault : {F : Type 0} → List (Bool × F) → Option F
first_fault [] = None
first_fault (row ∷ rows) = if row.0 then Some row.1 else first_fault rows

-- ---- places

abbrev pub is_name : Option Address → Bool
is_name None = false
is_name (Some (Ip4 octets)) = false
is_name (Some (Multicast text)) = false
is_name (Some (Ip6 text)) = false
is_name (Some (Name text)) = true

abbrev pub is_ip6 : Option Address → Bool
is_ip6 None = false
is_ip6 (Some (Ip4 octets)) = false
is_ip6 (Some (Multicast text)) = false
is_ip6 (Some (Ip6 text)) = true
is_ip6 (Some (Name text)) = false

abbrev pub is_multicast : Option Address → Bool
is_multicast None = false
is_multicast (Some (Ip4 octets)) = false
is_multicast (Some (Multicast text)) = true
is_multicast (Some (Ip6 text)) = false
is_multicast (Some (Name text)) = false

-- a unicast IPv4 address, 0.0.0.0 too
abbrev pub is_ip4 : Option Address → Bool
is_ip4 None = false
is_ip4 (Some (Ip4 octets)) = true
is_ip4 (Some (Multicast text)) = false
is_ip4 (Some (Ip6 text)) = false
is_ip4 (Some (Name text)) = false

-- from the least to the greatest relay port
abbrev pub is_relay_port : OwnRange → ℕ → Bool
is_relay_port range port = nat_le range.first port && nat_le port range.last

-- the server's own address, where the port or the one above, which is for reports, is a relay port; 0.0.0.0 is nobody's
-- own (RFC 3264 section 8.4)
abbrev pub is_own_place : OwnRange → Option Place → Bool
is_own_place range None = false
is_own_place range (Some p) = not (is_hold p.address) && is_server range.ip p.address && (is_relay_port range p.port || is_relay_port range (p.port + 1))

-- ---- offers

-- the protocols that the relay carries: RTP in its four profiles (RFC 3551, RFC 4585, RFC 3711, RFC 5124)
abbrev pub is_carried : List ℕ → Bool
is_carried proto =
    pointwise nat_eq proto (codes "RTP/AVP") || pointwise nat_eq proto (codes "RTP/AVPF") || pointwise nat_eq proto (codes "RTP/SAVP") || pointwise nat_eq proto (codes "RTP/SAVPF")

-- the first fault of an offered medium with a port
unfoldable pub used_fault : OwnRange → Description → Media → Option OfferFault
used_fault range d m = first_fault (
    (not (is_carried m.proto), Protocol)
    ∷ (is_some m.count, PortCount)
    ∷ (is_name (address_of_medium d m), HostName)
    ∷ (is_ip6 (address_of_medium d m), Ip6Address)
    ∷ (is_multicast (address_of_medium d m), MulticastAddress)
    ∷ (is_own_place range (place_of d m), OwnPlace)
    ∷ [])

-- none where its port is 0 (RFC 3264 section 8.2)
abbrev pub medium_fault : OwnRange → Description → Media → Option OfferFault
medium_fault range d m = if m.port == 0 then None else used_fault range d m

abbrev pub first_medium_fault : OwnRange → Description → List Media → Option OfferFault
first_medium_fault range d [] = None
first_medium_fault range d (m ∷ ms) = option_or (medium_fault range d m) (first_medium_fault range d ms)

-- how many media an offer has at least: as many as the description that this end gave before (RFC 3264 section 8)
abbrev pub least_media : Option Description → ℕ
least_media None = 0
least_media (Some previous) = length previous.media

-- the first fault of an offer
abbrev pub offer_fault : OwnRange → Description → Option Description → Option OfferFault
offer_fault range new previous = if nat_lt (length new.media) (least_media previous) then Some FewerMedia else first_medium_fault range new new.media

-- ---- answers

-- a single port at a unicast IPv4 address that is not the server's own
abbrev pub is_good_place : OwnRange → Description → Media → Bool
is_good_place range d m = not (is_some m.count) && is_ip4 (address_of_medium d m) && not (is_own_place range (place_of d m))

abbrev pub is_same_media : Media → Media → Bool
is_same_media o s = pointwise nat_eq s.kind o.kind && pointwise nat_eq s.proto o.proto

-- the first fault of an answered medium with a port, for the medium offered (RFC 3264 sections 6, 6.1 and 8.2)
unfoldable pub accepted_fault : OwnRange → Media → Description → Media → Option AnswerFault
accepted_fault range o S s = first_fault (
    (not (is_same_media o s), OtherMedia)
    ∷ (o.port == 0, UnwantedPort)
    ∷ (not (is_good_place range S s), BadPlace)
    ∷ [])

-- none where its port is 0, which rejects the medium (section 6)
abbrev pub answered_fault : OwnRange → Media → Description → Media → Option AnswerFault
answered_fault range o S s = if s.port == 0 then None else accepted_fault range o S s

abbrev pub first_answered_fault : OwnRange → List Media → Description → List Media → Option AnswerFault
first_answered_fault range (o ∷ os) S (s ∷ ss) = option_or (answered_fault range o S s) (first_answered_fault range os S ss)
first_answered_fault range _ S _ = None

-- the first fault of an answer
abbrev pub answer_fault : OwnRange → Description → Description → Option AnswerFault
answer_fault range offer answer =
    if not (length answer.media == length offer.media) then Some NumberOfMedia else first_answered_fault range offer.media answer answer.media

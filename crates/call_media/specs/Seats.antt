-- The pairs that serve the media of a call: for each medium that is in use one faces the offerer and one the answerer.
use Rattle.std.specs.Prelude.{ℕ, ◌+◌, ◌==◌, ◌||◌, ◌&&◌, Bool, true, false, not, is_some, is_none, List, [], ◌∷◌, map, Option, Some, None, if◌then◌else◌}
use Rattle.std.specs.List.{list_all, list_any, flat_map}
use Rattle.port_pool.specs.declared.pair.Pair.{Pair}
use Rattle.sdp.specs.declared.description.Description.{Description}
use Rattle.sdp.specs.declared.description.Media.{Media}
use Rattle.call_media.specs.declared.seat.Seat.{Seat}

-- the same pairs, where the other end offers
abbrev pub across : Seat → Seat
across s = record { offerer = s.answerer; answerer = s.offerer }

-- ---- the pairs of a session: its offer taken, answer sent, offer sent and answer taken

-- none where an end rejects the medium
abbrev pub seat_in_use : Media → ℕ → ℕ → Media → Option Seat
seat_in_use ox to_offerer to_answerer sy = if ox.port == 0 || sy.port == 0 then None else Some (record { offerer = to_offerer; answerer = to_answerer })

abbrev pub media_in_use : List Media → List Media → List Media → List Media → List (Option Seat)
media_in_use (ox ∷ oxs) (sx ∷ sxs) (oy ∷ oys) (sy ∷ sys) = seat_in_use ox sx.port oy.port sy ∷ media_in_use oxs sxs oys sys
media_in_use _ _ _ _ = []

abbrev pub seats_in_use : Description → Description → Description → Description → List (Option Seat)
seats_in_use OX SX OY SY = media_in_use OX.media SX.media OY.media SY.media

-- ---- the pairs of an offer

-- of the first medium, and of those after it
abbrev pub first : List (Option Seat) → Option Seat
first [] = None
first (s ∷ ss) = s

abbrev pub rest : List (Option Seat) → List (Option Seat)
rest [] = []
rest (s ∷ ss) = ss

-- a medium that is offered and was not in use needs two
abbrev pub needs_pairs : Media → Option Seat → Bool
needs_pairs m kept = not (m.port == 0) && is_none kept

abbrev pub pairs_needed : List Media → List (Option Seat) → ℕ
pairs_needed [] kept = 0
pairs_needed (m ∷ ms) kept = (if needs_pairs m (first kept) then 2 else 0) + pairs_needed ms (rest kept)

-- of two fresh pairs the first faces the caller
abbrev pub fresh_seat : Bool → List Pair → Option Seat
fresh_seat true (a ∷ b ∷ more) = Some (record { offerer = a.even; answerer = b.even })
fresh_seat false (a ∷ b ∷ more) = Some (record { offerer = b.even; answerer = a.even })
fresh_seat caller_offers _ = None

-- a medium in use keeps its pairs, another one takes fresh ones, and one that is offered with port 0 has none
abbrev pub seat_of : Bool → Media → Option Seat → List Pair → Option Seat
seat_of caller_offers m kept fresh =
    if m.port == 0 then None
    else if needs_pairs m kept then fresh_seat caller_offers fresh
    else kept

abbrev pub behind_two : List Pair → List Pair
behind_two (a ∷ b ∷ more) = more
behind_two _ = []

abbrev pub pairs_left : Media → Option Seat → List Pair → List Pair
pairs_left m kept fresh = if needs_pairs m kept then behind_two fresh else fresh

-- The pairs of an offer of the caller, or of the callee: medium by medium, over those of the media in use, which are
-- kept, and over fresh ones.
abbrev pub seated : Bool → List Media → List (Option Seat) → List Pair → List (Option Seat)
seated caller_offers [] kept fresh = []
seated caller_offers (m ∷ ms) kept fresh =
    seat_of caller_offers m (first kept) fresh ∷ seated caller_offers ms (rest kept) (pairs_left m (first kept) fresh)

-- ---- what is sent of them

-- 0 for a medium without pairs (RFC 3264 section 6)
abbrev pub port_to_offerer : Option Seat → ℕ
port_to_offerer None = 0
port_to_offerer (Some s) = s.offerer

abbrev pub port_to_answerer : Option Seat → ℕ
port_to_answerer None = 0
port_to_answerer (Some s) = s.answerer

-- ---- what holds of them

abbrev pub pairs_of_seat : Option Seat → List ℕ
pairs_of_seat None = []
pairs_of_seat (Some s) = s.offerer ∷ s.answerer ∷ []

-- all their pairs, by the even ports
abbrev pub pairs_of : List (Option Seat) → List ℕ
pairs_of seats = flat_map pairs_of_seat seats

abbrev pub evens : List Pair → List ℕ
evens pairs = map (λ p. p.even) pairs

-- the pairs with these even ports
abbrev pub pairs_at : List ℕ → List Pair
pairs_at ports = map (λ e. record { even = e }) ports

abbrev pub stands_in : List ℕ → ℕ → Bool
stands_in ports port = list_any (λ q. q == port) ports

-- no port is in both
abbrev pub are_apart : List ℕ → List ℕ → Bool
are_apart ports others = list_all (λ p. not (stands_in others p)) ports

-- each medium whose port is not 0 has pairs, and no other one
abbrev pub are_seated : List Media → List (Option Seat) → Bool
are_seated [] [] = true
are_seated (m ∷ ms) (s ∷ ss) = (if m.port == 0 then is_none s else is_some s) && are_seated ms ss
are_seated _ _ = false

-- What passing an offer on takes, and when it is refused.
use Rattle.std.specs.Prelude.{◌≡◌, ℕ, Bool, true, not, ◌==◌, ◌<◌, ◌≤◌, ◌&&◌, ◌||◌, List, map, length, Option, Some, None, IsTrue}
use Rattle.std.specs.List.{list_all}
use Rattle.port_pool.specs.declared.pair.Pair.{Pair}
use Rattle.port_pool.specs.Holdings.{even_of, free_pairs, holder_at, is_among}
use Rattle.port_pool.specs.Pool.{Contents, AreFree, is_port_of, lowest_free}
use Rattle.sdp.specs.declared.description.Description.{Description}
use Rattle.sdp.specs.declared.description.Media.{Media}
use Rattle.offer_answer.specs.Alike.{Alike}
use Rattle.offer_answer.specs.Checks.{offer_fault}
use Rattle.offer_answer.specs.Joined.{is_at_server}
use Rattle.offer_answer.specs.Readdressing.{readdressed_description, told_ports}
use Rattle.offer_answer.specs.Rows.{are_distinct, is_even}
use Rattle.call_media.specs.declared.end.End.{End}
use Rattle.call_media.specs.declared.end.End.TheVariants.{Caller}
use Rattle.call_media.specs.declared.seat.Seat.{Seat}
use Rattle.call_media.specs.declared.session.OpenOffer.{OpenOffer}
use Rattle.call_media.specs.declared.refusal.OfferRefusal.{OfferRefusal}
use Rattle.call_media.specs.declared.refusal.OfferRefusal.TheVariants.{OutOfMemory, Unfit, NoPorts}
use Rattle.call_media.specs.declared.state.CallMedia.{CallMedia}
use Rattle.call_media.specs.declared.offer_plan.PlannedOffer.{PlannedOffer}
use Rattle.call_media.specs.Ends.{other, is_same}
use Rattle.call_media.specs.Seats.{are_seated, pairs_needed, pairs_of, port_to_answerer, seated}
use Rattle.call_media.specs.Sessions.{previous, seats_kept}
use Rattle.call_media.specs.Versions.{one_more_to, origin}

-- how many fresh pairs the offer needs, over those of the media in use
abbrev pub fresh_needed : CallMedia → End → Description → ℕ
fresh_needed m e offer = pairs_needed offer.media (seats_kept e m.session)

-- too few pairs are free
abbrev pub RefusesPairs : Contents → ℕ → ℕ → OfferRefusal → Type 0
RefusesPairs pool needed now OutOfMemory = Unit {0}
RefusesPairs pool needed now (Unfit fault) = ⊥
RefusesPairs pool needed now NoPorts = length (free_pairs now pool.holdings) < needed

-- it says otherwise than RFC 3264 lets this end say, or what the relay doesn't carry; or too few pairs are free
abbrev pub RefusesOffer : CallMedia → Contents → End → Description → ℕ → OfferRefusal → Type 0
RefusesOffer m pool e offer now OutOfMemory = Unit {0}
RefusesOffer m pool e offer now (Unfit fault) = offer_fault m.range offer (previous e m.session) ≡ Some fault
RefusesOffer m pool e offer now NoPorts = (offer_fault m.range offer (previous e m.session) ≡ None) × (length (free_pairs now pool.holdings) < fresh_needed m e offer)

-- enough pairs are free
abbrev pub HasPairs : CallMedia → Contents → End → Description → ℕ → Type 0
HasPairs m pool e offer now = fresh_needed m e offer ≤ length (free_pairs now pool.holdings)

-- the pairs of the offer's media, over the lowest pairs that are free
abbrev pub seats_offered : CallMedia → Contents → End → Description → ℕ → List (Option Seat)
seats_offered m pool e offer now = seated (is_same e Caller) offer.media (seats_kept e m.session) (lowest_free pool now (fresh_needed m e offer))

abbrev pub is_port : ℕ → Bool
is_port n = not (n == 0)

-- These pairs suffice for the media: there are as many as they need, none is of port 0, and none serves two.
pub record DoFor (caller_offers : Bool) (media : List Media) (kept : List (Option Seat)) (fresh : List Pair) : Type 0 where
  pub enough : pairs_needed media kept ≤ length fresh
  pub ports : IsTrue (list_all is_port (pairs_of (seated caller_offers media kept fresh)))
  pub distinct : IsTrue (are_distinct (pairs_of (seated caller_offers media kept fresh)))

-- an offer over these pairs, as it is passed on: at the server's address and ports
abbrev pub opened_over : CallMedia → End → Description → List (Option Seat) → OpenOffer
opened_over m e offer seats = record {
  offerer = e;
  seats = seats;
  offer_taken = offer;
  offer_sent = readdressed_description (origin m.number m.range.ip (other e) m.versions) (map port_to_answerer seats) offer;
}

abbrev pub opened : CallMedia → Contents → End → Description → ℕ → OpenOffer
opened m pool e offer now = opened_over m e offer (seats_offered m pool e offer now)

-- an even port of the call, or of a pair that it would hold
abbrev pub is_own_or_fresh : ℕ → Contents → List Pair → ℕ → Bool
is_own_or_fresh number pool fresh even = is_even even && (is_port_of pool number even || is_among fresh even)

-- What is known of an open offer: what the end across gets is the offer except for addresses and ports, which are the
-- server's, and each of its media has pairs of its own.
pub record IsPassedOn (ip : List ℕ) (o : OpenOffer) : Type 0 where
  pub alike : Alike o.offer_taken o.offer_sent
  pub at_server : IsTrue (is_at_server ip o.offer_sent)
  pub told : map (λ m. m.port) o.offer_sent.media ≡ told_ports (map port_to_answerer o.seats) o.offer_taken.media
  pub each_seated : IsTrue (are_seated o.offer_taken.media o.seats)
  pub distinct : IsTrue (are_distinct (pairs_of o.seats))

-- the media after an offer was passed on
abbrev pub with_offer : CallMedia → OpenOffer → CallMedia
with_offer m o = record { number = m.number; range = m.range; versions = one_more_to (other o.offerer) m.versions; offer = Some o; session = m.session }

-- the media after an open offer was given up
abbrev pub without_offer : CallMedia → CallMedia
without_offer m = record { number = m.number; range = m.range; versions = m.versions; offer = None; session = m.session }

-- the media after the call ended: nothing is open, and no session is live
abbrev pub ended : CallMedia → CallMedia
ended m = record { number = m.number; range = m.range; versions = m.versions; offer = None; session = None }

-- what is known of a planned offer, on the values that it was planned with
pub record IsReady (m : CallMedia) (pool : Contents) (now : ℕ) (p : PlannedOffer) : Type 0 where
  pub free : AreFree pool now p.fresh.items
  pub unheld : (port : ℕ) → is_among p.fresh.items (even_of port) ≡ true → holder_at pool.holdings port ≡ None
  pub offer : IsPassedOn m.range.ip p.offer
  pub own : IsTrue (list_all (is_own_or_fresh m.number pool p.fresh.items) (pairs_of p.offer.seats))

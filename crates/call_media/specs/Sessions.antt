-- A session: what the ends of a call said last, and what the server sent them.
use Rattle.std.specs.Prelude.{ℕ, List, [], Option, Some, None, map, option_map, if◌then◌else◌}
use Rattle.port_pool.specs.declared.pair.Pair.{Pair}
use Rattle.sdp.specs.declared.description.Description.{Description}
use Rattle.offer_answer.specs.Rows.{pairs_named}
use Rattle.call_media.specs.declared.end.End.{End}
use Rattle.call_media.specs.declared.seat.Seat.{Seat}
use Rattle.call_media.specs.declared.session.Session.{Session}
use Rattle.call_media.specs.Ends.{is_same}
use Rattle.call_media.specs.Seats.{across, seats_in_use}

-- what this end gave, as an offer or as an answer (RFC 3264 section 8)
abbrev pub given_by : End → Session → Description
given_by e s = if is_same e s.offerer then s.offer_taken else s.answer_taken

abbrev pub previous : End → Option Session → Option Description
previous e session = option_map (given_by e) session

-- the pairs of its media in use, as its offerer sees them
abbrev pub seats_of : Session → List (Option Seat)
seats_of s = seats_in_use s.offer_taken s.answer_sent s.offer_sent s.answer_taken

-- as this end sees them
abbrev pub seats_seen_by : End → Session → List (Option Seat)
seats_seen_by e s = if is_same e s.offerer then seats_of s else map (option_map across) (seats_of s)

abbrev pub seats_kept : End → Option Session → List (Option Seat)
seats_kept e None = []
seats_kept e (Some s) = seats_seen_by e s

-- its pairs, by their even ports
abbrev pub pairs_of_session : Session → List ℕ
pairs_of_session s = pairs_named s.offer_taken s.answer_sent s.offer_sent s.answer_taken

-- the pairs of the session, if any
abbrev pub pairs_listed : Option Session → List Pair
pairs_listed None = []
pairs_listed (Some s) = s.pairs

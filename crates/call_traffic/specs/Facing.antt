-- Which ports of the relay face which end of a call: those to which the end sends.
use Rattle.std.specs.Prelude.{ℕ, List, [], ◌++◌, Option, Some, None, option_map, if◌then◌else◌}
use Rattle.std.specs.List.{filter_map}
use Rattle.call_core.specs.declared.call.Call.{Call}
use Rattle.call_media.specs.declared.end.End.{End}
use Rattle.call_media.specs.declared.seat.Seat.{Seat}
use Rattle.call_media.specs.declared.session.OpenOffer.{OpenOffer}
use Rattle.call_media.specs.declared.session.Session.{Session}
use Rattle.call_media.specs.Ends.{is_same}
use Rattle.call_media.specs.Seats.{seats_in_use}

-- of a medium
abbrev pub port_facing : End → End → Seat → ℕ
port_facing end offerer seat = if is_same end offerer then seat.offerer else seat.answerer

-- of those media that have pairs of ports
abbrev pub ports_facing : End → End → List (Option Seat) → List ℕ
ports_facing end offerer seats = filter_map (option_map (port_facing end offerer)) seats

abbrev pub ports_of_session : End → Session → List ℕ
ports_of_session end session =
    ports_facing end session.offerer (seats_in_use session.offer_taken session.answer_sent session.offer_sent session.answer_taken)

-- of an open offer, and of a session, if there is one
abbrev pub offered_ports : End → Option OpenOffer → List ℕ
offered_ports end None = []
offered_ports end (Some offer) = ports_facing end offer.offerer offer.seats

abbrev pub session_ports : End → Option Session → List ℕ
session_ports end None = []
session_ports end (Some session) = ports_of_session end session

-- of a call
abbrev pub ports_of : End → Call → List ℕ
ports_of end call = offered_ports end call.media.offer ++ session_ports end call.media.session

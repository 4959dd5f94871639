-- Where the RTP of each end of a call should come from (RFC 3264 sections 5.1, 6.1 and 8.4).
use Rattle.std.specs.Prelude.{Bool, ◌&&◌, ◌==◌, not, List, [], ◌∷◌, Option, Some, None, is_some, if◌then◌else◌}
use Rattle.std.specs.Option.{option_or}
use Rattle.sip_uri.specs.declared.uri.Addr.{Addr}
use Rattle.sdp.specs.declared.description.Description.{Description}
use Rattle.sdp.specs.declared.description.Media.{Media}
use Rattle.sdp.specs.WayOf.{way_of, sends, receives}
use Rattle.offer_answer.specs.Direct.{destination}
use Rattle.call_media.specs.declared.end.End.{End}
use Rattle.call_media.specs.declared.end.End.TheVariants.{Caller, Callee}
use Rattle.call_media.specs.declared.session.Session.{Session}
use Rattle.call_traffic.specs.declared.sources.Sources.{Sources}

-- both ends use the medium, the first sends, and the second receives and can be sent to
abbrev pub is_sent : Description → Media → Description → Media → Bool
is_sent own medium other other_medium =
    not (medium.port == 0) && not (other_medium.port == 0)
    && sends (way_of own medium) && receives (way_of other other_medium)
    && is_some (destination other other_medium)

-- from its own place, if it is sent
abbrev pub source : Description → Media → Description → Media → Option Addr
source own medium other other_medium =
    if is_sent own medium other other_medium then destination own medium else None

-- that of the first medium that is sent
abbrev pub first_source : Description → List Media → Description → List Media → Option Addr
first_source own (medium ∷ media) other (other_medium ∷ others) = option_or (source own medium other other_medium) (first_source own media other others)
first_source own _ other _ = None

abbrev pub source_in : Description → Description → Option Addr
source_in own other = first_source own own.media other other.media

-- each end's, the caller's first
abbrev pub by_end : End → Option Addr → Option Addr → Sources
by_end Caller offerer answerer = record { caller = offerer; callee = answerer }
by_end Callee offerer answerer = record { caller = answerer; callee = offerer }

-- by the session's offer and answer
abbrev pub sources_of : Session → Sources
sources_of session = by_end session.offerer (source_in session.offer_taken session.answer_taken) (source_in session.answer_taken session.offer_taken)

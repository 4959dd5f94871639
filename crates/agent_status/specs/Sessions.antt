-- The media of a session: what its offer and answer mean by RFC 3264 sections 5 and 6.
use Rattle.std.specs.Prelude.{ℕ, Bool, true, false, not, ◌&&◌, ◌==◌, List, [], ◌∷◌, map, zip, Option, Some, None, is_some, unwrap_or, if◌then◌else◌}
use Rattle.sdp.specs.declared.description.Description.{Description}
use Rattle.sdp.specs.declared.description.Media.{Media}
use Rattle.sdp.specs.WayOf.{way_of, sends, receives}
use Rattle.offer_answer.specs.Direct.{destination}
use Rattle.offer_answer.specs.Formats.{rtpmap_of}
use Rattle.call_media.specs.declared.end.End.{End}
use Rattle.call_media.specs.declared.end.End.TheVariants.{Caller, Callee}
use Rattle.call_media.specs.declared.session.Session.{Session}
use Rattle.status.specs.declared.call.Direction.{Direction}
use Rattle.status.specs.declared.call.Direction.TheVariants.{Both, FromCaller, FromCallee, Neither}
use Rattle.status.specs.declared.call.MediumStatus.{MediumStatus}

-- media go from the side that described m in d to the side that described n in e: both have a port for it, the first
-- sends, the second receives, and it named where
abbrev pub is_sent : Description → Media → Description → Media → Bool
is_sent d m e n = not (m.port == 0) && (not (n.port == 0) && (sends (way_of d m) && (receives (way_of e n) && is_some (destination e n))))

-- the encoding of a format, or otherwise the format itself (RFC 4566 section 6)
abbrev pub encoding : Media → List ℕ → List ℕ
encoding m format = unwrap_or (rtpmap_of m format) format

-- that of the first format, which is preferred (section 6.1)
abbrev pub first_encoding : Media → List (List ℕ) → List ℕ
first_encoding m [] = []
first_encoding m (format ∷ formats) = encoding m format

abbrev pub direction : Bool → Bool → Direction
direction true true = Both
direction true false = FromCaller
direction false true = FromCallee
direction false false = Neither

-- by what comes from the offerer, and what from the answerer
abbrev pub direction_by : End → Bool → Bool → Direction
direction_by Caller from_offerer from_answerer = direction from_offerer from_answerer
direction_by Callee from_offerer from_answerer = direction from_answerer from_offerer

-- a medium o of the offer O, answered by s of the answer S
abbrev pub medium_status : End → Description → Media → Description → Media → MediumStatus
medium_status offerer O o S s = record {
  kind = s.kind;
  codec = first_encoding s s.formats;
  direction = direction_by offerer (is_sent O o S s) (is_sent S s O o);
}

abbrev pub media_of : Session → List MediumStatus
media_of s = map (λ p. medium_status s.offerer s.offer_taken p.0 s.answer_taken p.1) (zip s.offer_taken.media s.answer_taken.media)

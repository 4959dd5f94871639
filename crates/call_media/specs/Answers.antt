-- What passing an answer on takes, when it is refused, and the session that it makes.
use Rattle.std.specs.Prelude.{◌≡◌, ℕ, List, Some, None, length, map, IsTrue}
use Rattle.std.specs.FinMap.{get}
use Rattle.port_pool.specs.declared.changes.Change.{Change}
use Rattle.port_pool.specs.Changes.{LeadFrom}
use Rattle.port_pool.specs.Pool.{Contents, AreHeld, changes_of, row_after, with_changes}
use Rattle.sdp.specs.declared.description.Description.{Description}
use Rattle.offer_answer.specs.Alike.{Alike}
use Rattle.offer_answer.specs.Checks.{answer_fault}
use Rattle.offer_answer.specs.Joined.{is_at_server}
use Rattle.offer_answer.specs.Readdressing.{readdressed_description}
use Rattle.offer_answer.specs.Rows.{HasRows, are_distinct, pairs_named}
use Rattle.offer_answer.specs.Session.{leads_by, session_lines}
use Rattle.call_media.specs.declared.session.OpenOffer.{OpenOffer}
use Rattle.call_media.specs.declared.session.Session.{Session}
use Rattle.call_media.specs.declared.session.SessionRows.{SessionRows}
use Rattle.call_media.specs.declared.refusal.AnswerRefusal.{AnswerRefusal}
use Rattle.call_media.specs.declared.refusal.AnswerRefusal.TheVariants.{OutOfMemory, Unfit}
use Rattle.call_media.specs.declared.state.CallMedia.{CallMedia}
use Rattle.call_media.specs.declared.answer_plan.PlannedAnswer.{PlannedAnswer}
use Rattle.call_media.specs.Seats.{pairs_at, port_to_offerer}
use Rattle.call_media.specs.Sessions.{pairs_of_session}
use Rattle.call_media.specs.Serving.{are_held}
use Rattle.call_media.specs.Versions.{one_more_to, origin}

-- it says otherwise than the offer lets the answerer say, or what the relay doesn't carry
abbrev pub RefusesAnswer : CallMedia → OpenOffer → Description → AnswerRefusal → Type 0
RefusesAnswer m o answer OutOfMemory = Unit {0}
RefusesAnswer m o answer (Unfit fault) = answer_fault m.range o.offer_sent answer ≡ Some fault

-- the answer as the offerer gets it: at the server's address, and at the ports that face the offerer
abbrev pub answer_sent : CallMedia → OpenOffer → Description → Description
answer_sent m o answer = readdressed_description (origin m.number m.range.ip o.offerer m.versions) (map port_to_offerer o.seats) answer

-- the session of an open offer and its answer, as it was sent and as it was taken
abbrev pub session_over : OpenOffer → Description → Description → Session
session_over o sent taken = record {
  offerer = o.offerer;
  offer_taken = o.offer_taken;
  answer_sent = sent;
  offer_sent = o.offer_sent;
  answer_taken = taken;
  pairs = pairs_at (pairs_named o.offer_taken sent o.offer_sent taken);
}

-- what leads to the rows of a session of the call, in place of its former ones
abbrev pub changes_to : ℕ → Contents → Session → List Change
changes_to number pool s = changes_of pool number (session_lines s.offer_taken s.answer_sent s.offer_sent s.answer_taken)

-- These changes lead to the rows of the session, in place of the call's former ones; its pairs are the session's.
pub record FitsRows (number : ℕ) (pool : Contents) (s : Session) (r : SessionRows) : Type 0 where
  pub pairs : r.pairs ≡ s.pairs
  pub changes : r.changes.items ≡ changes_to number pool s
  pub held : AreHeld pool r.changes.items
  pub leads : LeadFrom pool.rows (with_changes pool r.changes.items).rows r.changes.items
  pub rows : HasRows (leads_by (with_changes pool r.changes.items).rows) s.offer_taken s.answer_sent s.offer_sent s.answer_taken
  pub ports : (port : ℕ) → get (with_changes pool r.changes.items).rows port
      ≡ row_after pool number (session_lines s.offer_taken s.answer_sent s.offer_sent s.answer_taken) port

-- What is known of the planned answer to an open offer, on the values that it was planned with: it has as many media as
-- the offer (RFC 3264 section 6); the offerer gets the answer except for addresses and ports, which are the server's;
-- the session's pairs are the call's, and each serves one medium and one end.
pub record IsFit (m : CallMedia) (pool : Contents) (o : OpenOffer) (p : PlannedAnswer) : Type 0 where
  pub sent : p.sent ≡ answer_sent m o p.taken
  pub media : length p.taken.media ≡ length o.offer_sent.media
  pub alike : Alike p.taken p.sent
  pub at_server : IsTrue (is_at_server m.range.ip p.sent)
  pub held : IsTrue (are_held m.number pool (pairs_of_session (session_over o p.sent p.taken)))
  pub distinct : IsTrue (are_distinct (pairs_of_session (session_over o p.sent p.taken)))
  pub rows : FitsRows m.number pool (session_over o p.sent p.taken) p.rows

-- the session that it makes
abbrev pub session_planned : OpenOffer → PlannedAnswer → Session
session_planned o p = record {
  offerer = o.offerer;
  offer_taken = o.offer_taken;
  answer_sent = p.sent;
  offer_sent = o.offer_sent;
  answer_taken = p.taken;
  pairs = p.rows.pairs;
}

-- the media after an answer was passed on
abbrev pub with_session : CallMedia → Session → CallMedia
with_session m s = record { number = m.number; range = m.range; versions = one_more_to s.offerer m.versions; offer = None; session = Some s }

-- What is known of the answers that the server sent (RFC 3261 sections 12.2.2, 13.3.1 and 14.2, RFC 3311 section 5.2).
use Rattle.std.specs.Prelude.{◌≡◌, ℕ, List, IsTrue}
use Rattle.std.specs.List.{All}
use Rattle.call_trace.specs.declared.datagram.Datagram.{Datagram}
use Rattle.call_trace.specs.declared.datagram.Direction.TheVariants.{Sent}
use Rattle.call_trace.specs.Exchanges.{At}
use Rattle.call_trace.specs.Messages.{is_answer, is_listed, offering}
use Rattle.plans.specs.Office.{Office}
use Rattle.message_laws.specs.Tokens.{IsMade}
use Rattle.media_laws.specs.Taken.{HasTakenBy}

-- a 2xx with an answer to an INVITE or UPDATE, which was sent
pub record IsAnswerSent (p : Datagram) : Type 0 where
  pub sent : p.direction ≡ Sent
  pub answer : IsTrue (is_answer p.message)
  pub method : IsTrue (is_listed offering p.message.method)

-- The server's tag in it was made; and where a current call has this tag in the dialog with one of its ends, a
-- request with the number of the answer was taken in that dialog, or one with a greater number.
pub record KnowsAnswers (s : Office) (t : List Datagram) : Type 0 where
  pub tag : (i : ℕ) (p : Datagram) → At t i p → IsAnswerSent p → IsMade s.tokens p.message.to_tag
  pub counted : (i : ℕ) (p : Datagram) → At t i p → IsAnswerSent p → All (HasTakenBy p.message.to_tag p.message.number) s.calls.calls

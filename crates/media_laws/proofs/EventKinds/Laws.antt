-- What the laws of the crates below say of reading and of moves, as the proofs of whole events ask for it.
use Rattle.std.proofs.Common.{List, Option, ℕ}
use Rattle.call_trace.specs.declared.call.Call.{Call}
use Rattle.call_trace.specs.declared.datagram.Datagram.{Datagram}
use Rattle.call_trace.specs.declared.datagram.Message.{Message}
use Rattle.call_trace.specs.Lives.{Stands}
use Rattle.call_trace.specs.Messages.{offering}
use Rattle.call_trace.specs.Moves.{Move}
use Rattle.call_trace.specs.Stands.{AllApart}
use Rattle.message_laws.proofs.QuietEvents.Describing.{BodiesDescribe}
use Rattle.message_laws.proofs.Messages.ReadBack.{SentIsRead}
use Rattle.message_laws.proofs.StandingCalls.Reading.{Reading as ReadsNames}
use Rattle.message_laws.proofs.Traces.Taking.{ReplyLaw}
use Rattle.media_laws.proofs.OfferPairs.FirstAnswers.{ReadingLaws}
use Rattle.media_laws.proofs.Scenes.Reading.{Reading}
use Rattle.message_laws.proofs.StandingCalls.CalleeRows.{NamesContact}
use Rattle.media_laws.proofs.OfferPairs.FirstSteps.{NamesOne}

pub record Laws : Type 0 where
  pub reads : Reading
  pub names : ReadsNames
  pub contact : NamesContact
  pub one : NamesOne
  pub replies : ReplyLaw
  pub describes : BodiesDescribe
  pub sent : SentIsRead
  pub keep : (k : ℕ) (t : List Datagram) (old new : List Call) (taken : Option Message) (sent : List Message) → Move offering t old taken sent new → Stands offering old k t → AllApart new

pub reading_laws : Laws → ReadingLaws
reading_laws l = record { reading = l.names; names = l.contact; replies = l.replies }

-- What a trace sees of a call's messages: its offers, its answers, and how it ends, in the words of its moves (RFC 3261
-- sections 12 to 15, RFC 3311).
use Rattle.std.specs.Prelude.{◌≡◌, ◌⊎◌, ℕ, List, [], ◌∷◌, ◌++◌, Option, Some, None, IsTrue}
use Rattle.sip_message.specs.declared.message.Parts.{Parts}
use Rattle.sip_message.specs.Words.{tag_text}
use Rattle.sdp.specs.declared.description.Description.{Description}
use Rattle.dialogs.specs.declared.state.Dialog.{Dialog as LegDialog}
use Rattle.call_trace.specs.declared.call.Call.{Call}
use Rattle.call_trace.specs.declared.call.Offer.{Offer}
use Rattle.call_trace.specs.declared.call.Session.{Session}
use Rattle.call_trace.specs.declared.datagram.Datagram.{Datagram}
use Rattle.call_trace.specs.declared.datagram.Dialog.{Dialog}
use Rattle.call_trace.specs.declared.datagram.Message.{Message}
use Rattle.call_trace.specs.Events.{AreNewBytes, EndsNow, IsIdle, IsIdleTaken, IsUnused, is_plain}
use Rattle.call_trace.specs.Listed.{AllOf}
use Rattle.call_trace.specs.Messages.{Replies, ack, bye, is_final, is_listed, is_success, offering}
use Rattle.call_trace.specs.Stands.{IsTagOf}
use Rattle.trace_reading.specs.Message.{dialog_named}
use Rattle.message_laws.specs.Seeing.{SeesRequest, SeesResponse, response_tag}
use Rattle.message_laws.specs.Messages.{IsRequestOf}

-- ---- tags

-- the tag of To in a response: the request's, where that has one (section 8.2.6.2)
abbrev pub IsReplyTag : List ℕ → List ℕ → Type 0
IsReplyTag asked answered = (asked ≡ []) ⊎ (answered ≡ asked)

-- ---- an offer

-- it came in this dialog, in a request with these parts
pub record Offers (x : Dialog) (offer : Description) (m : Message) : Type 0 where
  pub parts : Parts
  pub request : IsRequestOf parts m
  pub listed : IsTrue (is_listed offering m.method)
  pub call_id : parts.call_id ≡ x.call_id
  pub theirs : tag_text parts.from.params ≡ x.theirs
  pub said : m.description ≡ Some offer

-- it went in the dialog of this leg, by a request of this method, with a branch of its own
pub record Asks (t : List Datagram) (y : Dialog) (name : List ℕ) (offer : Description) (m : Message) : Type 0 where
  pub leg : LegDialog
  pub token : List ℕ
  pub number : ℕ
  pub seen : SeesRequest leg token number name (Some offer) m
  pub in_leg : dialog_named leg.id ≡ y
  pub unused : IsUnused t m.branch

-- after what is plain
pub record OfferHeard (t : List Datagram) (y : Dialog) (name : List ℕ) (offer : Description) (ms : List Message) : Type 0 where
  pub before : List Message
  pub went : Message
  pub whole : ms ≡ before ++ went ∷ []
  pub plain : AllOf (λ m. IsTrue (is_plain offering m)) before
  pub asks : Asks t y name offer went

-- ---- an answer

-- the 2xx that came, and the answer in it
pub record Accepts (p : Offer) (s : Session) (m : Message) : Type 0 where
  pub success : IsTrue (is_success m.kind)
  pub said : m.description ≡ Some s.answer_taken
  pub replies : Replies m p.went

-- the 200 that went, and the answer in it
pub record Answers (t : List Datagram) (x : Dialog) (p : Offer) (s : Session) (m : Message) : Type 0 where
  pub parts : Parts
  pub tag : List ℕ
  pub asked : IsRequestOf parts p.came
  pub seen : SeesResponse parts 200 tag (Some s.answer_sent) m
  pub reply_tag : IsReplyTag (tag_text parts.to.params) (response_tag 200 parts tag)
  pub ours : response_tag 200 parts tag ≡ x.ours
  pub new : AreNewBytes t m.bytes

-- an ACK in the dialog of that leg
pub record AcksIn (y : Dialog) (m : Message) : Type 0 where
  pub leg : LegDialog
  pub token : List ℕ
  pub number : ℕ
  pub seen : SeesRequest leg token number ack None m
  pub in_leg : dialog_named leg.id ≡ y

-- with a branch of its own
pub record Acknowledges (t : List Datagram) (y : Dialog) (m : Message) : Type 0 where
  pub acks : AcksIn y m
  pub unused : IsUnused t m.branch

-- ---- an end

-- a BYE in the dialog of that leg
pub record Leaves (y : Dialog) (m : Message) : Type 0 where
  pub leg : LegDialog
  pub token : List ℕ
  pub number : ℕ
  pub seen : SeesRequest leg token number bye None m
  pub in_leg : dialog_named leg.id ≡ y

-- a BYE that came in this dialog, and the 200 to it
pub record IsLeft (x : Dialog) (came went : Message) : Type 0 where
  pub parts : Parts
  pub tag : List ℕ
  pub request : IsRequestOf parts came
  pub method : came.method ≡ bye
  pub call_id : parts.call_id ≡ x.call_id
  pub ours : tag_text parts.to.params ≡ x.ours
  pub theirs : tag_text parts.from.params ≡ x.theirs
  pub seen : SeesResponse parts 200 tag None went
  pub reply_tag : IsReplyTag (tag_text parts.to.params) (response_tag 200 parts tag)

-- what is said where this call goes: what moves none, a BYE in one of its dialogs, the 200 to one that came in it, the
-- ACK of a 2xx in a dialog that ends at once
pub data EndSaid (t : List Datagram) (taken : Option Message) (sent : List Message) (c : Call) (m : Message) : Type 0 where
  moves_none : IsIdle offering t taken m → EndSaid t taken sent c m
  leaves : (y : Dialog) → IsTagOf c y.ours → Leaves y m → EndSaid t taken sent c m
  was_left : (x : Dialog) (came : Message) → taken ≡ Some came → IsTagOf c x.ours → IsLeft x came m → EndSaid t taken sent c m
  acknowledged : (y : Dialog) → AcksIn y m → EndsNow t taken sent y → EndSaid t taken sent c m

-- what is taken there: what moves none, or the final response to a request of this call's
pub data EndTaken (t : List Datagram) (taken : Option Message) (c : Call) : Type 0 where
  unmoved : IsIdleTaken offering t taken → EndTaken t taken c
  answered : (m : Message) → taken ≡ Some m → IsTrue (is_final m.kind) → IsTagOf c m.from_tag → EndTaken t taken c

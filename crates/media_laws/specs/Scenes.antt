-- Who is there when a call says something, in the words of a trace: the legs in which it can send a request, the
-- request that offered, and a BYE that came.
use Rattle.std.specs.Prelude.{◌≡◌, ℕ, nat_lt, true, is_some, List, Some}
use Rattle.sip_uri.specs.Address.{address_of}
use Rattle.sip_message.specs.Words.{tag_text}
use Rattle.dialogs.specs.declared.method.Method.TheVariants as methods
use Rattle.dialogs.specs.declared.state.Dialog.{Dialog as LegDialog}
use Rattle.dialogs.specs.Counting.{max_for, last_number}
use Rattle.call_media.specs.declared.end.End.{End}
use Rattle.call_core.specs.declared.signal.OfferMethod.{OfferMethod}
use Rattle.call_messages.specs.declared.scene.Asker.{Asker}
use Rattle.call_messages.specs.declared.scene.Scene.{Scene}
use Rattle.call_messages.specs.Dressing.{dialog_with, method_of}
use Rattle.call_trace.specs.declared.call.Offer.{Offer as TraceOffer}
use Rattle.call_trace.specs.declared.datagram.Datagram.{Datagram}
use Rattle.call_trace.specs.declared.datagram.Dialog.{Dialog}
use Rattle.call_trace.specs.declared.datagram.Message.{Message}
use Rattle.call_trace.specs.Exchanges.{At}
use Rattle.call_trace.specs.Messages.{bye}
use Rattle.trace_reading.specs.Message.{dialog_named}
use Rattle.message_laws.specs.Seeing.{response_tag}
use Rattle.message_laws.specs.KnownTrace.{HasTokens}
use Rattle.message_laws.specs.Messages.{IsMessage, IsRequestOf}
use Rattle.media_laws.specs.Said.{IsReplyTag}

-- ---- the trace

-- what a trace knows of tokens
abbrev pub AreOwn : ℕ → List Datagram → Type 0
AreOwn made t = (i : ℕ) (p : Datagram) → At t i p → HasTokens made p

-- what a trace has read
abbrev pub AreAllRead : List Datagram → Type 0
AreAllRead t = (i : ℕ) (p : Datagram) → At t i p → IsMessage p.message.bytes p.message

-- ---- legs

-- the leg with this end is this dialog of the trace, and requests can be sent in it
pub record LegIn (s : Scene) (end : End) (y : Dialog) : Type 0 where
  pub leg : LegDialog
  pub has : dialog_with end s ≡ Some leg
  pub is : dialog_named leg.id ≡ y
  pub leads : is_some (address_of leg.target) ≡ true
  pub numbered : nat_lt (last_number leg) (max_for methods.Bye) ≡ true

-- the leg with the end that is asked, in which a number is left
pub record AskedLeg (s : Scene) (end : End) (method : OfferMethod) (y : Dialog) : Type 0 where
  pub leg : LegDialog
  pub has : dialog_with end s ≡ Some leg
  pub is : dialog_named leg.id ≡ y
  pub leads : is_some (address_of leg.target) ≡ true
  pub numbered : nat_lt (last_number leg) (max_for (method_of method)) ≡ true

-- ---- requests that came

-- the scene has the request that offered, whose responses have the tag of this dialog
pub record AskerIn (s : Scene) (x : Dialog) (p : TraceOffer) : Type 0 where
  pub asker : Asker
  pub has : s.offer ≡ Some asker
  pub request : IsRequestOf asker.parts.now p.came
  pub reply_tag : IsReplyTag (tag_text asker.parts.now.to.params) (response_tag 200 asker.parts.now asker.tag.now)
  pub ours : response_tag 200 asker.parts.now asker.tag.now ≡ x.ours

-- the 200 to a BYE that came in this dialog of the call
pub record ByeIn (s : Scene) (x : Dialog) (came : Message) : Type 0 where
  pub asker : Asker
  pub has : s.request ≡ Some asker
  pub request : IsRequestOf asker.parts.now came
  pub method : came.method ≡ bye
  pub call_id : asker.parts.now.call_id ≡ x.call_id
  pub ours : tag_text asker.parts.now.to.params ≡ x.ours
  pub theirs : tag_text asker.parts.now.from.params ≡ x.theirs
  pub reply_tag : IsReplyTag (tag_text asker.parts.now.to.params) (response_tag 200 asker.parts.now asker.tag.now)

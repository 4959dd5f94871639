-- What a step does for the final response to an open offer: the offerer gets the answer, or the refusal.
use Rattle.std.specs.Prelude.{◌≡◌, ℕ, true, false, List, ◌∷◌, [], ◌++◌, Option, Some, None, slice_get, IsTrue}
use Rattle.sip_uri.specs.declared.uri.Uri.{Uri}
use Rattle.sip_message.specs.Contact.{contacts_of}
use Rattle.dialogs.specs.Making.{reached_at}
use Rattle.dialogs.specs.declared.state.Dialog.{Dialog}
use Rattle.sip_message.specs.declared.message.Response.{Response as SipResponse}
use Rattle.sdp.specs.declared.description.Description.{Description}
use Rattle.offer_answer.specs.Alike.{Alike}
use Rattle.call_core.specs.CallRows.{is_fit}
use Rattle.call_media.specs.Ends.{other}
use Rattle.call_media.specs.declared.end.End.{End}
use Rattle.call_core.specs.Calls.{awaits_answer, dialog_of, to_target}
use Rattle.call_core.specs.Passing.{status_passed_on}
use Rattle.call_core.specs.declared.stage.Standing.{Standing}
use Rattle.call_rules.specs.Content.{described}
use Rattle.call_rules.specs.Responses.{response_rule}
use Rattle.call_rules.specs.declared.responses.ResponseRule.{ResponseRule}
use Rattle.call_trace.specs.declared.datagram.Kind.TheVariants.{Response}
use Rattle.call_trace.specs.declared.datagram.Message.{Message}
use Rattle.call_trace.specs.Listed.{AllOf}
use Rattle.call_trace.specs.Messages.{Replies, ack, is_request_of}
use Rattle.call_trace.specs.Moves.{AcksOf}
use Rattle.calls.specs.declared.standing_call.StandingCall.{StandingCall}
use Rattle.event_rows.specs.State.{Contents}
use Rattle.plans.specs.Effect.{Effect}
use Rattle.plans.specs.declared.taken.Taken.TheVariants.{Done}
use Rattle.message_laws.specs.Messages.{AreMessages, IsRequestOf}
use Rattle.step_laws.specs.Sending.{Going, Sends, asks}
use Rattle.transactions.specs.Slots.{at}
use Rattle.transactions.specs.declared.transaction.Transaction.{Transaction}

-- the response is one for which a call waits: it falls under this rule, and that call is at this place and waits for
-- an answer to its open offer, which came in the request of this transaction (RFC 3261 sections 13.2.2 and 14.1, RFC
-- 3311 section 5.1)
pub record IsAwaited (s : Contents) (asked : Transaction) (r : SipResponse) (rule : ResponseRule) (place : ℕ) (c : StandingCall) (offered : Transaction) : Type 0 where
  pub rule_is : response_rule s.calls.calls asked.parts r ≡ rule
  pub there : slice_get s.calls.calls place ≡ Some c
  pub standing : Standing
  pub stands : c.call.standing ≡ Some standing
  pub waits : awaits_answer standing.stage ≡ true
  pub came : at s.table.slots c.asked.id ≡ Some offered

-- it replies to that request
abbrev pub RepliesTo : Transaction → Message → Type 0
RepliesTo offered m = (came : Message) → IsRequestOf offered.parts came → Replies m came

-- ---- a 2xx

-- it answers the open offer as RFC 3264 lets it (section 6)
pub record IsFitAnswer (c : StandingCall) (r : SipResponse) (answer : Description) : Type 0 where
  pub described : described r.headers r.body ≡ Some answer
  pub fit : is_fit c.call c.call.media.offer (Some answer) ≡ true

-- an ACK to that of an INVITE, and a 200 to the offerer, whose description matches (RFC 3261 section 13.2.2.4, RFC
-- 3311 section 5)
pub record PassesAnswer (asked offered : Transaction) (answer : Description) (ms : List Message) : Type 0 where
  pub acks : List Message
  pub went : Message
  pub whole : ms ≡ acks ++ went ∷ []
  pub acknowledged : AcksOf asked.parts.cseq.method acks
  pub are_acks : AllOf (λ m. IsTrue (is_request_of ack m)) acks
  pub okay : went.kind ≡ Response 200
  pub replies : RepliesTo offered went
  pub given : Description
  pub said : went.description ≡ Some given
  pub alike : Alike answer given

pub record IsAnsweredTo (asked offered : Transaction) (answer : Description) (x : Effect) : Type 0 where
  pub taken : x.plan.taken ≡ Done
  pub sends : (ms : List Message) → AreMessages x.plan.sends ms → PassesAnswer asked offered answer ms

-- ---- a refusal

-- the offerer gets its number, but of a redirection 480, and of a demand for credentials 500
pub record PassesRefusal (status : ℕ) (offered : Transaction) (ms : List Message) : Type 0 where
  pub before : List Message
  pub went : Message
  pub behind : List Message
  pub whole : ms ≡ before ++ went ∷ behind
  pub refuses : went.kind ≡ Response (status_passed_on status)
  pub replies : RepliesTo offered went

pub record IsRefusedTo (status : ℕ) (offered : Transaction) (x : Effect) : Type 0 where
  pub taken : x.plan.taken ≡ Done
  pub sends : (ms : List Message) → AreMessages x.plan.sends ms → PassesRefusal status offered ms

-- ---- a 2xx that does not fit: no answer that the open offer allows

abbrev pub IsUnfit : StandingCall → SipResponse → Type 0
IsUnfit c r = is_fit c.call c.call.media.offer (described r.headers r.body) ≡ false

-- the dialog, whose other side is reached where the 2xx says, if it says so (RFC 3261 section 12.2.1.2, RFC 3311
-- section 5.1)
abbrev pub renewed : Option Uri → Dialog → Dialog
renewed None d = d
renewed (Some target) d = to_target target d

-- what goes in the dialog with the end that answered, which is the earlier one, renewed, and in the dialog with the
-- offerer (section 12.2.1.1)
pub record SendsInside (goings : Dialog → Dialog → List Going) (c : StandingCall) (r : SipResponse) (offerer : End) (x : Effect) : Type 0 where
  pub across : Dialog
  pub own : Dialog
  pub with_other : dialog_of (other offerer) c.call ≡ Some across
  pub with_own : dialog_of offerer c.call ≡ Some own
  pub sends : Sends (goings (renewed (reached_at (contacts_of r.headers)) across) own) x

-- ACK in a dialog (section 13.2.2.4)
abbrev pub acknowledges : Dialog → Going
acknowledges d = asks d ack

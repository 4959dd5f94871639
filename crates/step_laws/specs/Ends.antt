-- To whom a call speaks, whatever its line.
use Rattle.std.specs.Prelude.{◌≡◌, ◌⊎◌, ℕ, List, Option, Some, None}
use Rattle.sip_uri.specs.declared.uri.Addr.{Addr}
use Rattle.sip_message.specs.declared.message.Request.{Request}
use Rattle.sip_message.specs.declared.message.Response.{Response}
use Rattle.dialogs.specs.declared.state.Dialog.{Dialog}
use Rattle.call_media.specs.declared.end.End.{End}
use Rattle.call_steps.specs.Scenes.{at_id, dialog_in, passed_id}
use Rattle.call_trace.specs.declared.datagram.Message.{Message}
use Rattle.calls.specs.declared.change.LegDialog.{LegDialog}
use Rattle.calls.specs.declared.standing_call.StandingCall.{StandingCall}
use Rattle.event_rows.specs.State.{Contents}
use Rattle.events.specs.declared.sent.Sent.{Sent}
use Rattle.message_laws.specs.Messages.{AreMessages, IsMessage}
use Rattle.plans.specs.Effect.{Effect}
use Rattle.plans.specs.declared.taken.Taken.TheVariants.{Done}
use Rattle.transactions.specs.Slots.{at}
use Rattle.transactions.specs.declared.transaction.Transaction.{Transaction}
use Rattle.step_laws.specs.Sending.{AcksRefusal, AsksIn, CancelsThe, EachGoes, RespondsTo}

-- a message of this call, where this dialog comes with the event, if any, and this request from this source
pub data IsToAnEnd (s : Contents) (c : StandingCall) (leg : Option LegDialog) (request : Option Request) (source : Addr) (to : Addr) (m : Message) : Type 0 where
  -- a response to the request in which its offer came
  of_offer : (offered : Transaction) → at s.table.slots c.asked.id ≡ Some offered → (status : ℕ) → RespondsTo offered.parts c.asked.source status to m → IsToAnEnd s c leg request source to m
  -- the 200 to the request that comes
  of_request : (r : Request) → request ≡ Some r → RespondsTo r.parts source 200 to m → IsToAnEnd s c leg request source to m
  -- a request in the dialog with one of its ends
  in_dialog : (end : End) (d : Dialog) → dialog_in end leg c.call ≡ Some d → (name : List ℕ) → AsksIn d name to m → IsToAnEnd s c leg request source to m
  -- the CANCEL of the INVITE that was passed on
  of_invite : (went : Transaction) → at_id s.table.slots (passed_id s.table c) ≡ Some went → CancelsThe went to m → IsToAnEnd s c leg request source to m
  -- the 200 with its answer again
  again : (x : Sent) → c.answer ≡ Some x → to ≡ x.to → IsMessage x.bytes m → IsToAnEnd s c leg request source to m

pub record SpeaksToEnds (s : Contents) (c : StandingCall) (leg : Option LegDialog) (request : Option Request) (source : Addr) (x : Effect) : Type 0 where
  pub taken : x.plan.taken ≡ Done
  pub each : (ms : List Message) → AreMessages x.plan.sends ms → EachGoes (IsToAnEnd s c leg request source) x.plan.sends ms

-- to one of its ends, or the ACK to this refusal of its INVITE
abbrev pub IsToAnEndOrAcks : Contents → StandingCall → Transaction → Response → Addr → Addr → Message → Type 0
IsToAnEndOrAcks s c asked r source to m = AcksRefusal asked r.parts to m ⊎ IsToAnEnd s c None None source to m

pub record SpeaksOrAcks (s : Contents) (c : StandingCall) (asked : Transaction) (r : Response) (source : Addr) (x : Effect) : Type 0 where
  pub taken : x.plan.taken ≡ Done
  pub each : (ms : List Message) → AreMessages x.plan.sends ms → EachGoes (IsToAnEndOrAcks s c asked r source) x.plan.sends ms

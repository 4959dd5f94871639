-- All that goes in a step, and why.
use Rattle.std.specs.Prelude.{◌≡◌, ℕ, List, [], ◌∷◌, ◌++◌, Ok, Some, slice_get}
use Rattle.sip_uri.specs.declared.uri.Addr.{Addr}
use Rattle.sip_message.specs.AnswerableParts.{answerable_of}
use Rattle.sip_message.specs.Read.{message_of}
use Rattle.sip_message.specs.declared.message.Message.{Message}
use Rattle.sip_message.specs.declared.message.Message.TheVariants as Kinds
use Rattle.sip_message.specs.declared.message.Parts.{Parts}
use Rattle.sip_message.specs.declared.message.Request.{Request}
use Rattle.transactions.specs.Contents.{reception_of}
use Rattle.transactions.specs.Slots.{at}
use Rattle.transactions.specs.declared.transaction.Transaction.{Transaction}
use Rattle.events.specs.declared.event.Event.{Event}
use Rattle.events.specs.declared.event.What.TheVariants as whats
use Rattle.events.specs.declared.sent.Sent.{Sent}
use Rattle.call_media.specs.declared.end.End.TheVariants.{Callee}
use Rattle.call_core.specs.CallRows.{call_row}
use Rattle.call_core.specs.Table.{first_row}
use Rattle.call_core.specs.declared.action.Action.{Action}
use Rattle.call_core.specs.declared.action.Action.TheVariants.{Ack, Bye}
use Rattle.call_core.specs.declared.input.Input.{Input}
use Rattle.call_messages.specs.Dressing.{dressed}
use Rattle.call_messages.specs.declared.scene.Scene.{Scene}
use Rattle.calls.specs.declared.standing_call.StandingCall.{StandingCall}
use Rattle.event_rows.specs.State.{Contents}
use Rattle.plans.specs.Effect.{Effect}
use Rattle.plans.specs.Plan.{goes}
use Rattle.step_laws.specs.Repeats.{ack_kept, last_of}
use Rattle.step_laws.specs.Replies.{RespondsOnce}

-- what goes by itself: nothing; what the transaction of the message that came sends; what one sent last, again; or an
-- ACK that is kept
pub data GoesByItself (s : Contents) (event : Event) (datagrams : List Sent) : Type 0 where
  nothing : datagrams ≡ [] → GoesByItself s event datagrams
  for_message : (source : Addr) (bytes : List ℕ) (m : Message) → event.what ≡ whats.Datagram source bytes → message_of bytes ≡ Ok m → datagrams ≡ goes (reception_of s.table m).send → GoesByItself s event datagrams
  for_timer : (id : ℕ) (t : Transaction) → at s.table.slots id ≡ Some t → datagrams ≡ last_of t → GoesByItself s event datagrams
  kept : (id : ℕ) → datagrams ≡ ack_kept s id → GoesByItself s event datagrams

-- the actions of a line of the calls' table, for a call that is live or begins; or those for a 2xx that no call takes
pub data AreOfALine (s : Contents) (actions : List Action) : Type 0 where
  stands : (place : ℕ) (c : StandingCall) (input : Input) (now : ℕ) → slice_get s.calls.calls place ≡ Some c → actions ≡ (call_row c.call input s.calls.pool now).actions → AreOfALine s actions
  begins : actions ≡ first_row.actions → AreOfALine s actions
  fork : actions ≡ Ack Callee ∷ Bye Callee ∷ [] → AreOfALine s actions
  late : actions ≡ Ack Callee ∷ [] → AreOfALine s actions

-- one response to the request that came, of which all or only the parts that can be answered were read; what goes by
-- itself; and after that, the messages of the actions of one line
pub data HasReason (s : Contents) (event : Event) (x : Effect) : Type 0 where
  response : (source : Addr) (bytes : List ℕ) (r : Request) → event.what ≡ whats.Datagram source bytes → message_of bytes ≡ Ok (Kinds.Request r) → RespondsOnce r.parts source x → HasReason s event x
  unread : (source : Addr) (bytes : List ℕ) (parts : Parts) → event.what ≡ whats.Datagram source bytes → answerable_of bytes ≡ Some parts → RespondsOnce parts source x → HasReason s event x
  by_itself : (datagrams : List Sent) → GoesByItself s event datagrams → x.plan.sends ≡ datagrams → HasReason s event x
  by_line : (before : List Sent) (actions : List Action) (scene : Scene) (tokens : ℕ) → GoesByItself s event before → AreOfALine s actions → x.plan.sends ≡ before ++ (dressed scene tokens actions).sends → HasReason s event x

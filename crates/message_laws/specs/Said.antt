-- What the actions of a call say, as messages that read back and as a trace sees them.
use Rattle.std.specs.Prelude.{◌≡◌, ℕ, ◌+◌, List, [], ◌∷◌, ◌++◌, None}
use Rattle.std.specs.Option.{option_copied}
use Rattle.events.specs.declared.sent.Sent.{Sent}
use Rattle.sip_message.specs.declared.message.Message as messages
use Rattle.sip_writing.specs.Writing.{message_text}
use Rattle.sip_writing.specs.WritingMessage.{IsWrittenMessage}
use Rattle.dialogs.specs.declared.method.Method.TheVariants as methods
use Rattle.dialogs.specs.Counting.{following, last_number, method_text}
use Rattle.dialogs.specs.Requests.{ack_text}
use Rattle.call_core.specs.declared.action.Action.{Action}
use Rattle.call_core.specs.declared.action.Action.TheVariants.{Trying, Offer, Provisional, Ack, Answer, AnswerAgain, Refusal, Okay, Cancel, Bye, PutRows, Release, RemoveRows, Set, Stop, Abandon}
use Rattle.call_messages.specs.declared.scene.Scene.{Scene}
use Rattle.call_messages.specs.Dressing.{branch, dialog_with, dress_one, method_of}
use Rattle.call_trace.specs.declared.datagram.Message.{Message}
use Rattle.trace_reading.specs.Message.{trace_message}
use Rattle.message_laws.specs.Saying.{OneIf, SeesAgain, SeesCancel, SeesIn, SeesTo}

-- it is the bytes of a message of the written form, of which a trace sees this
abbrev pub IsSaid : (Message → Type 0) → Sent → Type 0
IsSaid sees d = (m : messages.Message) × (d.bytes ≡ message_text m) × IsWrittenMessage m × sees (trace_message d.bytes m)

-- what an action says, where this many tokens were made before it
abbrev pub SaysAction : Scene → ℕ → Action → Sent → Type 0
SaysAction s tokens (Trying end) d = IsSaid (SeesTo s.offer 100 None) d
SaysAction s tokens (Offer end method) d = IsSaid (SeesIn (dialog_with end s) (branch s tokens) following (method_text (method_of method)) (option_copied s.description)) d
SaysAction s tokens (Provisional end status) d = IsSaid (SeesTo s.offer status None) d
SaysAction s tokens (Ack end) d = IsSaid (SeesIn (dialog_with end s) (branch s tokens) last_number ack_text None) d
SaysAction s tokens (Answer end) d = IsSaid (SeesTo s.offer 200 (option_copied s.description)) d
SaysAction s tokens (AnswerAgain end) d = SeesAgain (option_copied s.again) d
SaysAction s tokens (Refusal end status) d = IsSaid (SeesTo s.offer status None) d
SaysAction s tokens (Okay end) d = IsSaid (SeesTo s.request 200 None) d
SaysAction s tokens (Cancel end) d = IsSaid (SeesCancel (option_copied s.passed)) d
SaysAction s tokens (Bye end) d = IsSaid (SeesIn (dialog_with end s) (branch s tokens) following (method_text methods.Bye) None) d
SaysAction s tokens PutRows d = ⊥
SaysAction s tokens Release d = ⊥
SaysAction s tokens RemoveRows d = ⊥
SaysAction s tokens (Set timer after) d = ⊥
SaysAction s tokens (Stop timer) d = ⊥
SaysAction s tokens (Abandon end) d = ⊥

-- what actions say, one after another
abbrev pub SaysActions : Scene → ℕ → List Action → List Sent → Type 0
SaysActions s tokens [] sends = sends ≡ []
SaysActions s tokens (action ∷ later) sends = (first rest : List Sent) × (sends ≡ first ++ rest) × OneIf (SaysAction s tokens action) first
    × SaysActions s (tokens + (dress_one s tokens action).made) later rest

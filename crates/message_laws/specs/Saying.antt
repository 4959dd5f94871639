-- What a trace sees of what the actions of a call say.
use Rattle.std.specs.Prelude.{◌≡◌, ℕ, ◌+◌, List, [], ◌∷◌, ◌++◌, codes, Option, Some, None}
use Rattle.std.specs.Option.{option_copied}
use Rattle.events.specs.declared.sent.Sent.{Sent}
use Rattle.sip_message.specs.declared.message.Message as messages
use Rattle.sip_writing.specs.Writing.{message_text}
use Rattle.sdp.specs.declared.description.Description.{Description}
use Rattle.sdp.specs.Grammar.{ReadsDescription}
use Rattle.sdp.specs.Writing.{description_text}
use Rattle.dialogs.specs.declared.method.Method.TheVariants as methods
use Rattle.dialogs.specs.declared.state.Dialog.{Dialog}
use Rattle.dialogs.specs.Counting.{following, last_number, method_text}
use Rattle.dialogs.specs.Requests.{ack_text}
use Rattle.transactions.specs.declared.transaction.Transaction.{Transaction}
use Rattle.call_core.specs.declared.action.Action.{Action}
use Rattle.call_core.specs.declared.action.Action.TheVariants.{Trying, Offer, Provisional, Ack, Answer, AnswerAgain, Refusal, Okay, Cancel, Bye, PutRows, Release, RemoveRows, Set, Stop, Abandon}
use Rattle.call_messages.specs.declared.scene.Asker.{Asker}
use Rattle.call_messages.specs.declared.scene.Scene.{Scene}
use Rattle.call_messages.specs.Dressing.{branch, dialog_with, dress_one, method_of}
use Rattle.call_trace.specs.declared.datagram.Message.{Message}
use Rattle.trace_reading.specs.Message.{trace_message}
use Rattle.message_laws.specs.Seeing.{SeesLike, SeesRequest, SeesResponse}

-- what is described reads back
abbrev pub ReadsBackIf : Option Description → Type 0
ReadsBackIf None = Unit {0}
ReadsBackIf (Some d) = ReadsDescription (description_text d) d

-- ---- what a trace sees, where the scene has what the message is made of

abbrev pub SeesTo : Option Asker → ℕ → Option Description → Message → Type 0
SeesTo None status body m = ⊥
SeesTo (Some a) status body m = SeesResponse a.parts.now status a.tag.now body m

abbrev pub SeesIn : Option Dialog → List ℕ → (Dialog → ℕ) → List ℕ → Option Description → Message → Type 0
SeesIn None token number name body m = ⊥
SeesIn (Some d) token number name body m = SeesRequest d token (number d) name body m

abbrev pub SeesCancel : Option Transaction → Message → Type 0
SeesCancel None m = ⊥
SeesCancel (Some invite) m = SeesLike invite.parts invite.parts.to (codes "CANCEL") m

abbrev pub SeesAgain : Option Sent → Sent → Type 0
SeesAgain None d = ⊥
SeesAgain (Some again) d = d ≡ again

-- ---- datagrams

-- it is a message's bytes, of which a trace sees this
abbrev pub IsSeen : (Message → Type 0) → Sent → Type 0
IsSeen sees d = (m : messages.Message) × (d.bytes ≡ message_text m) × sees (trace_message d.bytes m)

-- what an action says, where this many tokens were made before it
abbrev pub SeesAction : Scene → ℕ → Action → Sent → Type 0
SeesAction s tokens (Trying end) d = IsSeen (SeesTo s.offer 100 None) d
SeesAction s tokens (Offer end method) d = IsSeen (SeesIn (dialog_with end s) (branch s tokens) following (method_text (method_of method)) (option_copied s.description)) d
SeesAction s tokens (Provisional end status) d = IsSeen (SeesTo s.offer status None) d
SeesAction s tokens (Ack end) d = IsSeen (SeesIn (dialog_with end s) (branch s tokens) last_number ack_text None) d
SeesAction s tokens (Answer end) d = IsSeen (SeesTo s.offer 200 (option_copied s.description)) d
SeesAction s tokens (AnswerAgain end) d = SeesAgain (option_copied s.again) d
SeesAction s tokens (Refusal end status) d = IsSeen (SeesTo s.offer status None) d
SeesAction s tokens (Okay end) d = IsSeen (SeesTo s.request 200 None) d
SeesAction s tokens (Cancel end) d = IsSeen (SeesCancel (option_copied s.passed)) d
SeesAction s tokens (Bye end) d = IsSeen (SeesIn (dialog_with end s) (branch s tokens) following (method_text methods.Bye) None) d
SeesAction s tokens PutRows d = ⊥
SeesAction s tokens Release d = ⊥
SeesAction s tokens RemoveRows d = ⊥
SeesAction s tokens (Set timer after) d = ⊥
SeesAction s tokens (Stop timer) d = ⊥
SeesAction s tokens (Abandon end) d = ⊥

-- one datagram at most
abbrev pub OneIf : (Sent → Type 0) → List Sent → Type 0
OneIf is [] = Unit {0}
OneIf is (d ∷ []) = is d
OneIf is (d ∷ e ∷ sends) = ⊥

-- what actions say, one after another
abbrev pub SeesActions : Scene → ℕ → List Action → List Sent → Type 0
SeesActions s tokens [] sends = sends ≡ []
SeesActions s tokens (action ∷ later) sends = (first rest : List Sent) × (sends ≡ first ++ rest) × OneIf (SeesAction s tokens action) first
    × SeesActions s (tokens + (dress_one s tokens action).made) later rest

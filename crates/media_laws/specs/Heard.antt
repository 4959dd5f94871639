-- What a trace hears of the actions of a call: the messages that their datagrams are.
use Rattle.std.specs.Prelude.{◌≡◌, ℕ, ◌+◌, List, [], ◌∷◌, ◌++◌, Option, Some, None}
use Rattle.std.specs.Option.{option_copied}
use Rattle.events.specs.declared.sent.Sent.{Sent}
use Rattle.dialogs.specs.declared.method.Method.TheVariants as methods
use Rattle.dialogs.specs.Counting.{following, last_number, method_text}
use Rattle.dialogs.specs.Requests.{ack_text}
use Rattle.call_core.specs.declared.action.Action.{Action}
use Rattle.call_core.specs.declared.action.Action.TheVariants.{Trying, Offer, Provisional, Ack, Answer, AnswerAgain, Refusal, Okay, Cancel, Bye, PutRows, Release, RemoveRows, Set, Stop, Abandon}
use Rattle.call_messages.specs.declared.scene.Scene.{Scene}
use Rattle.call_messages.specs.Dressing.{branch, dialog_with, dress_one, method_of}
use Rattle.call_trace.specs.declared.datagram.Message.{Message}
use Rattle.message_laws.specs.Saying.{SeesCancel, SeesIn, SeesTo}
use Rattle.message_laws.specs.Messages.{IsMessage}

-- the message of these bytes
abbrev pub HearsAgain : Option Sent → Message → Type 0
HearsAgain None m = ⊥
HearsAgain (Some again) m = IsMessage again.bytes m

-- what a trace sees of what an action says, where this many tokens were made before it
abbrev pub HearsAction : Scene → ℕ → Action → Message → Type 0
HearsAction s tokens (Trying end) m = SeesTo s.offer 100 None m
HearsAction s tokens (Offer end method) m = SeesIn (dialog_with end s) (branch s tokens) following (method_text (method_of method)) (option_copied s.description) m
HearsAction s tokens (Provisional end status) m = SeesTo s.offer status None m
HearsAction s tokens (Ack end) m = SeesIn (dialog_with end s) (branch s tokens) last_number ack_text None m
HearsAction s tokens (Answer end) m = SeesTo s.offer 200 (option_copied s.description) m
HearsAction s tokens (AnswerAgain end) m = HearsAgain (option_copied s.again) m
HearsAction s tokens (Refusal end status) m = SeesTo s.offer status None m
HearsAction s tokens (Okay end) m = SeesTo s.request 200 None m
HearsAction s tokens (Cancel end) m = SeesCancel (option_copied s.passed) m
HearsAction s tokens (Bye end) m = SeesIn (dialog_with end s) (branch s tokens) following (method_text methods.Bye) None m
HearsAction s tokens PutRows m = ⊥
HearsAction s tokens Release m = ⊥
HearsAction s tokens RemoveRows m = ⊥
HearsAction s tokens (Set timer after) m = ⊥
HearsAction s tokens (Stop timer) m = ⊥
HearsAction s tokens (Abandon end) m = ⊥

-- one message of these bytes, where one datagram was sent
abbrev pub HearsOne : (Message → Type 0) → List Sent → List Message → Type 0
HearsOne hears [] ms = ms ≡ []
HearsOne hears (d ∷ []) ms = (m : Message) × (ms ≡ m ∷ []) × IsMessage d.bytes m × hears m
HearsOne hears (d ∷ e ∷ sends) ms = ⊥

-- one after another
abbrev pub HearsActions : Scene → ℕ → List Action → List Message → Type 0
HearsActions s tokens [] ms = ms ≡ []
HearsActions s tokens (action ∷ later) ms = (first rest : List Message) × (ms ≡ first ++ rest) × HearsOne (HearsAction s tokens action) (dress_one s tokens action).sends first
    × HearsActions s (tokens + (dress_one s tokens action).made) later rest

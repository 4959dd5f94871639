-- What was taken where a call takes a signal, in the words of a trace.
use Rattle.std.specs.Prelude.{◌≡◌, ℕ, ◌≤◌, ◌<◌, Bool, true, false, Option, Some, None, IsTrue}
use Rattle.call_core.specs.declared.signal.Signal.{Signal}
use Rattle.call_core.specs.declared.signal.Signal.TheVariants as signals
use Rattle.call_core.specs.declared.stage.Stage.{Stage}
use Rattle.call_core.specs.Calls.{awaits_answer}
use Rattle.call_messages.specs.declared.scene.Asker.{Asker}
use Rattle.call_messages.specs.declared.scene.Scene.{Scene}
use Rattle.call_trace.specs.declared.call.Call.{Call}
use Rattle.call_trace.specs.declared.call.Offer.{Offer}
use Rattle.call_trace.specs.declared.datagram.Kind.TheVariants.{Request, Response}
use Rattle.call_trace.specs.declared.datagram.Message.{Message}
use Rattle.call_trace.specs.Messages.{Replies, cancel, is_success}
use Rattle.call_trace.specs.Stands.{IsTagOf, leg}
use Rattle.media_laws.specs.Scenes.{ByeIn}
use Rattle.media_laws.specs.Shows.{is_caller}

-- ---- responses

pub record TookRinging (taken : Option Message) (status : ℕ) : Type 0 where
  pub message : Message
  pub is : taken ≡ Some message
  pub kind : message.kind ≡ Response status
  pub early : status < 200

-- a final response of this status to the open offer of the call
pub record TookFinal (taken : Option Message) (d : Call) (status : ℕ) : Type 0 where
  pub message : Message
  pub is : taken ≡ Some message
  pub kind : message.kind ≡ Response status
  pub late : 200 ≤ status
  pub tag : IsTagOf d message.from_tag
  pub replies : (p : Offer) → d.offer ≡ Some p → Replies message p.went

pub record TookRefusal (taken : Option Message) (d : Call) (status : ℕ) : Type 0 where
  pub final : TookFinal taken d status
  pub refuses : 300 ≤ status

pub record TookSuccess (taken : Option Message) (d : Call) : Type 0 where
  pub status : ℕ
  pub final : TookFinal taken d status
  pub success : IsTrue (is_success (Response status))

-- ---- requests

pub record TookRequest (taken : Option Message) : Type 0 where
  pub message : Message
  pub is : taken ≡ Some message
  pub kind : message.kind ≡ Request

-- a CANCEL, which gets a 200
pub record TookCancel (taken : Option Message) (s : Scene) : Type 0 where
  pub request : TookRequest taken
  pub asker : Asker
  pub has : s.request ≡ Some asker
  pub method : asker.parts.now.cseq.method ≡ cancel

-- a BYE of this end
pub record TookBye (taken : Option Message) (s : Scene) (d : Call) (caller : Bool) : Type 0 where
  pub request : TookRequest taken
  pub bye : ByeIn s (leg d caller) request.message

-- ---- all

-- what comes with each signal of a call but an offer and a fit answer
abbrev pub Took : Option Message → Scene → Call → Signal → Type 0
Took taken s d (signals.Offer end method) = ⊥
Took taken s d (signals.Provisional status) = TookRinging taken status
Took taken s d signals.FitAnswer = ⊥
Took taken s d signals.UnfitAnswer = TookSuccess taken d
Took taken s d (signals.Refusal status) = TookRefusal taken d status
Took taken s d signals.TimedOut = taken ≡ None
Took taken s d signals.Ack = TookRequest taken
Took taken s d signals.Cancel = TookCancel taken s
Took taken s d (signals.Bye end) = TookBye taken s d (is_caller end)
Took taken s d signals.Limit = taken ≡ None
Took taken s d signals.Repeat = taken ≡ None
Took taken s d signals.Wait = taken ≡ None
Took taken s d signals.Lifetime = taken ≡ None

-- a final response comes only where one is waited for
abbrev pub IsAwaitedBy : Stage → Signal → Type 0
IsAwaitedBy stage signals.UnfitAnswer = awaits_answer stage ≡ true
IsAwaitedBy stage (signals.Refusal status) = awaits_answer stage ≡ true
IsAwaitedBy stage signal = Unit {0}

abbrev pub is_bye_signal : Signal → Bool
is_bye_signal (signals.Bye end) = true
is_bye_signal signal = false

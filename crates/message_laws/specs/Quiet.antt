-- What moves no call: what the server answers by itself, and what was taken where no call takes it.
use Rattle.std.specs.Prelude.{◌≡◌, ℕ, false, not, List, [], ◌∷◌, Option, Some, None, ◌⊎◌, IsTrue}
use Rattle.sip_message.specs.declared.message.Parts.{Parts}
use Rattle.sip_message.specs.declared.message.Request.{Request}
use Rattle.events.specs.declared.sent.Sent.{Sent}
use Rattle.call_rules.specs.Speaking.{is_bye, is_invite}
use Rattle.plans.specs.declared.rule.Reply.{Reply}
use Rattle.plans.specs.declared.rule.Reply.TheVariants as reply
use Rattle.call_trace.specs.declared.call.Call.{Call}
use Rattle.call_trace.specs.declared.datagram.Datagram.{Datagram}
use Rattle.call_trace.specs.declared.datagram.Direction.TheVariants as directions
use Rattle.call_trace.specs.declared.datagram.Kind.TheVariants as kinds
use Rattle.call_trace.specs.declared.datagram.Message.{Message}
use Rattle.call_trace.specs.Events.{is_plain, NoneAsked}
use Rattle.call_trace.specs.Exchanges.{At}
use Rattle.call_trace.specs.Listed.{AllOf}
use Rattle.call_trace.specs.Messages.{asks, is_success}
use Rattle.call_trace.specs.Moves.{Move}
use Rattle.message_laws.specs.Saying.{IsSeen}

-- ---- which responses

-- a request whose 2xx without a description moves no call: neither INVITE nor BYE
pub record MovesNone (request : Parts) : Type 0 where
  pub no_invite : is_invite request ≡ false
  pub no_bye : is_bye request ≡ false

-- no 2xx, or one to such a request
abbrev pub IsQuietStatus : Parts → ℕ → Type 0
IsQuietStatus request status = (is_success (kinds.Response status) ≡ false) ⊎ MovesNone request

-- of the replies of the server's own, three are a 200, or may be (RFC 3261 sections 9.2, 10.3 and 11.2); each other is
-- a refusal, which is not a 2xx
abbrev pub IsQuietReply : Request → Reply → Type 0
IsQuietReply r (reply.CancelOf other) = MovesNone r.parts
IsQuietReply r (reply.Refusal reason) = Unit {0}
IsQuietReply r reply.MethodsListed = MovesNone r.parts
IsQuietReply r reply.Registration = MovesNone r.parts

-- ---- datagrams, and what a trace sees of them

-- each datagram is a message's bytes, of which a trace sees what is plain
abbrev pub SayPlain : List (List ℕ) → List Sent → Type 0
SayPlain methods sends = AllOf (IsSeen (λ m. IsTrue (is_plain methods m))) sends

-- these datagrams are these messages, one by one
abbrev pub AreSeenAs : List Sent → List Message → Type 0
AreSeenAs [] [] = Unit {0}
AreSeenAs [] (m ∷ ms) = ⊥
AreSeenAs (d ∷ sends) [] = ⊥
AreSeenAs (d ∷ sends) (m ∷ ms) = IsSeen (λ seen. m ≡ seen) d × AreSeenAs sends ms

-- a move of the calls, of the messages that these datagrams are
pub record SeenMove (methods : List (List ℕ)) (t : List Datagram) (old : List Call) (taken : Option Message) (sends : List Sent) (new : List Call) : Type 0 where
  pub sent : List Message
  pub seen : AreSeenAs sends sent
  pub move : Move methods t old taken sent new

-- ---- what was taken

-- nothing that is in the trace, or a request
abbrev pub IsRequestIf : Option Message → Type 0
IsRequestIf None = Unit {0}
IsRequestIf (Some m) = m.kind ≡ kinds.Request

-- ---- what is sent again

-- The trace has these bytes as sent, as a message; and that asks nothing, or nothing that asks was taken.
pub record GoesAgain (methods : List (List ℕ)) (t : List Datagram) (taken : Option Message) (m : Message) : Type 0 where
  pub place : ℕ
  pub before : Datagram
  pub there : At t place before
  pub sent : before.direction ≡ directions.Sent
  pub same : before.message ≡ m
  pub quiet : IsTrue (not (asks methods m)) ⊎ NoneAsked methods taken

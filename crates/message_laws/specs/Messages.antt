-- What a trace has of the bytes that came and of those that were sent (RFC 3261 section 7).
use Rattle.std.specs.Prelude.{◌≡◌, ℕ, List, [], ◌∷◌, Option, Some, None}
use Rattle.call_trace.specs.declared.datagram.Kind.TheVariants.{Request}
use Rattle.call_trace.specs.declared.datagram.Message.{Message as TraceMessage}
use Rattle.events.specs.declared.sent.Sent.{Sent}
use Rattle.sip_message.specs.declared.message.Message.{Message}
use Rattle.sip_message.specs.declared.message.Parts.{Parts}
use Rattle.sip_message.specs.Grammar.{ReadsMessage}
use Rattle.sip_message.specs.Words.{tag_text}
use Rattle.trace_reading.specs.Message.{branch_text, trace_message}

-- by the grammar alone, without the limits of reading, the bytes are a message of which a trace sees this
pub record IsMessage (bytes : List ℕ) (m : TraceMessage) : Type 0 where
  pub message : Message
  pub reads : ReadsMessage bytes message
  pub seen : m ≡ trace_message bytes message

-- these datagrams are these messages, one by one
abbrev pub AreMessages : List Sent → List TraceMessage → Type 0
AreMessages [] [] = Unit {0}
AreMessages [] (m ∷ ms) = ⊥
AreMessages (d ∷ sends) [] = ⊥
AreMessages (d ∷ sends) (m ∷ ms) = IsMessage d.bytes m × AreMessages sends ms

-- what is taken of bytes that came: the message that they are, or nothing where they are none
abbrev pub IsTakenOf : List ℕ → Option TraceMessage → Type 0
IsTakenOf bytes (Some m) = IsMessage bytes m
IsTakenOf bytes None = (m : TraceMessage) → ¬ IsMessage bytes m

-- a request with these parts (section 8.1.1)
pub record IsRequestOf (parts : Parts) (m : TraceMessage) : Type 0 where
  pub kind : m.kind ≡ Request
  pub branch : m.branch ≡ branch_text parts.vias
  pub call_id : m.call_id ≡ parts.call_id
  pub from_tag : m.from_tag ≡ tag_text parts.from.params
  pub to_tag : m.to_tag ≡ tag_text parts.to.params
  pub number : m.number ≡ parts.cseq.number
  pub method : m.method ≡ parts.cseq.method

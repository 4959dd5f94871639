-- Datagrams as messages of a trace: the same bytes are the same message, and what was written is read.
use Rattle.std.proofs.Common.{◌≡◌, ◌∙◌, ℕ, List, ap, sym, subst}
use Rattle.sip_message.specs.declared.message.Message.{Message}
use Rattle.sip_message.specs.Grammar.{ReadsMessage}
use Rattle.sip_writing.specs.Writing.{message_text}
use Rattle.sip_writing.specs.WritingMessage.{IsWrittenMessage}
use Rattle.call_trace.specs.declared.datagram.Message.{Message as TraceMessage}
use Rattle.trace_reading.specs.Message.{trace_message}
use Rattle.message_laws.specs.Messages.{IsMessage}

-- what reading says of bytes
pub record Reading : Type 0 where
  pub same : (bytes : List ℕ) (a b : Message) → ReadsMessage bytes a → ReadsMessage bytes b → trace_message bytes a ≡ trace_message bytes b
  pub bytes : (bytes : List ℕ) (m : Message) → (trace_message bytes m).bytes ≡ bytes
  pub back : (m : Message) → IsWrittenMessage m → ReadsMessage (message_text m) m

pub message_is : Reading → (bytes : List ℕ) (m : TraceMessage) (k : Message) → IsMessage bytes m → bytes ≡ message_text k → IsWrittenMessage k → m ≡ trace_message bytes k
message_is r bytes m k is said written = is.seen ∙ r.same bytes is.message k is.reads (subst (λ b. ReadsMessage b k) (sym said) (r.back k written))

pub has_bytes : Reading → (bytes : List ℕ) (m : TraceMessage) → IsMessage bytes m → m.bytes ≡ bytes
has_bytes r bytes m is = ap (λ (x : TraceMessage). x.bytes) is.seen ∙ r.bytes bytes is.message

pub same_message : Reading → (bytes : List ℕ) (m n : TraceMessage) → IsMessage bytes m → IsMessage bytes n → m ≡ n
same_message r bytes m n one two = one.seen ∙ (r.same bytes one.message two.message one.reads two.reads ∙ sym two.seen)

-- two messages of the same bytes
pub by_bytes : Reading → (one two : List ℕ) (m n : TraceMessage) → IsMessage one m → IsMessage two n → m.bytes ≡ n.bytes → m ≡ n
by_bytes r one two m n a b e =
    let same : one ≡ two = sym (has_bytes r one m a) ∙ (e ∙ has_bytes r two n b) in
    same_message r two m n (subst (λ x. IsMessage x m) same a) b

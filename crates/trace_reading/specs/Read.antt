-- What a trace sees of a datagram.
use Rattle.std.specs.Prelude.{◌≡◌, ℕ, List, [], None, Result, Ok, Err}
use Rattle.call_trace.specs.declared.datagram.Datagram.{Datagram}
use Rattle.call_trace.specs.declared.datagram.Kind.TheVariants.{Request}
use Rattle.call_trace.specs.declared.datagram.Message.{Message as TraceMessage}
use Rattle.call_trace.specs.Exchanges.{At}
use Rattle.sip_message.specs.declared.error.MessageError.{MessageError}
use Rattle.sip_message.specs.declared.message.Message.{Message}
use Rattle.sip_message.specs.Faults.{and_then}
use Rattle.sip_message.specs.Grammar.{ReadsMessage, IsWithin}
use Rattle.sip_message.specs.Read.{message_of}
use Rattle.trace_reading.specs.Message.{trace_message}

-- the bytes are a message, within the limits of reading, of which the trace sees this
pub record Shows (bytes : List ℕ) (seen : TraceMessage) : Type 0 where
  pub message : Message
  pub reads : ReadsMessage bytes message
  pub within : IsWithin bytes message reads
  pub shown : seen ≡ trace_message bytes message

abbrev pub read_of : List ℕ → Result TraceMessage MessageError
read_of bytes = and_then (message_of bytes) (λ m. Ok (trace_message bytes m))

-- ---- one function from bytes to messages

-- bytes that are not a message are in no trace; here they are a request that names nothing
abbrev pub seen_by : List ℕ → Result TraceMessage MessageError → TraceMessage
seen_by bytes (Ok m) = m
seen_by bytes (Err e) = record {
  kind = Request;
  branch = [];
  call_id = [];
  from_tag = [];
  to_tag = [];
  number = 0;
  method = [];
  description = None;
  bytes = bytes;
}

unfoldable pub seen : List ℕ → TraceMessage
seen bytes = seen_by bytes (read_of bytes)

-- each message of the trace is what its bytes show
abbrev pub AreShown : List Datagram → Type 0
AreShown t = (i : ℕ) (p : Datagram) → At t i p → Shows p.message.bytes p.message

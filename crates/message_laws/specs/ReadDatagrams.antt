-- Datagrams that read back (RFC 3261 section 7).
use Rattle.std.specs.Prelude.{◌≡◌, ℕ, List}
use Rattle.events.specs.declared.sent.Sent.{Sent}
use Rattle.sip_message.specs.declared.message.Message.{Message}
use Rattle.sip_writing.specs.Writing.{message_text}
use Rattle.sip_writing.specs.WritingMessage.{IsWrittenMessage}

-- the bytes of a message of the written form
abbrev pub IsReadText : List ℕ → Type 0
IsReadText bytes = (m : Message) × (bytes ≡ message_text m) × IsWrittenMessage m

abbrev pub IsReadDatagram : Sent → Type 0
IsReadDatagram d = IsReadText d.bytes

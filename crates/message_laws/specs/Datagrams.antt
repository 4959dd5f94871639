-- The responses of the server's own, and where requests come from (RFC 3261 sections 7.2 and 18.2.1).
use Rattle.std.specs.Prelude.{◌≡◌, ℕ, List, map, ◌⊎◌}
use Rattle.events.specs.declared.event.What.{What}
use Rattle.events.specs.declared.event.What.TheVariants as whats
use Rattle.events.specs.declared.sent.Sent.{Sent}
use Rattle.registrar.specs.declared.binding.Binding.{Binding}
use Rattle.responses.specs.Responding.{contact_header, responds}
use Rattle.sip_message.specs.declared.message.Message.TheVariants as Kinds
use Rattle.sip_message.specs.declared.message.Parts.{Parts}
use Rattle.sip_message.specs.declared.message.Request.{Request}
use Rattle.sip_message.specs.declared.message.Response.{Response}
use Rattle.sip_uri.specs.declared.uri.Addr.{Addr}
use Rattle.sip_writing.specs.Writing.{message_text}
use Rattle.sip_writing.specs.WritingMessage.{IsWrittenMessage}
use Rattle.event_rows.specs.Trace.{Entry}
use Rattle.message_laws.specs.Addresses.{IsSource}

-- ---- addresses

-- a datagram comes from an address of bytes, and a port of 16 bits
abbrev pub ComesFromSource : What → Type 0
ComesFromSource (whats.Datagram source bytes) = IsSource source
ComesFromSource whats.Due = Unit {0}
ComesFromSource (whats.Silent number) = Unit {0}
ComesFromSource (whats.Users users) = Unit {0}

abbrev pub IsNoDatagram : What → Type 0
IsNoDatagram (whats.Datagram source bytes) = ⊥
IsNoDatagram whats.Due = Unit {0}
IsNoDatagram (whats.Silent number) = Unit {0}
IsNoDatagram (whats.Users users) = Unit {0}

abbrev pub EntersFromSource : Entry → Type 0
EntersFromSource x = ComesFromSource x.event.what

-- ---- what is sent

-- bytes that read back as the response that they were dressed as
pub record IsReadResponse (bytes : List ℕ) : Type 0 where
  pub response : Response
  pub said : bytes ≡ message_text (Kinds.Response response)
  pub written : IsWrittenMessage (Kinds.Response response)

-- a response that lists the bindings of a user (section 10.3)
pub record IsListing (bytes : List ℕ) : Type 0 where
  pub parts : Parts
  pub source : Addr
  pub tag : List ℕ
  pub now : ℕ
  pub bindings : List Binding
  pub said : bytes ≡ message_text (Kinds.Response (responds parts source 200 tag (map (contact_header now) bindings)))

pub record IsRequestText (bytes : List ℕ) : Type 0 where
  pub request : Request
  pub said : bytes ≡ message_text (Kinds.Request request)

-- a datagram of the server's own
abbrev pub IsOwnMessage : List ℕ → Type 0
IsOwnMessage bytes = IsReadResponse bytes ⊎ (IsListing bytes ⊎ IsRequestText bytes)

abbrev pub IsOwnDatagram : Sent → Type 0
IsOwnDatagram d = IsOwnMessage d.bytes

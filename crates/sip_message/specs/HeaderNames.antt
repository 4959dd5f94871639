-- The names of header fields (RFC 3261 sections 7.3.3 and 20).
use Rattle.std.specs.Prelude.{ℕ, List, codes}
use Rattle.sip_message.specs.declared.header_names.HeaderName.{HeaderName}
use Rattle.sip_message.specs.declared.header_names.HeaderName.TheVariants as Names
pub use Rattle.header_fields.specs.HeaderNames.{compact_names, long_of}
unfoldable pub use Rattle.header_fields.specs.HeaderNames.{long_name}

-- the names of the header fields that are read in every message
abbrev pub name_text : HeaderName → List ℕ
name_text Names.Via = codes "Via"
name_text Names.From = codes "From"
name_text Names.To = codes "To"
name_text Names.CallId = codes "Call-ID"
name_text Names.CSeq = codes "CSeq"
name_text Names.Contact = codes "Contact"
name_text Names.MaxForwards = codes "Max-Forwards"
name_text Names.ContentType = codes "Content-Type"
name_text Names.ContentLength = codes "Content-Length"

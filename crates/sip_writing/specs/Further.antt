-- What may come after the header fields of a response (RFC 3261 section 7.3.1).
use Rattle.std.specs.Prelude.{ℕ, Bool, not, ◌&&◌, ◌≤◌, IsTrue, List, ◌++◌, length, codes}
use Rattle.std.specs.List.{list_all}
use Rattle.sip_message.specs.declared.headers.Header.{Header}
use Rattle.sip_message.specs.declared.message.Message.TheVariants as Kinds
use Rattle.sip_message.specs.declared.message.Response.{Response}
use Rattle.sip_message.specs.declared.start.Start.{Start}
use Rattle.sip_message.specs.Contact.{contacts_of, contact_need}
use Rattle.sip_message.specs.Grammar.{SaysContact, SaysHops, SaysType, start_of_response}
use Rattle.sip_message.specs.Lookup.{is_named, values_named}
use Rattle.sip_message.specs.ContentLength.{max_content_length}
use Rattle.sip_message.specs.Written.{is_written}
use Rattle.sip_writing.specs.WritingMessage.{tells_no_length, IsWrittenMessage}

-- no header field that a response repeats
abbrev pub repeats_nothing : Header → Bool
repeats_nothing h =
    not (is_named (codes "Via") h) && not (is_named (codes "From") h) && not (is_named (codes "To") h) && not (is_named (codes "Call-ID") h)
    && not (is_named (codes "CSeq") h)

-- further header fields of a response to a request of this method
pub record MayFollow (start : Start) (method : List ℕ) (further : List Header) : Type 0 where
  pub written : IsTrue (list_all is_written further)
  pub repeat_nothing : IsTrue (list_all repeats_nothing further)
  pub no_length : IsTrue (list_all tells_no_length further)
  pub says_contact : SaysContact (contact_need start method) (contacts_of further)
  pub hops : ℕ
  pub says_hops : SaysHops (values_named (codes "Max-Forwards") further) hops
  pub says_type : SaysType (values_named (codes "Content-Type") further)

abbrev pub with_further : Response → List Header → List ℕ → Response
with_further response further body = record response { headers = response.headers ++ further; body = body }

-- the response is of the form that is written and read again, whatever further header fields and whatever body it has
abbrev pub IsReadAgain : Response → Type 0
IsReadAgain response =
    (further : List Header) (body : List ℕ) → MayFollow (start_of_response response) response.parts.cseq.method further → length body ≤ max_content_length
    → IsWrittenMessage (Kinds.Response (with_further response further body))

-- Messages of the form that is written, and read again (RFC 3261 sections 7.1 to 7.4).
use Rattle.std.specs.Prelude.{ℕ, Bool, not, ◌≤◌, IsTrue, List, length, codes}
use Rattle.std.specs.List.{list_all}
use Rattle.text.specs.Class.{is_run_of, is_token_byte}
use Rattle.sip_uri.specs.Grammar.{ReadsUri}
use Rattle.sip_message.specs.declared.headers.Header.{Header}
use Rattle.sip_message.specs.declared.message.Message.{Message}
use Rattle.sip_message.specs.declared.message.Message.TheVariants as Kinds
use Rattle.sip_message.specs.declared.message.Parts.{Parts}
use Rattle.sip_message.specs.declared.message.Request.{Request}
use Rattle.sip_message.specs.declared.message.Response.{Response}
use Rattle.sip_message.specs.declared.start.Start.{Start}
use Rattle.sip_message.specs.Contact.{contacts_of, contact_need}
use Rattle.sip_message.specs.Grammar.{SaysParts, SaysContact, SaysHops, SaysType, start_of_request, start_of_response}
use Rattle.sip_message.specs.Lines.{is_clean}
use Rattle.sip_message.specs.Lookup.{is_named, values_named}
use Rattle.sip_message.specs.ContentLength.{max_content_length}
use Rattle.sip_message.specs.Written.{is_written}

-- Content-Length is written separately, from the body
abbrev pub tells_no_length : Header → Bool
tells_no_length header = not (is_named (codes "Content-Length") header)

-- header fields and body that can be written, and what they say
pub record IsWrittenRest (start : Start) (headers : List Header) (parts : Parts) (hops : ℕ) (body : List ℕ) : Type 0 where
  pub written : IsTrue (list_all is_written headers)
  pub no_length : IsTrue (list_all tells_no_length headers)
  pub says_parts : SaysParts start headers parts
  pub says_contact : SaysContact (contact_need start parts.cseq.method) (contacts_of headers)
  pub says_hops : SaysHops (values_named (codes "Max-Forwards") headers) hops
  pub says_type : SaysType (values_named (codes "Content-Type") headers)
  pub small : length body ≤ max_content_length

pub record IsWrittenRequest (request : Request) : Type 0 where
  pub token : IsTrue (is_run_of is_token_byte request.method)
  -- the Request-URI is read from some text
  pub uri_from : List ℕ
  pub uri : ReadsUri uri_from request.uri
  pub rest : IsWrittenRest (start_of_request request) request.headers request.parts request.max_forwards request.body

pub record IsWrittenResponse (response : Response) : Type 0 where
  pub three_digits : 100 ≤ response.status
  pub up_to_699 : response.status ≤ 699
  pub clean : IsTrue (is_clean response.reason)
  pub hops : ℕ
  pub rest : IsWrittenRest (start_of_response response) response.headers response.parts hops response.body

-- the message is of the form that is written and read again
unfoldable pub IsWrittenMessage : Message → Type 0
IsWrittenMessage (Kinds.Request request) = IsWrittenRequest request
IsWrittenMessage (Kinds.Response response) = IsWrittenResponse response

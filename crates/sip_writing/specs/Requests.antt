-- Requests that the server makes (RFC 3261 sections 7, 8.1.1, 12.2.1.1 and 17.1.1.3).
use Rattle.std.specs.Prelude.{◌≡◌, ◌≤◌, ℕ, Bool, not, ◌&&◌, ◌==◌, List, [], ◌∷◌, ◌++◌, length, codes, decimal, Option, Some, IsTrue, if◌then◌else◌}
use Rattle.std.specs.List.{list_all}
use Rattle.text.specs.Class.{is_run_of, is_token_byte}
use Rattle.text.specs.Cut.{led_by}
use Rattle.sip_uri.specs.declared.uri.Addr.{Addr}
use Rattle.sip_uri.specs.declared.uri.Host.TheVariants.{Ip4}
use Rattle.sip_uri.specs.declared.uri.NameAddr.{NameAddr}
use Rattle.sip_uri.specs.declared.uri.Param.{Param}
use Rattle.sip_uri.specs.declared.uri.Uri.{Uri}
use Rattle.sip_uri.specs.Grammar.{ReadsUri}
use Rattle.sip_uri.specs.NameAddr.{ReadsNameAddr, name_addr_text}
use Rattle.sip_uri.specs.Writing.{ip4_text}
use Rattle.sip_message.specs.declared.headers.Header.{Header}
use Rattle.sip_message.specs.declared.message.Parts.{Parts}
use Rattle.sip_message.specs.declared.message.Request.{Request}
use Rattle.sip_message.specs.declared.start.Start.TheVariants.{Asking}
use Rattle.sip_message.specs.declared.via.Via.{Via}
use Rattle.sip_message.specs.Contact.{contacts_of, contact_need}
use Rattle.sip_message.specs.CSeq.{max_cseq}
use Rattle.sip_message.specs.CallId.{is_call_id}
use Rattle.sip_message.specs.Grammar.{SaysContact, SaysType}
use Rattle.sip_message.specs.Lines.{is_clean}
use Rattle.sip_message.specs.Lookup.{named, is_named, values_named}
use Rattle.sip_message.specs.Party.{has_tag}
use Rattle.sip_message.specs.Repeatable.{IsValue}
use Rattle.sip_message.specs.ContentLength.{max_content_length}
use Rattle.sip_message.specs.Via.{via_of}
use Rattle.sip_message.specs.Written.{is_written}
use Rattle.sip_writing.specs.declared.requests.Draft.{Draft}
use Rattle.sip_writing.specs.Reply.{tag_param, via_headers}

-- ---- its Via

-- a branch begins with the cookie (section 8.1.1.7)
abbrev pub branch_text : List ℕ → List ℕ
branch_text token = codes "z9hG4bK" ++ token

-- SIP/2.0/UDP ADDRESS:PORT;branch=z9hG4bKTOKEN
unfoldable pub server_via : Addr → List ℕ → Via
server_via server token = record {
  sent_by = ip4_text server.ip ++ led_by 58 (Some (decimal server.port));
  host = Ip4 server.ip;
  port = Some server.port;
  params = record { name = codes "branch"; value = Some (branch_text token) } ∷ [];
}

-- ---- From and To

-- an absent tag is left out
abbrev pub tag_params : List ℕ → List Param
tag_params tag = if length tag == 0 then [] else tag_param tag ∷ []

-- display and URI, and only this tag
abbrev pub name_with_tag : Option (List ℕ) → Uri → List ℕ → NameAddr
name_with_tag display uri tag = record { display = display; uri = uri; params = tag_params tag }

abbrev pub tagged : NameAddr → List ℕ → NameAddr
tagged name tag = name_with_tag name.display name.uri tag

-- ---- the whole

abbrev pub cseq_text : ℕ → List ℕ → List ℕ
cseq_text number method = decimal number ++ 32 ∷ method

-- one Via, and these names in From and To
abbrev pub parts_with_names : Via → NameAddr → NameAddr → List ℕ → ℕ → List ℕ → Parts
parts_with_names via from to call_id number method = record {
  vias = via ∷ [];
  from = from;
  to = to;
  call_id = call_id;
  cseq = record { number = number; method = method };
  from_text = name_addr_text from;
  to_text = name_addr_text to;
  cseq_text = cseq_text number method;
}

unfoldable pub parts_of : Draft → Parts
parts_of d = parts_with_names d.via.now d.from.now d.to.now d.call_id.now d.number d.method.now

-- each on a line of its own
unfoldable pub headers_with : ℕ → Parts → List Header
headers_with hops parts =
    via_headers parts.vias
    ++ named (codes "Max-Forwards") (decimal hops) ∷ []
    ++ named (codes "From") parts.from_text ∷ []
    ++ named (codes "To") parts.to_text ∷ []
    ++ named (codes "Call-ID") parts.call_id ∷ []
    ++ named (codes "CSeq") parts.cseq_text ∷ []

-- the further header fields come after those that each request has
abbrev pub request_with : List ℕ → Uri → Parts → ℕ → List Header → List ℕ → Request
request_with method uri parts hops further body = record {
  method = method;
  uri = uri;
  parts = parts;
  max_forwards = hops;
  headers = headers_with hops parts ++ further;
  body = body;
}

unfoldable pub request_of : Draft → Request
request_of d = request_with d.method.now d.uri.now (parts_of d) d.max_forwards d.further.now d.body.now

-- ---- what is written and read again

-- a Via that a clean text contains
pub record IsReadVia (via : Via) : Type 0 where
  pub text : List ℕ
  pub clean : IsTrue (is_clean text)
  pub reads : via_of text ≡ Some via

-- a name whose display and URI were read from a clean text, with any parameters
pub record IsReadName (name : NameAddr) : Type 0 where
  pub text : List ℕ
  pub params : List Param
  pub reads : ReadsNameAddr text (record { display = name.display; uri = name.uri; params = params })
  pub clean : IsTrue (is_clean text)

-- such a name with a tag that is a token, or with none
pub record IsEnd (name : NameAddr) : Type 0 where
  pub read : IsReadName name
  pub tag : List ℕ
  pub token : IsTrue (list_all is_token_byte tag)
  pub tagged : name.params ≡ tag_params tag

-- a header field that is none of those that each request has
abbrev pub is_further : Header → Bool
is_further h =
    not (is_named (codes "Via") h) && not (is_named (codes "Max-Forwards") h) && not (is_named (codes "From") h) && not (is_named (codes "To") h)
    && not (is_named (codes "Call-ID") h) && not (is_named (codes "CSeq") h) && not (is_named (codes "Content-Length") h)

-- each of its values was read from a message, or is a token or a well-formed number
pub record IsSound (d : Draft) : Type 0 where
  pub method : IsTrue (is_run_of is_token_byte d.method.now)
  pub uri_text : List ℕ
  pub uri : ReadsUri uri_text d.uri.now
  pub via : IsReadVia d.via.now
  pub from : IsEnd d.from.now
  pub from_tag : IsTrue (has_tag d.from.now.params)
  pub to : IsEnd d.to.now
  pub call_id : IsTrue (is_call_id d.call_id.now)
  pub call_id_value : IsValue d.call_id.now
  pub number : d.number ≤ max_cseq
  pub further_written : IsTrue (list_all is_written d.further.now)
  pub further : IsTrue (list_all is_further d.further.now)
  -- an INVITE needs a Contact (section 8.1.1.8)
  pub contact : SaysContact (contact_need (Asking (record { method = d.method.now; uri = d.uri.now })) d.method.now) (contacts_of d.further.now)
  pub content_type : SaysType (values_named (codes "Content-Type") d.further.now)
  pub body : length d.body.now ≤ max_content_length

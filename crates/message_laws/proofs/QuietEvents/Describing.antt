-- What a trace sees in a body of the server's own.
use Rattle.std.proofs.Common.{◌≡◌, ◌↔◌, ◌∙◌, ℕ, Bool, true, false, cond, ◌&&◌, List, [], ◌∷◌, ◌++◌, codes, Some, None, refl, ap}
use Rattle.std.specs.Prelude.{IsTrue, decimal}
use Rattle.std.specs.List.{list_all}
use Rattle.sip_uri.specs.declared.uri.Addr.{Addr}
use Rattle.sip_message.specs.declared.headers.Header.{Header}
use Rattle.sip_message.specs.declared.message.Message.{Message}
use Rattle.sip_message.specs.declared.message.Parts.{Parts}
use Rattle.sip_message.specs.declared.via.Via.{Via}
use Rattle.sip_message.specs.Contact.{headers_in}
use Rattle.sip_message.specs.Content.{is_description_type, is_uncoded, is_uncoded_by}
use Rattle.sip_message.specs.Lookup.{named, values_named}
use Rattle.sip_message.specs.Words.{content_type_of}
use Rattle.sip_writing.specs.Reply.{reply_headers, via_headers}
use Rattle.sip_writing.specs.Requests.{headers_with}
use Rattle.sdp.specs.declared.description.Description.{Description}
use Rattle.sdp.specs.Lines.{lines_of}
use Rattle.sdp.specs.Order.{is_ordered}
use Rattle.sdp.specs.Grammar.{ReadsDescription}
use Rattle.sdp.specs.Reading.{description_of}
use Rattle.call_messages.specs.Messages.{description_headers}
use Rattle.trace_reading.specs.Body.{description_in, if_read, may_describe}
use Rattle.trace_reading.specs.Message.{body_in, trace_message}

-- the law of bodies, that a trace has a description exactly where it is in the body
abbrev pub BodiesDescribe : Type 0
BodiesDescribe = (bytes : List ℕ) (m : Message) (d : Description) → (trace_message bytes m).description ≡ Some d ↔ (IsTrue (may_describe (headers_in m)) × ReadsDescription (body_in m) d)

-- ---- no body

nothing_read : if_read (description_of []) ≡ None
unfolding description_of is_ordered lines_of
nothing_read = refl

pub no_description : (headers : List Header) → description_in headers [] ≡ None
unfolding description_in
no_description headers = step (may_describe headers)
  where
    step : (b : Bool) → cond b (if_read (description_of [])) None ≡ None
    step true = nothing_read
    step false = refl

-- ---- header fields in front of these say nothing of the body

-- a Content-Type of descriptions, and no coding
describes_by : (headers : List Header) → content_type_of headers ≡ Some (codes "application/sdp") → values_named (codes "Content-Encoding") headers ≡ [] → may_describe headers ≡ true
unfolding may_describe
describes_by headers type codings =
    ap (λ range. is_description_type range && is_uncoded headers) type ∙ ap (λ values. is_description_type (Some (codes "application/sdp")) && list_all is_uncoded_by values) codings

abbrev request_fields : ℕ → Parts → List Via → List Header
request_fields hops parts vias =
    via_headers vias
    ++ named (codes "Max-Forwards") (decimal hops) ∷ []
    ++ named (codes "From") parts.from_text ∷ []
    ++ named (codes "To") parts.to_text ∷ []
    ++ named (codes "Call-ID") parts.call_id ∷ []
    ++ named (codes "CSeq") parts.cseq_text ∷ []

request_type : (hops : ℕ) (parts : Parts) (server : Addr) (vias : List Via) → content_type_of (request_fields hops parts vias ++ description_headers server) ≡ Some (codes "application/sdp")
request_type hops parts server [] = refl
request_type hops parts server (via ∷ vias) = request_type hops parts server vias

request_codings : (hops : ℕ) (parts : Parts) (server : Addr) (vias : List Via) → values_named (codes "Content-Encoding") (request_fields hops parts vias ++ description_headers server) ≡ []
request_codings hops parts server [] = refl
request_codings hops parts server (via ∷ vias) = request_codings hops parts server vias

pub request_describes : (hops : ℕ) (parts : Parts) (server : Addr) → may_describe (headers_with hops parts ++ description_headers server) ≡ true
unfolding headers_with
request_describes hops parts server =
    describes_by (headers_with hops parts ++ description_headers server) (request_type hops parts server parts.vias) (request_codings hops parts server parts.vias)

abbrev response_fields : Parts → List Via → List Header
response_fields parts vias =
    via_headers vias
    ++ named (codes "From") parts.from_text ∷ []
    ++ named (codes "To") parts.to_text ∷ []
    ++ named (codes "Call-ID") parts.call_id ∷ []
    ++ named (codes "CSeq") parts.cseq_text ∷ []

response_type : (parts : Parts) (server : Addr) (vias : List Via) → content_type_of (response_fields parts vias ++ description_headers server) ≡ Some (codes "application/sdp")
response_type parts server [] = refl
response_type parts server (via ∷ vias) = response_type parts server vias

response_codings : (parts : Parts) (server : Addr) (vias : List Via) → values_named (codes "Content-Encoding") (response_fields parts vias ++ description_headers server) ≡ []
response_codings parts server [] = refl
response_codings parts server (via ∷ vias) = response_codings parts server vias

pub response_describes : (parts : Parts) (server : Addr) → may_describe (reply_headers parts ++ description_headers server) ≡ true
unfolding reply_headers
response_describes parts server = describes_by (reply_headers parts ++ description_headers server) (response_type parts server parts.vias) (response_codings parts server parts.vias)

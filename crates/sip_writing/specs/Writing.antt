-- The text that is written for a message (RFC 3261 sections 7.1 to 7.4).
use Rattle.std.specs.Prelude.{ℕ, List, [], ◌∷◌, ◌++◌, length, codes, decimal}
use Rattle.std.specs.List.{flat_map}
use Rattle.sip_uri.specs.Writing.{uri_text}
use Rattle.sip_message.specs.declared.headers.Header.{Header}
use Rattle.sip_message.specs.declared.message.Message.{Message}
use Rattle.sip_message.specs.declared.message.Message.TheVariants as Kinds
use Rattle.sip_message.specs.declared.message.Request.{Request}
use Rattle.sip_message.specs.declared.message.Response.{Response}

-- METHOD URI SIP/2.0
abbrev pub request_line : Request → List ℕ
request_line r = r.method ++ 32 ∷ [] ++ uri_text r.uri ++ codes " SIP/2.0\r\n"

-- SIP/2.0 STATUS REASON
abbrev pub status_line : Response → List ℕ
status_line r = codes "SIP/2.0 " ++ decimal r.status ++ 32 ∷ [] ++ r.reason ++ codes "\r\n"

abbrev pub header_text : Header → List ℕ
header_text h = h.name ++ codes ": " ++ h.value ++ 13 ∷ 10 ∷ []

abbrev pub headers_text : List Header → List ℕ
headers_text headers = flat_map header_text headers

-- Content-Length is the last header field, and an empty line ends the header
abbrev pub length_text : List ℕ → List ℕ
length_text body = codes "Content-Length: " ++ decimal (length body) ++ codes "\r\n\r\n"

unfoldable pub message_text : Message → List ℕ
message_text (Kinds.Request r) = request_line r ++ headers_text r.headers ++ length_text r.body ++ r.body
message_text (Kinds.Response r) = status_line r ++ headers_text r.headers ++ length_text r.body ++ r.body

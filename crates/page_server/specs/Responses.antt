-- The responses (RFC 9110, RFC 9112 section 4).
use Rattle.std.specs.Prelude.{ℕ, List, [], ◌++◌, length, codes, decimal}
use Rattle.page_server.specs.declared.path.Path.{Path}
use Rattle.page_server.specs.declared.path.Path.TheVariants.{Page, Json, Metrics}
use Rattle.page_server.specs.declared.refusal.Refusal.{Refusal}
use Rattle.page_server.specs.declared.refusal.Refusal.TheVariants.{BadRequest, NotFound, MethodNotAllowed, RequestTimeout, HeadTooLarge, ServiceUnavailable}

-- the line of Content-Type
unfoldable pub kind_of_page : Path → List ℕ
kind_of_page Page = codes "Content-Type: text/html; charset=utf-8\r\n"
kind_of_page Json = codes "Content-Type: application/json\r\n"
kind_of_page Metrics = codes "Content-Type: text/plain; version=0.0.4\r\n"

unfoldable pub kind_of_refusals : List ℕ
kind_of_refusals = codes "Content-Type: text/plain; charset=utf-8\r\n"

abbrev pub status_of : Refusal → List ℕ
status_of BadRequest = codes "400 Bad Request"
status_of NotFound = codes "404 Not Found"
status_of MethodNotAllowed = codes "405 Method Not Allowed"
status_of RequestTimeout = codes "408 Request Timeout"
status_of HeadTooLarge = codes "431 Request Header Fields Too Large"
status_of ServiceUnavailable = codes "503 Service Unavailable"

-- the methods, if another one was used
abbrev pub allow_of : Refusal → List ℕ
allow_of MethodNotAllowed = codes "Allow: GET\r\n"
allow_of BadRequest = []
allow_of NotFound = []
allow_of RequestTimeout = []
allow_of HeadTooLarge = []
allow_of ServiceUnavailable = []

-- the last response of its connection, which is not to be cached, and which a browser treats as nothing but its
-- declared type
abbrev pub fixed_fields : List ℕ
fixed_fields = codes "Connection: close\r\nCache-Control: no-store\r\nX-Content-Type-Options: nosniff\r\nContent-Security-Policy: default-src 'none'; style-src 'unsafe-inline'\r\n"

unfoldable pub opening_text : List ℕ → List ℕ → List ℕ
opening_text status further = codes "HTTP/1.1 " ++ status ++ codes "\r\n" ++ fixed_fields ++ further

-- the length of the content, the empty line after the head, and the content
unfoldable pub content_text : List ℕ → List ℕ
content_text body = codes "Content-Length: " ++ decimal (length body) ++ codes "\r\n\r\n" ++ body

unfoldable pub page_text : Path → List ℕ → List ℕ
page_text path body = opening_text (codes "200 OK") [] ++ kind_of_page path ++ content_text body

-- it has no content, so that it may also answer HEAD
unfoldable pub refusal_text : Refusal → List ℕ
refusal_text refusal = opening_text (status_of refusal) (allow_of refusal) ++ kind_of_refusals ++ content_text []

-- a response, and how many of its bytes were sent
pub record Sending : Type 0 where
  pub text : List ℕ
  pub sent : ℕ

abbrev pub unsent : List ℕ → Sending
unsent text = record { text = text; sent = 0 }

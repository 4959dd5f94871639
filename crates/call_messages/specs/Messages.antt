-- The messages of a call's legs (RFC 3261 sections 8, 12 to 15, RFC 3311).
use Rattle.std.specs.Prelude.{ℕ, ◌-◌, nat_lt, List, [], ◌∷◌, ◌++◌, codes, decimal, Option, Some, None, if◌then◌else◌}
use Rattle.sip_uri.specs.declared.uri.Addr.{Addr}
use Rattle.sip_uri.specs.declared.uri.Uri.{Uri}
use Rattle.sip_uri.specs.Writing.{ip4_text}
use Rattle.sip_message.specs.declared.headers.Header.{Header}
use Rattle.sip_message.specs.declared.message.Parts.{Parts}
use Rattle.sip_message.specs.declared.message.Request.{Request}
use Rattle.sip_message.specs.declared.message.Response.{Response}
use Rattle.sip_message.specs.declared.via.Via.{Via}
use Rattle.sip_message.specs.Lookup.{named}
use Rattle.sip_message.specs.Hops.{usual_hops}
use Rattle.sip_message.specs.Words.{is_method}
use Rattle.sip_writing.specs.Requests.{server_via}
use Rattle.sdp.specs.declared.description.Description.{Description}
use Rattle.sdp.specs.Writing.{description_text}
use Rattle.dialogs.specs.declared.method.Method.{Method}
use Rattle.dialogs.specs.declared.method.Method.TheVariants.{Bye}
use Rattle.dialogs.specs.declared.state.Dialog.{Dialog}
use Rattle.dialogs.specs.Counting.{following, max_for, last_number, method_text}
use Rattle.dialogs.specs.Making.{party_named}
use Rattle.dialogs.specs.Requests.{ack_text, request_in}
use Rattle.responses.specs.Responding.{responds}
use Rattle.call_messages.specs.declared.scene.Asker.{Asker}

-- ---- header fields

-- where the server is reached; the port is always written
abbrev pub contact : Addr → Header
contact server = named (codes "Contact") (codes "<sip:" ++ ip4_text server.ip ++ codes ":" ++ decimal server.port ++ codes ">")

abbrev pub content_type : Header
content_type = named (codes "Content-Type") (codes "application/sdp")

-- of a message with a description
abbrev pub description_headers : Addr → List Header
description_headers server = contact server ∷ content_type ∷ []

-- when a request that clashed with another may come again, in seconds (section 20.33)
abbrev pub retry_after : Header
retry_after = named (codes "Retry-After") (codes "5")

-- ---- responses

-- without a body
abbrev pub response_to : Asker → ℕ → List Header → Response
response_to a status further = responds a.parts.now a.source status a.tag.now further

-- it has no tag of the server's, whatever tag is given (section 8.2.6.2)
abbrev pub trying : Asker → Response
trying a = response_to a 100 []

-- it begins a dialog, so it says where the server is reached (section 12.1.1)
abbrev pub provisional : Addr → Asker → ℕ → Response
provisional server a status = response_to a status (contact server ∷ [])

abbrev pub with_body : List ℕ → Response → Response
with_body body response = record response { body = body }

abbrev pub answer : Addr → Asker → Description → Response
answer server a description = with_body (description_text description) (response_to a 200 (description_headers server))

-- neither Contact nor body
abbrev pub refusal : Asker → ℕ → Response
refusal a status = response_to a status []

-- an offer while the same end's last one is open (section 14.2)
abbrev pub retry_later : Asker → Response
retry_later a = response_to a 500 (retry_after ∷ [])

-- a 2xx to an UPDATE says where the server is reached (RFC 3311 section 5.2)
abbrev pub okay_headers : Addr → Asker → List Header
okay_headers server a = if is_method (codes "UPDATE") a.parts.now then contact server ∷ [] else []

abbrev pub okay : Addr → Asker → Response
okay server a = response_to a 200 (okay_headers server a)

-- ---- a new leg

-- a token at the server's address (section 8.1.1.4)
abbrev pub leg_call_id : Addr → List ℕ → List ℕ
leg_call_id server token = token ++ codes "@" ++ ip4_text server.ip

-- From and To are those of the caller's INVITE, each without its tag; nothing was sent in it, and nothing taken
unfoldable pub new_leg : Addr → Parts → Uri → List ℕ → List ℕ → Dialog
new_leg server caller target token tag = record {
  id = record { call_id = leg_call_id server token; ours = tag; theirs = [] };
  ours = party_named caller.from;
  theirs = party_named caller.to;
  target = target;
  local_number = None;
  remote_number = None;
}

-- ---- requests

-- the next request in a dialog, where a number is left
abbrev pub next_request : Dialog → Method → Via → ℕ → List Header → List ℕ → Option Request
next_request d method via hops further body =
    if nat_lt (last_number d) (max_for method) then Some (request_in d via (method_text method) (following d) hops further body) else None

-- a request that is passed on (section 16.6)
abbrev pub one_hop_less : ℕ → ℕ
one_hop_less hops = hops - 1

-- an offer that is passed on; in a new leg it is the first INVITE, with number 1
abbrev pub offer : Addr → Dialog → Method → ℕ → Description → List ℕ → Option Request
offer server d method hops description token =
    next_request d method (server_via server token) (one_hop_less hops) (description_headers server) (description_text description)

-- the ACK of the 2xx to the last INVITE has its number (section 13.2.2.4)
abbrev pub ack : Addr → Dialog → List ℕ → Request
ack server d token = request_in d (server_via server token) ack_text (last_number d) usual_hops [] []

abbrev pub bye : Addr → Dialog → List ℕ → Option Request
bye server d token = next_request d Bye (server_via server token) usual_hops [] []

-- What a trace sees of each message that the server makes.
use Rattle.std.proofs.Common.{◌≡◌, ◌∙◌, ℕ, Bool, true, false, cond, List, [], ◌∷◌, codes, nat_lt, Option, Some, None, refl, ap, subst}
use Rattle.std.specs.Prelude.{unwrap_or}
use Rattle.sip_uri.specs.declared.uri.Addr.{Addr}
use Rattle.sip_uri.specs.declared.uri.Param.{Param}
use Rattle.sip_uri.specs.declared.uri.Uri.{Uri}
use Rattle.sip_uri.specs.declared.uri.NameAddr.{NameAddr}
use Rattle.sip_message.specs.declared.headers.Header.{Header}
use Rattle.sip_message.specs.declared.message.Message.TheVariants as Kinds
use Rattle.sip_message.specs.declared.message.Parts.{Parts}
use Rattle.sip_message.specs.declared.message.Request.{Request}
use Rattle.sip_message.specs.declared.via.Via.{Via}
use Rattle.sip_message.specs.Words.{tag_text, value_found}
use Rattle.sip_writing.specs.Reply.{replied, reply_of}
use Rattle.sip_writing.specs.Requests.{server_via}
use Rattle.sdp.specs.declared.description.Description.{Description}
use Rattle.sdp.specs.Grammar.{ReadsDescription}
use Rattle.sdp.specs.Writing.{description_text}
use Rattle.dialogs.specs.declared.method.Method.{Method}
use Rattle.dialogs.specs.declared.method.Method.TheVariants.{Bye}
use Rattle.dialogs.specs.declared.state.Dialog.{Dialog}
use Rattle.dialogs.specs.Counting.{following, max_for, last_number, method_text}
use Rattle.dialogs.specs.Requests.{ack_text, parts_in, request_in}
use Rattle.transaction_machines.specs.declared.state.State.{State}
use Rattle.transaction_machines.specs.declared.state.State.TheVariants as machine
use Rattle.transactions.specs.declared.transaction.Transaction.{Transaction}
use Rattle.transactions.specs.SameBranch.{ack_of, ack_to, ack_with, cancel_by, cancel_of, cancel_with, parts_like, request_like}
use Rattle.responses.specs.Responding.{responds}
use Rattle.call_messages.specs.declared.scene.Asker.{Asker}
use Rattle.call_messages.specs.Messages.{ack, answer, bye, description_headers, next_request, offer, with_body}
use Rattle.trace_reading.specs.Message.{trace_message}
use Rattle.message_laws.specs.Seeing.{SeesLike, SeesRequest, SeesResponse}
use Rattle.message_laws.proofs.QuietEvents.Describing.{BodiesDescribe, no_description, request_describes, response_describes}
use Rattle.message_laws.proofs.QuietEvents.Dressings.{tag_said}
use Rattle.message_laws.proofs.QuietEvents.Marking.{branch_kept, to_kept}

-- ---- a request in a dialog

request_sees : (bytes : List ℕ) (server : Addr) (d : Dialog) (token method : List ℕ) (number hops : ℕ) (further : List Header) (body : List ℕ) (description : Option Description)
    → (trace_message bytes (Kinds.Request (request_in d (server_via server token) method number hops further body))).description ≡ description
    → SeesRequest d token number method description (trace_message bytes (Kinds.Request (request_in d (server_via server token) method number hops further body)))
unfolding trace_message request_in parts_in server_via
request_sees bytes server d token method number hops further body description said = record {
  kind = refl;
  branch = refl;
  call_id = refl;
  from_tag = tag_said d.id.ours;
  to_tag = tag_said d.id.theirs;
  number = refl;
  method = refl;
  description = said;
}

request_silent : (bytes : List ℕ) (d : Dialog) (via : Via) (method : List ℕ) (number hops : ℕ) (further : List Header)
    → (trace_message bytes (Kinds.Request (request_in d via method number hops further []))).description ≡ None
unfolding trace_message request_in
request_silent bytes d via method number hops further = no_description _

pub request_says : BodiesDescribe → (bytes : List ℕ) (server : Addr) (d : Dialog) (via : Via) (method : List ℕ) (number hops : ℕ) (description : Description) → ReadsDescription (description_text description) description
    → (trace_message bytes (Kinds.Request (request_in d via method number hops (description_headers server) (description_text description)))).description ≡ Some description
unfolding request_in
request_says describes bytes server d via method number hops description reads =
    (describes bytes (Kinds.Request (request_in d via method number hops (description_headers server) (description_text description))) description).1 (request_describes hops (parts_in d via method number) server, reads)

-- a request that there is, where a number is left
next_is : (d : Dialog) (method : Method) (via : Via) (hops : ℕ) (further : List Header) (body : List ℕ) (request : Request) → next_request d method via hops further body ≡ Some request
    → request_in d via (method_text method) (following d) hops further body ≡ request
next_is d method via hops further body request h = step (nat_lt (last_number d) (max_for method)) h
  where
    step : (b : Bool) → cond b (Some (request_in d via (method_text method) (following d) hops further body)) None ≡ Some request → request_in d via (method_text method) (following d) hops further body ≡ request
    step true e = cc
    step false e = absurd cc

pub offer_sees : BodiesDescribe → (bytes : List ℕ) (server : Addr) (d : Dialog) (method : Method) (hops : ℕ) (description : Description) (token : List ℕ) (request : Request)
    → ReadsDescription (description_text description) description → offer server d method hops description token ≡ Some request
    → SeesRequest d token (following d) (method_text method) (Some description) (trace_message bytes (Kinds.Request request))
offer_sees describes bytes server d method hops description token request reads h =
    subst (λ r. SeesRequest d token (following d) (method_text method) (Some description) (trace_message bytes (Kinds.Request r)))
    (next_is d method (server_via server token) _ (description_headers server) (description_text description) request h)
    (
    request_sees bytes server d token (method_text method) (following d) _ (description_headers server) (description_text description) (Some description)
    (request_says describes bytes server d (server_via server token) (method_text method) (following d) _ description reads)
    )

pub ack_sees : (bytes : List ℕ) (server : Addr) (d : Dialog) (token : List ℕ) → SeesRequest d token (last_number d) ack_text None (trace_message bytes (Kinds.Request (ack server d token)))
ack_sees bytes server d token =
    request_sees bytes server d token ack_text (last_number d) 70 [] [] None (request_silent bytes d (server_via server token) ack_text (last_number d) 70 [])

pub bye_sees : (bytes : List ℕ) (server : Addr) (d : Dialog) (token : List ℕ) (request : Request) → bye server d token ≡ Some request
    → SeesRequest d token (following d) (method_text Bye) None (trace_message bytes (Kinds.Request request))
bye_sees bytes server d token request h =
    subst (λ r. SeesRequest d token (following d) (method_text Bye) None (trace_message bytes (Kinds.Request r))) (next_is d Bye (server_via server token) 70 [] [] request h)
    (request_sees bytes server d token (method_text Bye) (following d) 70 [] [] None (request_silent bytes d (server_via server token) (method_text Bye) (following d) 70 []))

-- ---- a request with the branch of an INVITE

like_sees : (bytes : List ℕ) (uri : Uri) (via : Via) (vias : List Via) (invite : Parts) (to : NameAddr) (method : List ℕ) → invite.vias ≡ via ∷ vias
    → SeesLike invite to method (trace_message bytes (Kinds.Request (request_like uri via invite to method)))
unfolding trace_message request_like parts_like
like_sees bytes uri via vias invite to method top = record {
  kind = refl;
  branch = rw top refl;
  call_id = refl;
  from_tag = refl;
  to_tag = refl;
  number = refl;
  method = refl;
  description = no_description _;
}

cancel_with_sees : (bytes : List ℕ) (uri : Uri) (invite : Parts) (vias : List Via) (request : Request) → invite.vias ≡ vias → cancel_with uri invite vias ≡ Some request
    → SeesLike invite invite.to (codes "CANCEL") (trace_message bytes (Kinds.Request request))
cancel_with_sees bytes uri invite [] request top h = absurd cc
cancel_with_sees bytes uri invite (via ∷ vias) request top h =
    let e : request_like uri via invite invite.to (codes "CANCEL") ≡ request = cc in
    subst (λ r. SeesLike invite invite.to (codes "CANCEL") (trace_message bytes (Kinds.Request r))) e (like_sees bytes uri via vias invite invite.to (codes "CANCEL") top)

cancel_by_sees : (bytes : List ℕ) (state : State) (uri : Uri) (invite : Parts) (request : Request) → cancel_by state uri invite ≡ Some request
    → SeesLike invite invite.to (codes "CANCEL") (trace_message bytes (Kinds.Request request))
cancel_by_sees bytes (machine.InviteClient state) uri invite request h = cancel_with_sees bytes uri invite invite.vias request refl h
cancel_by_sees bytes (machine.InviteServer state) uri invite request h = absurd cc
cancel_by_sees bytes (machine.OtherClient state) uri invite request h = absurd cc
cancel_by_sees bytes (machine.OtherServer state) uri invite request h = absurd cc

pub cancel_sees : (bytes : List ℕ) (t : Transaction) (request : Request) → cancel_of t ≡ Some request → SeesLike t.parts t.parts.to (codes "CANCEL") (trace_message bytes (Kinds.Request request))
cancel_sees bytes t request h = cancel_by_sees bytes t.state t.uri t.parts request h

ack_with_sees : (bytes : List ℕ) (uri : Uri) (invite answer : Parts) (vias : List Via) (request : Request) → invite.vias ≡ vias → ack_with uri invite answer vias ≡ Some request
    → SeesLike invite (ack_to answer.to) ack_text (trace_message bytes (Kinds.Request request))
ack_with_sees bytes uri invite answer [] request top h = absurd cc
ack_with_sees bytes uri invite answer (via ∷ vias) request top h =
    let e : request_like uri via invite (ack_to answer.to) (codes "ACK") ≡ request = cc in
    subst (λ r. SeesLike invite (ack_to answer.to) ack_text (trace_message bytes (Kinds.Request r))) e (like_sees bytes uri via vias invite (ack_to answer.to) ack_text top)

-- the tag of its To is the response's
tag_like : (invite : Parts) (to : NameAddr) (method : List ℕ) (m : _) → SeesLike invite (ack_to to) method m → SeesLike invite to method m
tag_like invite to method m h = record {
  kind = h.kind;
  branch = h.branch;
  call_id = h.call_id;
  from_tag = h.from_tag;
  to_tag = h.to_tag ∙ tag_said (tag_text to.params);
  number = h.number;
  method = h.method;
  description = h.description;
}

pub refused_sees : (bytes : List ℕ) (uri : Uri) (invite answer : Parts) (request : Request) → ack_of uri invite answer ≡ Some request
    → SeesLike invite answer.to ack_text (trace_message bytes (Kinds.Request request))
refused_sees bytes uri invite answer request h = tag_like invite answer.to ack_text _ (ack_with_sees bytes uri invite answer invite.vias request refl h)

-- ---- responses

response_as : (bytes : List ℕ) (parts : Parts) (source : Addr) (status : ℕ) (tag : List ℕ) (further : List Header) (body : List ℕ) (description : Option Description)
    → (trace_message bytes (Kinds.Response (with_body body (responds parts source status tag further)))).description ≡ description
    → SeesResponse parts status tag description (trace_message bytes (Kinds.Response (with_body body (responds parts source status tag further))))
unfolding trace_message responds reply_of replied
response_as bytes parts source status tag further body description said = record {
  kind = refl;
  branch = branch_kept parts source status tag;
  call_id = refl;
  from_tag = refl;
  to_tag = ap (λ (o : Option Param). unwrap_or (value_found o) []) (to_kept parts source status tag);
  number = refl;
  method = refl;
  description = said;
}

response_silent : (bytes : List ℕ) (parts : Parts) (source : Addr) (status : ℕ) (tag : List ℕ) (further : List Header)
    → (trace_message bytes (Kinds.Response (with_body [] (responds parts source status tag further)))).description ≡ None
unfolding trace_message responds reply_of
response_silent bytes parts source status tag further = no_description _

no_body : (parts : Parts) (source : Addr) (status : ℕ) (tag : List ℕ) (further : List Header) → with_body [] (responds parts source status tag further) ≡ responds parts source status tag further
unfolding responds reply_of
no_body parts source status tag further = refl

-- any response without a body
pub response_sees : (bytes : List ℕ) (parts : Parts) (source : Addr) (status : ℕ) (tag : List ℕ) (further : List Header)
    → SeesResponse parts status tag None (trace_message bytes (Kinds.Response (responds parts source status tag further)))
response_sees bytes parts source status tag further =
    subst (λ r. SeesResponse parts status tag None (trace_message bytes (Kinds.Response r))) (no_body parts source status tag further)
    (response_as bytes parts source status tag further [] None (response_silent bytes parts source status tag further))

pub answer_says : BodiesDescribe → (bytes : List ℕ) (parts : Parts) (source server : Addr) (status : ℕ) (tag : List ℕ) (description : Description) → ReadsDescription (description_text description) description
    → (trace_message bytes (Kinds.Response (with_body (description_text description) (responds parts source status tag (description_headers server))))).description ≡ Some description
unfolding responds reply_of
answer_says describes bytes parts source server status tag description reads =
    (describes bytes (Kinds.Response (with_body (description_text description) (responds parts source status tag (description_headers server)))) description).1 (response_describes (replied parts source status tag) server, reads)

pub answer_sees : BodiesDescribe → (bytes : List ℕ) (server : Addr) (a : Asker) (description : Description) → ReadsDescription (description_text description) description
    → SeesResponse a.parts.now 200 a.tag.now (Some description) (trace_message bytes (Kinds.Response (answer server a description)))
answer_sees describes bytes server a description reads =
    response_as bytes a.parts.now a.source 200 a.tag.now (description_headers server) (description_text description) (Some description)
    (answer_says describes bytes a.parts.now a.source server 200 a.tag.now description reads)

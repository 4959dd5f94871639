-- The requests that a call says in a sound dialog, and those with the branch of an INVITE, are of the form that is
-- written and read again.
use Rattle.std.proofs.Common.{◌≡◌, ℕ, ◌+◌, ◌-◌, ◌<◌, ◌≤◌, Bool, true, false, cond, List, [], ◌∷◌, codes, length, Some, None, refl, subst, arith}
use Rattle.std.specs.Prelude.{IsTrue, nat_lt}
use Rattle.std.proofs.lemmas.Bool.{ltb-true}
use Rattle.text.specs.Class.{is_run_of, is_token_byte}
use Rattle.sip_uri.specs.declared.uri.Addr.{Addr}
use Rattle.sip_uri.specs.declared.uri.NameAddr.{NameAddr}
use Rattle.sip_uri.specs.declared.uri.Uri.{Uri}
use Rattle.sip_message.specs.declared.headers.Header.{Header}
use Rattle.sip_message.specs.declared.message.Message.TheVariants as Kinds
use Rattle.sip_message.specs.declared.message.Parts.{Parts}
use Rattle.sip_message.specs.declared.message.Request.{Request}
use Rattle.sip_message.specs.declared.via.Via.{Via}
use Rattle.sip_message.specs.CSeq.{max_cseq}
use Rattle.sip_message.specs.ContentLength.{max_content_length}
use Rattle.sip_writing.specs.Requests.{server_via, IsEnd, IsReadVia}
use Rattle.sip_writing.specs.WritingMessage.{IsWrittenMessage}
use Rattle.sdp.specs.declared.description.Description.{Description}
use Rattle.sdp.specs.Writing.{description_text}
use Rattle.dialogs.specs.declared.method.Method.{Method}
use Rattle.dialogs.specs.declared.method.Method.TheVariants.{Bye, Invite, Update}
use Rattle.dialogs.specs.declared.state.Dialog.{Dialog}
use Rattle.dialogs.specs.Counting.{following, max_for, last_number, method_text}
use Rattle.dialogs.specs.Requests.{ack_text, request_in, MayHave}
use Rattle.dialogs.specs.Sound.{IsSound}
use Rattle.dialogs.proofs.DraftLaws.{request_stands}
use Rattle.transaction_machines.specs.declared.state.State.{State}
use Rattle.transaction_machines.specs.declared.state.State.TheVariants.{InviteClient, InviteServer, OtherClient, OtherServer}
use Rattle.transactions.specs.declared.transaction.Transaction.{Transaction}
use Rattle.transactions.specs.SameBranch.{ack_of, ack_to, ack_with, cancel_by, cancel_of, cancel_with, request_like, HasReadVia, IsSoundInvite}
use Rattle.call_messages.specs.Messages.{ack, bye, description_headers, next_request, offer}
use Rattle.message_laws.specs.Addresses.{IsReached}
use Rattle.message_laws.proofs.TokenUse.Drafts.{like_stands, via_stands}
use Rattle.message_laws.proofs.TokenUse.Further.{description_follows}

via_reads : (server : Addr) (token : List ℕ) → IsReached server → IsTrue (is_run_of is_token_byte token) → IsReadVia (server_via server token)
via_reads server token reached run = via_stands server token reached.source.octets reached.four reached.port reached.source.port run

-- ---- what each request has besides what its dialog says

-- with a description
description_may : (server : Addr) (d : Dialog) (via : Via) (method : List ℕ) (number : ℕ) (body : List ℕ) → IsReached server → IsReadVia via → number ≤ max_cseq → length body ≤ max_content_length
    → MayHave d via method number (description_headers server) body
description_may server d via method number body reached reads low small =
    let follows = description_follows server 200 method reached in
    record { low = low; read_via = reads; all_written = follows.written; all_further = refl; contact = follows.says_contact; content_type = follows.says_type; small = small }

-- without one
bye_may : (d : Dialog) (via : Via) (number : ℕ) → IsReadVia via → number ≤ max_cseq → MayHave d via (codes "BYE") number [] []
bye_may d via number reads low = record { low = low; read_via = reads; all_written = refl; all_further = refl; contact = tt; content_type = tt; small = omega arith }

ack_may : (d : Dialog) (via : Via) (number : ℕ) → IsReadVia via → number ≤ max_cseq → MayHave d via ack_text number [] []
ack_may d via number reads low = record { low = low; read_via = reads; all_written = refl; all_further = refl; contact = tt; content_type = tt; small = omega arith }

-- ---- the next request

method_run : (method : Method) → is_run_of is_token_byte (method_text method) ≡ true
method_run Invite = refl
method_run Update = refl
method_run Bye = refl

number_low : (last : ℕ) (method : Method) → last < max_for method → last + 1 ≤ max_cseq
number_low last Invite lt = omega (arith, lt)
number_low last Update lt = omega (arith, lt)
number_low last Bye lt = omega (arith, lt)

next_stands : (d : Dialog) (method : Method) (via : Via) (hops : ℕ) (further : List Header) (body : List ℕ) (request : Request) → hops ≤ 255 → IsSound d
    → (following d ≤ max_cseq → MayHave d via (method_text method) (following d) further body) → next_request d method via hops further body ≡ Some request
    → IsWrittenMessage (Kinds.Request request)
next_stands d method via hops further body request low sound has is = step (nat_lt (last_number d) (max_for method)) refl is where
  step : (b : Bool) → nat_lt (last_number d) (max_for method) ≡ b → cond b (Some (request_in d via (method_text method) (following d) hops further body)) None ≡ Some request
      → IsWrittenMessage (Kinds.Request request)
  step true e k =
      let same : request_in d via (method_text method) (following d) hops further body ≡ request = cc in
      let number = number_low (last_number d) method (ltb-true (last_number d) (max_for method) e) in
      subst (λ (r : Request). IsWrittenMessage (Kinds.Request r)) same (request_stands d via (method_text method) (following d) hops further body low (method_run method) sound (has number))
  step false e k = absurd cc

-- ---- the requests that a call says

pub offer_stands : (server : Addr) (d : Dialog) (method : Method) (hops : ℕ) (description : Description) (token : List ℕ) (request : Request) → IsReached server → IsSound d
    → IsTrue (is_run_of is_token_byte token) → hops ≤ 255 → length (description_text description) ≤ max_content_length → offer server d method hops description token ≡ Some request
    → IsWrittenMessage (Kinds.Request request)
offer_stands server d method hops description token request reached sound run low small is =
    next_stands d method (server_via server token) (hops - 1) (description_headers server) (description_text description) request (omega (arith, low)) sound
    (λ number. description_may server d (server_via server token) (method_text method) (following d) (description_text description) reached (via_reads server token reached run) number small) is

pub ack_stands : (server : Addr) (d : Dialog) (token : List ℕ) → IsReached server → IsSound d → IsTrue (is_run_of is_token_byte token) → last_number d ≤ max_cseq
    → IsWrittenMessage (Kinds.Request (ack server d token))
ack_stands server d token reached sound run number =
    request_stands d (server_via server token) ack_text (last_number d) 70 [] [] (omega arith) refl sound (ack_may d (server_via server token) (last_number d) (via_reads server token reached run) number)

pub bye_stands : (server : Addr) (d : Dialog) (token : List ℕ) (request : Request) → IsReached server → IsSound d → IsTrue (is_run_of is_token_byte token) → bye server d token ≡ Some request
    → IsWrittenMessage (Kinds.Request request)
bye_stands server d token request reached sound run is =
    next_stands d Bye (server_via server token) 70 [] [] request (omega arith) sound (λ number. bye_may d (server_via server token) (following d) (via_reads server token reached run) number) is

-- ---- with the branch of an INVITE

like_read : (uri : Uri) (via : Via) (invite : Parts) (to : NameAddr) (method : List ℕ) (request : Request) → IsWrittenMessage (Kinds.Request (request_like uri via invite to method))
    → Some (request_like uri via invite to method) ≡ Some request → IsWrittenMessage (Kinds.Request request)
like_read uri via invite to method request stands is =
    let same : request_like uri via invite to method ≡ request = cc in
    subst (λ (r : Request). IsWrittenMessage (Kinds.Request r)) same stands

cancel_with_stands : (uri : Uri) (invite : Parts) (vias : List Via) (request : Request) → IsSoundInvite uri invite → HasReadVia vias → IsEnd invite.to → cancel_with uri invite vias ≡ Some request
    → IsWrittenMessage (Kinds.Request request)
cancel_with_stands uri invite [] request sound reads end is = absurd cc
cancel_with_stands uri invite (via ∷ vias) request sound reads end is =
    like_read uri via invite invite.to (codes "CANCEL") request (like_stands uri via invite invite.to (codes "CANCEL") refl tt sound reads end) is

cancel_by_stands : (state : State) (uri : Uri) (invite : Parts) (request : Request) → IsSoundInvite uri invite → HasReadVia invite.vias → IsEnd invite.to → cancel_by state uri invite ≡ Some request
    → IsWrittenMessage (Kinds.Request request)
cancel_by_stands (InviteClient state) uri invite request sound reads end is = cancel_with_stands uri invite invite.vias request sound reads end is
cancel_by_stands (InviteServer state) uri invite request sound reads end is = absurd cc
cancel_by_stands (OtherClient state) uri invite request sound reads end is = absurd cc
cancel_by_stands (OtherServer state) uri invite request sound reads end is = absurd cc

pub cancel_stands : (t : Transaction) (request : Request) → IsSoundInvite t.uri t.parts → HasReadVia t.parts.vias → IsEnd t.parts.to → cancel_of t ≡ Some request
    → IsWrittenMessage (Kinds.Request request)
cancel_stands t request sound reads end is = cancel_by_stands t.state t.uri t.parts request sound reads end is

ack_with_stands : (uri : Uri) (invite answer : Parts) (vias : List Via) (request : Request) → IsSoundInvite uri invite → HasReadVia vias → IsEnd (ack_to answer.to)
    → ack_with uri invite answer vias ≡ Some request → IsWrittenMessage (Kinds.Request request)
ack_with_stands uri invite answer [] request sound reads end is = absurd cc
ack_with_stands uri invite answer (via ∷ vias) request sound reads end is =
    like_read uri via invite (ack_to answer.to) (codes "ACK") request (like_stands uri via invite (ack_to answer.to) (codes "ACK") refl tt sound reads end) is

pub refusal_ack_stands : (uri : Uri) (invite answer : Parts) (request : Request) → IsSoundInvite uri invite → HasReadVia invite.vias → IsEnd (ack_to answer.to)
    → ack_of uri invite answer ≡ Some request → IsWrittenMessage (Kinds.Request request)
refusal_ack_stands uri invite answer request sound reads end is = ack_with_stands uri invite answer invite.vias request sound reads end is

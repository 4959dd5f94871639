-- The dialog of a datagram, and the method of a message.
use Rattle.std.proofs.Common.{◌≡◌, ℕ, List, [], ◌∷◌, refl, ap}
use Rattle.std.specs.Cmp.Lexicographic.{bytes_decides}
use Rattle.sip_message.specs.declared.headers.Header.{Header}
use Rattle.sip_message.specs.declared.message.Message.{Message}
use Rattle.sip_message.specs.declared.message.Message.TheVariants as Kinds
use Rattle.sip_message.specs.declared.message.Request.{Request}
use Rattle.sip_message.specs.declared.message.Response.{Response}
use Rattle.sip_message.specs.declared.via.Via.{Via}
use Rattle.sip_message.specs.Grammar.{ReadsMessage}
use Rattle.sip_message.specs.Repeatable as repeatable
use Rattle.sip_message.specs.Words as messages
use Rattle.sip_message.specs.Words.{tag_text}
use Rattle.sip_writing.specs.Requests.{tag_params}
use Rattle.sip_writing.proofs.TagTrip.{not_empty}
use Rattle.dialogs.specs.declared.identifiers.DialogId.{DialogId}
use Rattle.dialogs.specs.declared.state.Dialog.{Dialog}
use Rattle.dialogs.specs.Identifiers.{id_of_request, id_of_response}
use Rattle.dialogs.specs.Requests.{parts_in, request_in}
use Rattle.call_trace.specs.Dialogs.{dialog_of}
use Rattle.call_trace.specs.Events.{taken_at, sent_at}
use Rattle.call_trace.specs.Messages as traces
use Rattle.trace_reading.specs.Message.{trace_message, dialog_named}

-- ---- dialogs

pub request_taken : (n : ℕ) (bytes : List ℕ) (request : Request) → dialog_of (taken_at n (trace_message bytes (Kinds.Request request))) ≡ dialog_named (id_of_request request.parts)
unfolding trace_message
request_taken n bytes request = refl

pub response_taken : (n : ℕ) (bytes : List ℕ) (response : Response) → dialog_of (taken_at n (trace_message bytes (Kinds.Response response))) ≡ dialog_named (id_of_response response.parts)
unfolding trace_message
response_taken n bytes response = refl

pub request_sent : (n : ℕ) (bytes : List ℕ) (request : Request) → dialog_of (sent_at n (trace_message bytes (Kinds.Request request))) ≡ dialog_named (id_of_response request.parts)
unfolding trace_message
request_sent n bytes request = refl

pub response_sent : (n : ℕ) (bytes : List ℕ) (response : Response) → dialog_of (sent_at n (trace_message bytes (Kinds.Response response))) ≡ dialog_named (id_of_request response.parts)
unfolding trace_message
response_sent n bytes response = refl

-- a tag that is put is the one that is found, and one that is left out is absent
tag_put : (tag : List ℕ) → tag_text (tag_params tag) ≡ tag
tag_put [] = refl
tag_put (b ∷ bs) = rw (not_empty b bs) refl

abbrev named : List ℕ → List ℕ → List ℕ → DialogId
named call_id ours theirs = record { call_id = call_id; ours = ours; theirs = theirs }

made_id : (d : Dialog) (via : Via) (method : List ℕ) (number : ℕ) → id_of_response (parts_in d via method number) ≡ d.id
unfolding parts_in
made_id d via method number = let ours : tag_text (tag_params d.id.ours) ≡ d.id.ours = tag_put d.id.ours in
    let theirs : tag_text (tag_params d.id.theirs) ≡ d.id.theirs = tag_put d.id.theirs in
    let e : named d.id.call_id (tag_text (tag_params d.id.ours)) (tag_text (tag_params d.id.theirs)) ≡ named d.id.call_id d.id.ours d.id.theirs = cc in e

pub made_sent : (n : ℕ) (bytes : List ℕ) (d : Dialog) (via : Via) (method : List ℕ) (number hops : ℕ) (further : List Header) (body : List ℕ)
    → dialog_of (sent_at n (trace_message bytes (Kinds.Request (request_in d via method number hops further body)))) ≡ dialog_named d.id
unfolding trace_message request_in
made_sent n bytes d via method number hops further body = ap dialog_named (made_id d via method number)

-- ---- methods

pub request_method : (bytes : List ℕ) (request : Request) → ReadsMessage bytes (Kinds.Request request) → (trace_message bytes (Kinds.Request request)).method ≡ request.method
unfolding trace_message
request_method bytes request reads = (bytes_decides request.parts.cseq.method request.method).0 reads.says.says_parts.cseq_method

pub method_test : (name bytes : List ℕ) (m : Message) → traces.is_method name (trace_message bytes m).method ≡ messages.is_method name (repeatable.parts_in m)
unfolding trace_message
method_test name bytes m = refl

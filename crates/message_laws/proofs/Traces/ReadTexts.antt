-- What the bytes of a trace are: each text is one message, and what was written is what is read.
use Rattle.std.proofs.Common.{◌≡◌, ◌∙◌, ℕ, ◌==◌, get_or, Bool, true, false, List, [], ◌∷◌, ◌++◌, codes, refl, sym, ap, subst}
use Rattle.std.specs.List.{list_all}
use Rattle.std.proofs.lemmas.Bool.{and_parts, false≢true}
use Rattle.std.proofs.lemmas.List.{append_assoc}
use Rattle.text.specs.Class.{is_run_of, is_token_byte}
use Rattle.sip_message.specs.Grammar.{ReadsMessage, ReadsRequest}
use Rattle.sip_message.specs.Words.{tag_text}
use Rattle.sip_message.specs.declared.message.Message.{Message}
use Rattle.sip_message.specs.declared.message.Message.TheVariants as Kinds
use Rattle.sip_message.specs.declared.message.Parts.{Parts}
use Rattle.sip_message.specs.declared.message.Request.{Request}
use Rattle.sip_message.specs.declared.message.Response.{Response}
use Rattle.sip_message.proofs.MessageLaws.{one_message}
use Rattle.sip_writing.specs.Writing.{message_text}
use Rattle.sip_writing.specs.WritingMessage.{IsWrittenMessage}
use Rattle.call_trace.specs.declared.datagram.Message.{Message as TraceMessage}
use Rattle.call_trace.specs.Messages.{is_request}
use Rattle.trace_reading.specs.Message.{branch_text, trace_message}
use Rattle.message_laws.specs.Messages.{IsMessage, IsRequestOf}

-- the law of what is written
abbrev pub WrittenReads : Type 0
WrittenReads = (m : Message) → IsWrittenMessage m → ReadsMessage (message_text m) m

-- ---- one message

pub same_message : (bytes : List ℕ) (a b : TraceMessage) → IsMessage bytes a → IsMessage bytes b → a ≡ b
same_message bytes a b h k =
    let same : h.message ≡ k.message = one_message bytes h.message k.message h.reads k.reads in
    h.seen ∙ ap (trace_message bytes) same ∙ sym k.seen

pub read_as : (bytes : List ℕ) (m : TraceMessage) (x : Message) → IsMessage bytes m → ReadsMessage bytes x → m ≡ trace_message bytes x
read_as bytes m x h reads = h.seen ∙ ap (trace_message bytes) (one_message bytes h.message x h.reads reads)

pub written_as : WrittenReads → (bytes : List ℕ) (m : TraceMessage) (x : Message) → IsMessage bytes m → bytes ≡ message_text x → IsWrittenMessage x → m ≡ trace_message bytes x
written_as law bytes m x h said written = read_as bytes m x h (subst (λ (text : List ℕ). ReadsMessage text x) (sym said) (law x written))

pub own_bytes : (bytes : List ℕ) (m : TraceMessage) → IsMessage bytes m → m.bytes ≡ bytes
unfolding trace_message
own_bytes bytes m h = ap (λ (x : TraceMessage). x.bytes) h.seen

pub self_message : (bytes : List ℕ) (m : TraceMessage) → IsMessage bytes m → IsMessage m.bytes m
self_message bytes m h = subst (λ (text : List ℕ). IsMessage text m) (sym (own_bytes bytes m h)) h

-- ---- a request

pub request_seen : (bytes : List ℕ) (r : Request) (parts : Parts) → r.parts ≡ parts → IsRequestOf parts (trace_message bytes (Kinds.Request r))
unfolding trace_message
request_seen bytes r parts is = record {
  kind = refl;
  branch = ap (λ (x : Parts). branch_text x.vias) is;
  call_id = ap (λ (x : Parts). x.call_id) is;
  from_tag = ap (λ (x : Parts). tag_text x.from.params) is;
  to_tag = ap (λ (x : Parts). tag_text x.to.params) is;
  number = ap (λ (x : Parts). x.cseq.number) is;
  method = ap (λ (x : Parts). x.cseq.method) is;
}

pub request_of : (m n : TraceMessage) (parts : Parts) → m ≡ n → IsRequestOf parts n → IsRequestOf parts m
request_of m n parts is h = subst (IsRequestOf parts) (sym is) h

-- ---- a response is read as one

no_slash : (c : ℕ) → c ≡ 47 → is_token_byte c ≡ true → ⊥
no_slash c is h = false≢true (subst (λ (x : ℕ). is_token_byte x ≡ true) is h)

fourth : (p : ℕ → Bool) (a b c d : ℕ) (more : List ℕ) → list_all p (a ∷ b ∷ c ∷ d ∷ more) ≡ true → p d ≡ true
fourth p a b c d more h =
    let one : list_all p (b ∷ c ∷ d ∷ more) ≡ true = (and_parts (p a) (list_all p (b ∷ c ∷ d ∷ more)) h).1 in
    let two : list_all p (c ∷ d ∷ more) ≡ true = (and_parts (p b) (list_all p (c ∷ d ∷ more)) one).1 in
    let three : list_all p (d ∷ more) ≡ true = (and_parts (p c) (list_all p (d ∷ more)) two).1 in
    (and_parts (p d) (list_all p more) three).0

-- no method is the version that a response begins with
no_method : (method more rest : List ℕ) → list_all is_token_byte method ≡ true → method ++ 32 ∷ more ≡ codes "SIP/2.0 " ++ rest → ⊥
no_method [] more rest run e = false≢true (sym (ap (λ (text : List ℕ). get_or text 0 0 == 32) e))
no_method (a ∷ []) more rest run e = false≢true (sym (ap (λ (text : List ℕ). get_or text 1 0 == 32) e))
no_method (a ∷ b ∷ []) more rest run e = false≢true (sym (ap (λ (text : List ℕ). get_or text 2 0 == 32) e))
no_method (a ∷ b ∷ c ∷ []) more rest run e = false≢true (sym (ap (λ (text : List ℕ). get_or text 3 0 == 32) e))
no_method (a ∷ b ∷ c ∷ d ∷ method) more rest run e = no_slash d (ap (λ (text : List ℕ). get_or text 3 0) e) (fourth is_token_byte a b c d method run)

run_all : (method : List ℕ) → is_run_of is_token_byte method ≡ true → list_all is_token_byte method ≡ true
run_all method run = (and_parts _ _ run).1

request_unlike : (text : List ℕ) (q : Request) (r : Response) → ReadsRequest text q → text ≡ message_text (Kinds.Response r) → ⊥
unfolding message_text
request_unlike text q r reads is =
    let form = reads.opens.begins.form in
    let tail = 13 ∷ 10 ∷ reads.opens.rest in
    no_method q.method ((form.uri_part ++ 32 ∷ reads.opens.begins.version) ++ tail) _ (run_all q.method form.token)
    (sym (append_assoc q.method (32 ∷ (form.uri_part ++ 32 ∷ reads.opens.begins.version)) tail) ∙ ap (λ (line : List ℕ). line ++ tail) (sym form.whole) ∙ sym reads.opens.whole ∙ is)

response_kind : (bytes : List ℕ) (r : Response) (x : Message) → ReadsMessage bytes x → bytes ≡ message_text (Kinds.Response r) → is_request (trace_message bytes x).kind ≡ false
unfolding trace_message
response_kind bytes r (Kinds.Request q) reads is = absurd (request_unlike bytes q r reads is)
response_kind bytes r (Kinds.Response q) reads is = refl

pub response_seen : (bytes : List ℕ) (m : TraceMessage) (r : Response) → IsMessage bytes m → bytes ≡ message_text (Kinds.Response r) → is_request m.kind ≡ false
response_seen bytes m r h is = ap (λ (x : TraceMessage). is_request x.kind) h.seen ∙ response_kind bytes r h.message h.reads is

-- What was taken of bytes that were read, and of those that the server answers by itself.
use Rattle.std.proofs.Common.{◌≡◌, ◌∙◌, ℕ, ◌==◌, ◌&&◌, cond, not, Bool, true, false, List, [], ◌∷◌, ◌++◌, codes, Option, Some, None, Ok, refl, sym, ap, subst}
use Rattle.std.specs.Prelude.{nat_eq}
use Rattle.std.specs.Cmp.Lexicographic.{pointwise}
use Rattle.std.proofs.lemmas.Bool.{and_left, and_parts, false≢true}
use Rattle.std.proofs.lemmas.Option.{none-some}
use Rattle.text.specs.Cut.{after, before}
use Rattle.text.proofs.CutLaws.{Lacks, before_at}
use Rattle.sip_message.specs.AnswerableParts.{answerable_of, are_two_parts, asks_answer, is_asking_line, parts_behind}
use Rattle.sip_message.specs.Grammar.{ReadsMessage, ReadsResponse}
use Rattle.sip_message.specs.Lines.{after_line_end, before_line_end}
use Rattle.sip_message.specs.Read.{message_of}
use Rattle.sip_message.specs.Start.{begins_sip, has_no_space, is_part}
use Rattle.sip_message.specs.declared.message.Message.{Message}
use Rattle.sip_message.specs.declared.message.Message.TheVariants as Kinds
use Rattle.sip_message.specs.declared.message.Parts.{Parts}
use Rattle.sip_message.specs.declared.message.Request.{Request}
use Rattle.sip_message.specs.declared.message.Response.{Response}
use Rattle.sip_message.proofs.HeaderLineLaws.{before_again}
use Rattle.sip_message.proofs.MessageLaws.{one_message}
use Rattle.call_trace.specs.declared.datagram.Kind.TheVariants as kinds
use Rattle.call_trace.specs.declared.datagram.Message.{Message as TraceMessage}
use Rattle.trace_reading.specs.Message.{trace_message}
use Rattle.message_laws.specs.Quiet.{IsRequestIf}
use Rattle.message_laws.proofs.Messages.ReadMessages.{message_reads}
use Rattle.message_laws.specs.Messages.{IsTakenOf}

-- ---- what was taken

pub taken_is : (bytes : List ℕ) (m : Message) (taken : Option TraceMessage) → message_of bytes ≡ Ok m → IsTakenOf bytes taken → taken ≡ Some (trace_message bytes m)
taken_is bytes m None read h = absurd (h (trace_message bytes m) (record { message = m; reads = message_reads bytes m read; seen = refl }))
taken_is bytes m (Some x) read h = ap Some (h.seen ∙ ap (trace_message bytes) (one_message bytes h.message m h.reads (message_reads bytes m read)))

request_kind : (bytes : List ℕ) (r : Request) → (trace_message bytes (Kinds.Request r)).kind ≡ kinds.Request
unfolding trace_message
request_kind bytes r = refl

pub request_taken : (bytes : List ℕ) (r : Request) (taken : Option TraceMessage) → message_of bytes ≡ Ok (Kinds.Request r) → IsTakenOf bytes taken → IsRequestIf taken
request_taken bytes r taken read h = subst IsRequestIf (sym (taken_is bytes (Kinds.Request r) taken read h)) (request_kind bytes r)

-- ---- bytes that can be answered are no response

lacks_space : (text : List ℕ) → has_no_space text ≡ true → Lacks 32 text
lacks_space [] h = tt
lacks_space (b ∷ text) h = let both = and_parts (not (b == 32)) (has_no_space text) h in (not_true (b == 32) both.0, lacks_space text both.1)
  where
    not_true : (b : Bool) → not b ≡ true → b ≡ false
    not_true true e = absurd (false≢true e)
    not_true false e = refl

asks_none : (a b c : Bool) → b ≡ true → (a && not b && c) ≡ false
asks_none true true c e = refl
asks_none false true c e = refl
asks_none a false c e = absurd (false≢true e)

no_asker : (line version more : List ℕ) → line ≡ version ++ 32 ∷ more → has_no_space version ≡ true → begins_sip version ≡ true → is_asking_line line ≡ false
no_asker line version more whole unbroken begins =
    let first : before 32 line ≡ version = ap (before 32) whole ∙ before_at 32 version (Some more) (lacks_space version unbroken) in
    and_left (asks_answer (before 32 line)) (are_two_parts (after 32 line))
    (ap asks_answer first ∙ asks_none (is_part version) (begins_sip version) (not (pointwise nat_eq version (codes "ACK"))) begins)

response_unanswerable : (bytes : List ℕ) (r : Response) → ReadsResponse bytes r → is_asking_line (before_line_end bytes) ≡ false
response_unanswerable bytes r reads =
    let form = reads.opens.begins.form in
    subst (λ line. is_asking_line line ≡ false) (sym (ap before_line_end reads.opens.whole ∙ before_again reads.opens.line reads.opens.rest reads.opens.clean))
    (no_asker reads.opens.line reads.opens.begins.version _ form.whole form.unbroken form.begins)

answerable_asks : (bytes : List ℕ) (parts : Parts) → answerable_of bytes ≡ Some parts → is_asking_line (before_line_end bytes) ≡ true
unfolding answerable_of
answerable_asks bytes parts e = by_line (is_asking_line (before_line_end bytes)) (parts_behind (after_line_end bytes)) e
  where
    by_line : (b : Bool) (o : Option Parts) → cond b o None ≡ Some parts → b ≡ true
    by_line true o is = refl
    by_line false o is = absurd (none-some parts is)

answerable_kind : (bytes : List ℕ) (parts : Parts) (x : Message) → answerable_of bytes ≡ Some parts → ReadsMessage bytes x → (trace_message bytes x).kind ≡ kinds.Request
answerable_kind bytes parts (Kinds.Request r) can reads = request_kind bytes r
answerable_kind bytes parts (Kinds.Response r) can reads = absurd (false≢true (sym (response_unanswerable bytes r reads) ∙ answerable_asks bytes parts can))

pub answerable_taken : (bytes : List ℕ) (parts : Parts) (taken : Option TraceMessage) → answerable_of bytes ≡ Some parts → IsTakenOf bytes taken → IsRequestIf taken
answerable_taken bytes parts None can h = tt
answerable_taken bytes parts (Some m) can h = ap (λ (x : TraceMessage). x.kind) h.seen ∙ answerable_kind bytes parts h.message can h.reads

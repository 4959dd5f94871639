-- Each text is one message by the grammar, or is none: what reads it without a limit decides.
use Rattle.std.proofs.Common.{◌≡◌, ◌∙◌, ℕ, suc, ◌+◌, ◌≤◌, ◌<◌, Bool, true, false, cond, List, [], ◌∷◌, ◌++◌, length, Option, Some, None, Result, Ok, Err, refl, sym, ap, subst, append_assoc, arith}
use Rattle.std.proofs.lemmas.List.{length-append}
use Rattle.call_trace.specs.declared.datagram.Message.{Message as TraceMessage}
use Rattle.header_fields.specs.Head.{ReadsHead, all_lines, head_of, line_count}
use Rattle.header_fields.specs.Lines.{after_line_end, before_line_end, is_clean, lines_text}
use Rattle.header_fields.specs.declared.headers.Header.{Header}
use Rattle.header_fields.proofs.HeadLaws.{head_again, head_is}
use Rattle.header_fields.proofs.HeaderLineLaws.{after_again, before_again}
use Rattle.header_fields.proofs.LineLaws.{first_line_joined}
use Rattle.sip_message.specs.declared.error.MessageError.{MessageError}
use Rattle.sip_message.specs.declared.error.MessageError.TheVariants.{HeaderLine}
use Rattle.sip_message.specs.declared.message.Message.{Message}
use Rattle.sip_message.specs.declared.message.Message.TheVariants as Kinds
use Rattle.sip_message.specs.declared.message.Request.{Request}
use Rattle.sip_message.specs.declared.message.Response.{Response}
use Rattle.sip_message.specs.declared.start.Start.{Start}
use Rattle.sip_message.specs.declared.start.Start.TheVariants.{Answering, Asking}
use Rattle.sip_message.specs.Faults.{and_then}
use Rattle.sip_message.specs.Grammar.{IsStartLine, Opens, ReadsMessage, ReadsRequest, ReadsResponse, start_of_request, start_of_response}
use Rattle.sip_message.specs.Read.{contents_of, message_by, message_with, with_fields}
use Rattle.sip_message.specs.Start.{start_of}
use Rattle.sip_message.proofs.SaysLaws.{contents_again, contents_are, then_ok}
use Rattle.sip_message.proofs.StartLaws.{StartIs, line_again, start_is}
use Rattle.message_laws.specs.Messages.{IsTakenOf}
use Rattle.trace_reading.specs.Message.{trace_message}

-- ---- reading without a limit

abbrev read_behind : Start → Option (List ℕ) → Result Message MessageError
read_behind start None = Err HeaderLine
read_behind start (Some rest) = with_fields start (head_of (suc (length rest)) rest)

abbrev read_from : List ℕ → Option (List ℕ) → Start → Result Message MessageError
read_from line rest start = cond (is_clean line) (read_behind start rest) (Err HeaderLine)

-- what the text reads as, however long it is, and however many header lines it has
abbrev read_all : List ℕ → Result Message MessageError
read_all text = and_then (start_of (before_line_end text)) (read_from (before_line_end text) (after_line_end text))

abbrev ok : Message → Result Message MessageError
ok m = Ok m

-- ---- a message is read

-- start line and rest of a text are those that it is cut into
record Cuts (text line rest : List ℕ) : Type 0 where
  first : before_line_end text ≡ line
  behind : after_line_end text ≡ Some rest

cuts : {text : List ℕ} {start : Start} {fields : List Header} {raw : List ℕ} (opens : Opens text start fields raw) → Cuts text opens.line opens.rest
cuts opens = record {
  first = ap before_line_end opens.whole ∙ before_again opens.line opens.rest opens.clean;
  behind = ap after_line_end opens.whole ∙ after_again opens.line opens.rest opens.clean;
}

-- a text has more bytes than lines
lines_short : (lines : List (List ℕ)) (behind : List ℕ) → length lines ≤ length (lines_text lines ++ behind)
lines_short [] behind = omega arith
lines_short (line ∷ lines) behind =
    let rest : List ℕ = lines_text lines ++ behind in
    let whole : lines_text (line ∷ lines) ++ behind ≡ line ++ 13 ∷ 10 ∷ rest = simp append_assoc in
    let count : length (lines_text (line ∷ lines) ++ behind) ≡ length line + length (13 ∷ 10 ∷ rest) = ap length whole ∙ length-append line (13 ∷ 10 ∷ rest) in
    let short : length lines ≤ length rest = lines_short lines behind in
    omega (arith, count, short)

few_lines : (text : List ℕ) (fields : List Header) (raw : List ℕ) (head : ReadsHead text fields raw) → line_count head < suc (length text)
few_lines text fields raw head =
    let short : length (all_lines head.fields) ≤ length (lines_text (all_lines head.fields) ++ (13 ∷ 10 ∷ raw)) = lines_short (all_lines head.fields) (13 ∷ 10 ∷ raw) in
    let whole : length text ≡ length (lines_text (all_lines head.fields) ++ (13 ∷ 10 ∷ raw)) = ap length head.whole in
    omega (arith, short, whole)

-- what start line, header fields and rest of a text are read as, where they say so
request_again : (text : List ℕ) (r : Request) (reads : ReadsRequest text r) → message_by (start_of_request r) reads.fields reads.raw ≡ Ok (Kinds.Request r)
request_again text r reads =
    ap (λ c. and_then c (λ x. ok (message_with (start_of_request r) reads.fields x))) (contents_again (start_of_request r) reads.fields reads.raw (record { values = record { parts = r.parts; max_forwards = r.max_forwards }; body = r.body }) reads.says)
    ∙ ap (λ (hs : List Header). ok (Kinds.Request (record r { headers = hs }))) (sym reads.headers)

response_again : (text : List ℕ) (r : Response) (reads : ReadsResponse text r) → message_by (start_of_response r) reads.fields reads.raw ≡ Ok (Kinds.Response r)
response_again text r reads =
    ap (λ c. and_then c (λ x. ok (message_with (start_of_response r) reads.fields x))) (contents_again (start_of_response r) reads.fields reads.raw (record { values = record { parts = r.parts; max_forwards = reads.hops }; body = r.body }) reads.says)
    ∙ ap (λ (hs : List Header). ok (Kinds.Response (record r { headers = hs }))) (sym reads.headers)

-- a text that opens so, and is that message
opened : (text : List ℕ) (start : Start) (fields : List Header) (raw : List ℕ) (m : Message) (opens : Opens text start fields raw) → message_by start fields raw ≡ Ok m → read_all text ≡ Ok m
opened text start fields raw m opens gives =
    let cut = cuts opens in
    let head : head_of (suc (length opens.rest)) opens.rest ≡ Some (fields, raw) = head_again (suc (length opens.rest)) opens.rest fields raw opens.head (few_lines opens.rest fields raw opens.head) in
    rw (cut.first, line_again opens.line start opens.begins, opens.clean, cut.behind, head) gives

message_again : (text : List ℕ) (m : Message) → ReadsMessage text m → read_all text ≡ Ok m
message_again text (Kinds.Request r) reads = opened text (start_of_request r) reads.fields reads.raw (Kinds.Request r) reads.opens (request_again text r reads)
message_again text (Kinds.Response r) reads = opened text (start_of_response r) reads.fields reads.raw (Kinds.Response r) reads.opens (response_again text r reads)

-- ---- what is read is a message

module _ (text : List ℕ) where
  with_contents : (start : Start) (fields : List Header) (raw : List ℕ) (opens : Opens text start fields raw) (c : _) → contents_of start fields raw ≡ Ok c → ReadsMessage text (message_with start fields c)
  with_contents (Asking line) fields raw opens c is = record { fields = fields; raw = raw; opens = opens; says = contents_are (Asking line) fields raw c is; headers = refl }
  with_contents (Answering line) fields raw opens c is = record { fields = fields; raw = raw; hops = c.values.max_forwards; opens = opens; says = contents_are (Answering line) fields raw c is; headers = refl }

  same_message : (a b : Message) → ok a ≡ ok b → a ≡ b
  same_message a b h = cc

  module _ (start : Start) (begins : IsStartLine (before_line_end text) start) (clean : is_clean (before_line_end text) ≡ true) (m : Message) where
    with_head : (rest : List ℕ) → after_line_end text ≡ Some rest → (o : Option (List Header × List ℕ)) → head_of (suc (length rest)) rest ≡ o → with_fields start o ≡ Ok m → ReadsMessage text m
    with_head rest behind None is h = absurd cc
    with_head rest behind (Some x) is h =
        let head = head_is (suc (length rest)) rest x is in
        let opens : Opens text start x.0 x.1 = record { line = before_line_end text; rest = rest; whole = first_line_joined text rest behind; clean = clean; begins = begins; head = head.reads } in
        let c = then_ok (contents_of start x.0 x.1) (λ v. ok (message_with start x.0 v)) m h in
        subst (ReadsMessage text) (same_message (message_with start x.0 c.0) m c.2) (with_contents start x.0 x.1 opens c.0 c.1)

    with_rest : (o : Option (List ℕ)) → after_line_end text ≡ o → read_behind start o ≡ Ok m → ReadsMessage text m
    with_rest None is h = absurd cc
    with_rest (Some rest) is h = with_head rest is (head_of (suc (length rest)) rest) refl h

  with_line : (start : Start) (m : Message) → IsStartLine (before_line_end text) start → (b : Bool) → is_clean (before_line_end text) ≡ b → cond b (read_behind start (after_line_end text)) (Err HeaderLine) ≡ Ok m → ReadsMessage text m
  with_line start m begins true is h = with_rest start begins is m (after_line_end text) refl h
  with_line start m begins false is h = absurd cc

  message_is : (m : Message) → read_all text ≡ Ok m → ReadsMessage text m
  message_is m h =
      let first = then_ok (start_of (before_line_end text)) (read_from (before_line_end text) (after_line_end text)) m h in
      with_line first.0 m (subst (StartIs (before_line_end text)) first.1 (start_is (before_line_end text))) (is_clean (before_line_end text)) refl first.2

-- ---- what is taken of any bytes

refused : (m : Message) (e : MessageError) → ok m ≡ Err e → ⊥
refused m e h = cc

taken_by : (bytes : List ℕ) (r : Result Message MessageError) → read_all bytes ≡ r → (taken : Option TraceMessage) × IsTakenOf bytes taken
taken_by bytes (Ok m) is = (Some (trace_message bytes m), record { message = m; reads = message_is bytes m is; seen = refl })
taken_by bytes (Err e) is = (None, λ seen h. refused h.message e (sym (message_again bytes h.message h.reads) ∙ is))

pub bytes_taken : (bytes : List ℕ) → (taken : Option TraceMessage) × IsTakenOf bytes taken
bytes_taken bytes = taken_by bytes (read_all bytes) refl

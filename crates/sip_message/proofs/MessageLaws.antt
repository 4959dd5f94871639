-- What is read is a message, a message is read, and a refusal has its reason.
use Rattle.std.proofs.Common.{◌≡◌, ℕ, ◌+◌, ◌≤◌, Bool, true, false, cond, ltb, List, length, Option, Some, None, Result, Ok, Err, refl, sym, ap, subst, ◌∙◌, arith}
use Rattle.std.specs.Prelude.{IfOk, IfErr}
use Rattle.std.proofs.lemmas.Bool.{ltb-true, ltb-false, le-ltb, true≢false}
use Rattle.sip_message.specs.declared.error.MessageError.{MessageError}
use Rattle.sip_message.specs.declared.error.MessageError.TheVariants.{OutOfMemory, StartLine, Version, HeaderLine, Missing, Unreadable, Short, TooLong}
use Rattle.header_fields.specs.declared.headers.Header.{Header}
use Rattle.sip_message.specs.declared.message.Message.{Message}
use Rattle.sip_message.specs.declared.message.Message.TheVariants as Kinds
use Rattle.sip_message.specs.declared.message.Parts.{Parts}
use Rattle.sip_message.specs.declared.message.Request.{Request}
use Rattle.sip_message.specs.declared.message.Response.{Response}
use Rattle.sip_message.specs.declared.read.Contents.{Contents}
use Rattle.sip_message.specs.declared.start.Start.{Start}
use Rattle.sip_message.specs.declared.start.Start.TheVariants.{Asking, Answering}
use Rattle.sip_message.specs.Faults.{Gives, and_then}
use Rattle.sip_message.specs.Grammar.{IsStartLine, Opens, lines_of, start_of_request, start_of_response, ReadsRequest, ReadsResponse, ReadsMessage, header_lines, IsShort, IsWithin, RefusesContents, Refuses}
use Rattle.header_fields.specs.Head.{ReadsHead, head_of}
use Rattle.header_fields.specs.Lines.{before_line_end, after_line_end, is_clean}
use Rattle.sip_message.specs.Read.{max_datagram, max_lines, contents_of, message_with, message_by, with_fields, behind_start, clean_start, message_of}
use Rattle.sip_message.specs.Start.{start_of}
use Rattle.sip_message.specs.ContentLength.{without_length}
use Rattle.sip_message.proofs.FaultOrder.{IsContentsFault, FaultFits, contents_fit}
use Rattle.header_fields.proofs.HeaderLineLaws.{before_again, after_again}
use Rattle.header_fields.proofs.HeadLaws.{head_again, head_is, one_head}
use Rattle.header_fields.proofs.LineLaws.{first_line_joined}
use Rattle.sip_message.proofs.SaysLaws.{contents_are, contents_again}
use Rattle.sip_message.proofs.StartLaws.{StartIs, start_is, line_again}

abbrev contents_with : Parts → ℕ → List ℕ → Contents
contents_with parts hops body = record { values = record { parts = parts; max_forwards = hops }; body = body }

abbrev ok : Message → Result Message MessageError
ok m = Ok m

-- ---- a message is read

-- start line and rest of a text are those that it is cut into
record Cuts (text line rest : List ℕ) : Type 0 where
  first : before_line_end text ≡ line
  behind : after_line_end text ≡ Some rest

cuts : {text : List ℕ} {start : Start} {fields : List Header} {raw : List ℕ} (opens : Opens text start fields raw) → Cuts text opens.line opens.rest
cuts opens = record {
  first = ap before_line_end opens.whole ∙ before_again opens.line opens.rest opens.clean;
  behind = ap after_line_end opens.whole ∙ after_again opens.line opens.rest opens.clean;
}

-- what start line, header fields and rest of a text are read as, if they say so
request_again : (text : List ℕ) (r : Request) (reads : ReadsRequest text r) → message_by (start_of_request r) reads.fields reads.raw ≡ Ok (Kinds.Request r)
request_again text r reads =
    ap (λ c. and_then c (λ x. ok (message_with (start_of_request r) reads.fields x))) (contents_again (start_of_request r) reads.fields reads.raw (contents_with r.parts r.max_forwards r.body) reads.says)
    ∙ ap (λ (hs : List Header). ok (Kinds.Request (record r { headers = hs }))) (sym reads.headers)

response_again : (text : List ℕ) (r : Response) (reads : ReadsResponse text r) → message_by (start_of_response r) reads.fields reads.raw ≡ Ok (Kinds.Response r)
response_again text r reads =
    ap (λ c. and_then c (λ x. ok (message_with (start_of_response r) reads.fields x))) (contents_again (start_of_response r) reads.fields reads.raw (contents_with r.parts reads.hops r.body) reads.says)
    ∙ ap (λ (hs : List Header). ok (Kinds.Response (record r { headers = hs }))) (sym reads.headers)

-- a message's start line, header fields and rest
record Opened (text : List ℕ) (m : Message) (lines : ℕ) : Type 0 where
  start : Start
  fields : List Header
  raw : List ℕ
  opens : Opens text start fields raw
  same : lines_of opens ≡ lines
  gives : message_by start fields raw ≡ Ok m

opened : (text : List ℕ) (m : Message) (reads : ReadsMessage text m) → Opened text m (header_lines text m reads)
opened text (Kinds.Request r) reads = record { start = start_of_request r; fields = reads.fields; raw = reads.raw; opens = reads.opens; same = refl; gives = request_again text r reads }
opened text (Kinds.Response r) reads = record { start = start_of_response r; fields = reads.fields; raw = reads.raw; opens = reads.opens; same = refl; gives = response_again text r reads }

pub message_again : (text : List ℕ) (m : Message) (reads : ReadsMessage text m) → IsWithin text m reads → message_of text ≡ Ok m
unfolding message_of
message_again text m reads within =
    let o = opened text m reads in
    let cut = cuts o.opens in
    let short : ltb max_datagram (length text) ≡ false = le-ltb max_datagram (length text) within.0 in
    let head : head_of (max_lines + 1) o.opens.rest ≡ Some (o.fields, o.raw) = head_again (max_lines + 1) o.opens.rest o.fields o.raw o.opens.head (omega (arith, within.1, o.same)) in
    rw (short, cut.first, line_again o.opens.line o.start o.opens.begins, o.opens.clean, cut.behind, head) o.gives

-- ---- what is read is a message

abbrev MessageIs : List ℕ → Result Message MessageError → Type 0
MessageIs text (Ok m) = (reads : ReadsMessage text m) × IsWithin text m reads
MessageIs text (Err e) = Refuses text e

refused_contents : (text : List ℕ) (e : MessageError) → IsContentsFault e → RefusesContents text e → Refuses text e
refused_contents text OutOfMemory fits h = tt
refused_contents text StartLine fits h = absurd fits
refused_contents text Version fits h = absurd fits
refused_contents text HeaderLine fits h = absurd fits
refused_contents text (Missing name) fits h = h
refused_contents text (Unreadable name) fits h = h
refused_contents text Short fits h = h
refused_contents text TooLong fits h = absurd fits

module _ (text : List ℕ) (short : IsShort text) where
  with_contents : (start : Start) (fields : List Header) (raw : List ℕ) (opens : Opens text start fields raw) → lines_of opens ≤ max_lines
      → (c : Result Contents MessageError) → contents_of start fields raw ≡ c → FaultFits c → MessageIs text (and_then c (λ x. ok (message_with start fields x)))
  with_contents (Asking line) fields raw opens few (Ok c) e fits =
      let reads : ReadsRequest text (record { method = line.method; uri = line.uri; parts = c.values.parts; max_forwards = c.values.max_forwards; headers = without_length fields; body = c.body }) =
      record { fields = fields; raw = raw; opens = opens; says = contents_are (Asking line) fields raw c e; headers = refl } in
      (reads, (short, few))
  with_contents (Answering line) fields raw opens few (Ok c) e fits =
      let reads : ReadsResponse text (record { status = line.status; reason = line.reason; parts = c.values.parts; headers = without_length fields; body = c.body }) =
      record { fields = fields; raw = raw; hops = c.values.max_forwards; opens = opens; says = contents_are (Answering line) fields raw c e; headers = refl } in
      (reads, (short, few))
  with_contents start fields raw opens few (Err fault) e fits =
      refused_contents text fault fits (record { short = short; start = start; fields = fields; raw = raw; opens = opens; few = few; first = e })

  module _ (s : Start) (line : IsStartLine (before_line_end text) s) where
    -- the text has a start line, and no header fields within the limit
    refused_head : ((start : Start) (fields : List Header) (raw : List ℕ) (opens : Opens text start fields raw) → lines_of opens ≤ max_lines → ⊥) → Refuses text HeaderLine
    refused_head none = (short, (s, line), none)

    with_head : (rest : List ℕ) → is_clean (before_line_end text) ≡ true → after_line_end text ≡ Some rest → (o : Option (List Header × List ℕ)) → head_of (max_lines + 1) rest ≡ o → MessageIs text (with_fields s o)
    with_head rest clean behind None e = refused_head (λ start fields raw opens few. no_head opens few) where
      some_none : (x : List Header × List ℕ) → Some x ≡ None → ⊥
      some_none x k = cc

      same_rest : (a b : List ℕ) → Some a ≡ Some b → a ≡ b
      same_rest a b k = cc

      no_head : {start : Start} {fields : List Header} {raw : List ℕ} (opens : Opens text start fields raw) → lines_of opens ≤ max_lines → ⊥
      no_head {fields = fields} {raw = raw} opens few =
          let same : opens.rest ≡ rest = same_rest opens.rest rest (sym (cuts opens).behind ∙ behind) in
          let head = head_again (max_lines + 1) opens.rest fields raw opens.head (omega (arith, few)) in
          some_none (fields, raw) (sym head ∙ ap (head_of (max_lines + 1)) same ∙ e)
    with_head rest clean behind (Some x) e =
        let is = head_is (max_lines + 1) rest x e in
        let opens : Opens text s x.0 x.1 = record { line = before_line_end text; rest = rest; whole = first_line_joined text rest behind; clean = clean; begins = line; head = is.reads } in
        with_contents s x.0 x.1 opens (omega (arith, is.few)) (contents_of s x.0 x.1) refl (contents_fit s x.0 x.1)

    with_rest : is_clean (before_line_end text) ≡ true → (o : Option (List ℕ)) → after_line_end text ≡ o → MessageIs text (behind_start s o)
    with_rest clean None e = refused_head (λ start fields raw opens few. some_none opens.rest (sym (cuts opens).behind ∙ e)) where
      some_none : (t : List ℕ) → Some t ≡ None → ⊥
      some_none t k = cc
    with_rest clean (Some rest) e = with_head rest clean e (head_of (max_lines + 1) rest) refl

    with_line : (b : Bool) → is_clean (before_line_end text) ≡ b → MessageIs text (cond b (behind_start s (after_line_end text)) (Err HeaderLine))
    with_line true e = with_rest e (after_line_end text) refl
    with_line false e = refused_head (λ start fields raw opens few. true≢false (sym opens.clean ∙ ap is_clean (sym (cuts opens).first) ∙ e))

  with_start : (r : Result Start MessageError) → StartIs (before_line_end text) r → MessageIs text (and_then r (clean_start (before_line_end text) (after_line_end text)))
  with_start (Ok s) is = with_line s is (is_clean (before_line_end text)) refl
  with_start (Err OutOfMemory) is = tt
  with_start (Err StartLine) is = (short, is)
  with_start (Err Version) is = (short, (is.start, is.version, is.form, λ good. true≢false (sym good ∙ is.other)))
  with_start (Err HeaderLine) is = absurd is
  with_start (Err (Missing name)) is = absurd is
  with_start (Err (Unreadable name)) is = absurd is
  with_start (Err Short) is = absurd is
  with_start (Err TooLong) is = absurd is

pub message_is : (text : List ℕ) → MessageIs text (message_of text)
unfolding message_of
message_is text = step (ltb max_datagram (length text)) refl where
  step : (b : Bool) → ltb max_datagram (length text) ≡ b → MessageIs text (cond b (Err TooLong) (and_then (start_of (before_line_end text)) (clean_start (before_line_end text) (after_line_end text))))
  step true e = ltb-true max_datagram (length text) e
  step false e = let short : IsShort text = ltb-false max_datagram (length text) e in with_start text short (start_of (before_line_end text)) (start_is (before_line_end text))

-- ---- at a call that gives what reading gives

pub found_at : (text : List ℕ) (r : Result Message MessageError) → Gives r (message_of text) → IfOk r (λ m. (reads : ReadsMessage text m) × IsWithin text m reads)
found_at text (Ok m) gives = subst (λ (r : Result Message MessageError). MessageIs text r) gives (message_is text)
found_at text (Err e) gives = tt

refused_with : (text : List ℕ) (e : MessageError) → message_of text ≡ Err e → Refuses text e
refused_with text e gives = subst (λ (r : Result Message MessageError). MessageIs text r) gives (message_is text)

pub refused_at : (text : List ℕ) (r : Result Message MessageError) → Gives r (message_of text) → IfErr r (λ e. Refuses text e)
refused_at text (Ok m) gives = tt
refused_at text (Err OutOfMemory) gives = tt
refused_at text (Err StartLine) gives = refused_with text StartLine gives
refused_at text (Err Version) gives = refused_with text Version gives
refused_at text (Err HeaderLine) gives = refused_with text HeaderLine gives
refused_at text (Err (Missing name)) gives = refused_with text (Missing name) gives
refused_at text (Err (Unreadable name)) gives = refused_with text (Unreadable name) gives
refused_at text (Err Short) gives = refused_with text Short gives
refused_at text (Err TooLong) gives = refused_with text TooLong gives

pub only_at : (text : List ℕ) (r : Result Message MessageError) (m : Message) (reads : ReadsMessage text m) → Gives r (message_of text) → IsWithin text m reads → Gives r (Ok m)
only_at text r m reads gives within = subst (λ (f : Result Message MessageError). Gives r f) (message_again text m reads within) gives

-- ---- a text has at most one value

abbrev kept : Start → Result Start MessageError
kept s = Ok s

start_same : (a b : Start) → kept a ≡ kept b → a ≡ b
start_same a b h = cc

message_same : (a b : Message) → ok a ≡ ok b → a ≡ b
message_same a b h = cc

rest_same : (a b : List ℕ) → Some a ≡ Some b → a ≡ b
rest_same a b h = cc

pub one_message : (text : List ℕ) (a b : Message) → ReadsMessage text a → ReadsMessage text b → a ≡ b
one_message text a b reads again =
    let r = opened text a reads in
    let q = opened text b again in
    let line : r.opens.line ≡ q.opens.line = sym (cuts r.opens).first ∙ (cuts q.opens).first in
    let rest : r.opens.rest ≡ q.opens.rest = rest_same r.opens.rest q.opens.rest (sym (cuts r.opens).behind ∙ (cuts q.opens).behind) in
    let s : r.start ≡ q.start = start_same r.start q.start (sym (line_again r.opens.line r.start r.opens.begins) ∙ ap start_of line ∙ line_again q.opens.line q.start q.opens.begins) in
    let head = one_head r.opens.rest r.fields q.fields r.raw q.raw r.opens.head (subst (λ (t : List ℕ). ReadsHead t q.fields q.raw) (sym rest) q.opens.head) in
    let same : message_by r.start r.fields r.raw ≡ message_by q.start q.fields q.raw =
    ap (λ (x : Start). message_by x r.fields r.raw) s ∙ ap (λ (hs : List Header). message_by q.start hs r.raw) head.0 ∙ ap (λ (t : List ℕ). message_by q.start q.fields t) head.1 in
    message_same a b (sym r.gives ∙ same ∙ q.gives)

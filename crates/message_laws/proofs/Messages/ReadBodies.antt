-- The body of a message that was read: it is no longer than the datagram, and what it describes was read.
use Rattle.std.proofs.Common.{◌≡◌, ◌∙◌, ℕ, zero, suc, ◌+◌, ◌≤◌, Bool, true, false, cond, ◌&&◌, List, [], ◌∷◌, drop, length, take, nat_le, nat_lt, Option, Some, None, option_map, Result, Ok, Err, refl, sym, subst, length-drop, length-take, arith}
use Rattle.std.specs.Prelude.{codes, option_and_then, ◌==◌}
use Rattle.std.proofs.lemmas.Bool.{ltb-false}
use Rattle.sip_message.specs.declared.error.MessageError.{MessageError}
use Rattle.sip_message.specs.declared.error.MessageError.TheVariants.{HeaderLine, Short, TooLong}
use Rattle.sip_message.specs.declared.header_names.HeaderName.TheVariants as Names
use Rattle.sip_message.specs.declared.headers.Header.{Header}
use Rattle.sip_message.specs.declared.message.Message.{Message}
use Rattle.sip_message.specs.declared.start.Start.{Start}
use Rattle.sip_message.specs.declared.start.Start.TheVariants.{Answering, Asking}
use Rattle.sip_message.specs.Contact.{headers_in}
use Rattle.sip_message.specs.ContentLength.{body_by, body_of, long_enough}
use Rattle.sip_message.specs.Faults.{and_then}
use Rattle.sip_message.specs.Fields.{headers_of}
use Rattle.sip_message.specs.Head.{head_of}
use Rattle.sip_message.specs.Lines.{after_line_end, before_line_end, begins_line_end, is_clean, line_of, lines_within, next_lines, with_lines}
use Rattle.sip_message.specs.Lookup.{at_most_one, values_named}
use Rattle.sip_message.specs.Read.{behind_start, clean_start, contents_of, max_datagram, max_lines, message_by, message_of, message_with, with_fields}
use Rattle.sip_message.specs.Content.{has_description_type, is_uncoded}
use Rattle.sip_message.specs.Start.{start_of}
use Rattle.sip_message.specs.Values.{values_of}
use Rattle.sdp.specs.declared.description.Description.{Description}
use Rattle.sdp.specs.declared.error.DescriptionError.{DescriptionError}
use Rattle.sdp.specs.Reading.{description_of}
use Rattle.call_rules.specs.Content as rules
use Rattle.call_rules.specs.Content.{described}
use Rattle.call_rules.specs.declared.content.ContentRule.TheVariants as content
use Rattle.trace_reading.specs.Body as traces
use Rattle.trace_reading.specs.Body.{description_in, may_describe}
use Rattle.trace_reading.specs.Message.{body_in, trace_message}
use Rattle.message_laws.specs.Bodies.{WasRead, WasReadIf}
use Rattle.message_laws.proofs.QuietEvents.Describing.{BodiesDescribe}

-- ---- what comes after lines is no longer than all

abbrev IsWithin : ℕ → Option (List ℕ) → Type 0
IsWithin n None = Unit {0}
IsWithin n (Some rest) = length rest ≤ n

-- of a pair, the second
abbrev IsWithinBehind : {X : Type 0} → ℕ → Option (X × List ℕ) → Type 0
IsWithinBehind n None = Unit {0}
IsWithinBehind n (Some x) = length x.1 ≤ n

within_more : (n m : ℕ) (rest : Option (List ℕ)) → n ≤ m → IsWithin n rest → IsWithin m rest
within_more n m None le h = tt
within_more n m (Some rest) le h = omega (arith, le, h)

behind_more : {X : Type 0} (n m : ℕ) (x : Option (X × List ℕ)) → n ≤ m → IsWithinBehind n x → IsWithinBehind m x
behind_more n m None le h = tt
behind_more n m (Some x) le h = omega (arith, le, h)

after_within : (text : List ℕ) → IsWithin (length text) (after_line_end text)
after_within [] = tt
after_within (b ∷ bs) = by (begins_line_end (b ∷ bs)) (after_within bs)
  where
    by : (t : Bool) → IsWithin (length bs) (after_line_end bs) → IsWithin (length (b ∷ bs)) (cond t (Some (drop 1 bs)) (after_line_end bs))
    by true h = omega (arith, length-drop 1 bs)
    by false h = within_more (length bs) (length (b ∷ bs)) (after_line_end bs) (omega arith) h

line_within : (text : List ℕ) → IsWithinBehind (length text) (line_of text)
line_within text = by (after_line_end text) (after_within text)
  where
    one : (t : Bool) (rest : List ℕ) → length rest ≤ length text → IsWithinBehind (length text) (cond t (Some (before_line_end text, rest)) None)
    one true rest h = h
    one false rest h = tt

    by : (rest : Option (List ℕ)) → IsWithin (length text) rest
        → IsWithinBehind (length text) (option_and_then (λ rest. cond (is_clean (before_line_end text)) (Some (before_line_end text, rest)) None) rest)
    by None h = tt
    by (Some rest) h = one (is_clean (before_line_end text)) rest h

front_within : (n : ℕ) (front : List (List ℕ)) (x : Option (List (List ℕ) × List ℕ)) → IsWithinBehind n x → IsWithinBehind n (with_lines front x)
front_within n front None h = tt
front_within n front (Some x) h = h

next_within : (n : ℕ) (x : Option (List ℕ × List ℕ)) (more : List ℕ → Option (List (List ℕ) × List ℕ)) → ((rest : List ℕ) → IsWithinBehind (length rest) (more rest)) → IsWithinBehind n x
    → IsWithinBehind n (next_lines x more)
next_within n None more each h = tt
next_within n (Some x) more each h = by (length x.0 == 0)
  where
    by : (t : Bool) → IsWithinBehind n (cond t (Some ([], x.1)) (with_lines (x.0 ∷ []) (more x.1)))
    by true = h
    by false = front_within n (x.0 ∷ []) (more x.1) (behind_more (length x.1) n (more x.1) h (each x.1))

lines_short : (n : ℕ) (text : List ℕ) → IsWithinBehind (length text) (lines_within n text)
unfolding lines_within
lines_short zero text = tt
lines_short (suc n) text = next_within (length text) (line_of text) (lines_within n) (lines_short n) (line_within text)

head_within : (n : ℕ) (text : List ℕ) → IsWithinBehind (length text) (head_of n text)
unfolding head_of
head_within n text = by (lines_within n text) (lines_short n text)
  where
    one : (rest : List ℕ) (headers : Option (List Header)) → length rest ≤ length text → IsWithinBehind (length text) (option_map (λ headers. (headers, rest)) headers)
    one rest None h = tt
    one rest (Some headers) h = h

    by : (x : Option (List (List ℕ) × List ℕ)) → IsWithinBehind (length text) x → IsWithinBehind (length text) (option_and_then (λ x. option_map (λ headers. (headers, x.1)) (headers_of x.0)) x)
    by None h = tt
    by (Some x) h = one x.1 (headers_of x.0) h

-- ---- a body

abbrev IsShortBy : {X : Type 0} → (X → List ℕ) → ℕ → Result X MessageError → Type 0
IsShortBy of n (Ok x) = length (of x) ≤ n
IsShortBy of n (Err e) = Unit {0}

abbrev IsShortBody : ℕ → Result (List ℕ) MessageError → Type 0
IsShortBody n body = IsShortBy (λ text. text) n body

long_within : (rest : List ℕ) (n : Option ℕ) → IsShortBody (length rest) (long_enough n rest)
long_within rest None = tt
long_within rest (Some n) = by (nat_le n (length rest))
  where
    by : (t : Bool) → IsShortBody (length rest) (cond t (Ok (take n rest)) (Err Short))
    by true = omega (arith, length-take n rest)
    by false = tt

counted_within : (rest : List ℕ) (t : Bool) (n : Option ℕ) (fault : MessageError) → IsShortBody (length rest) (cond t (long_enough n rest) (Err fault))
counted_within rest true n fault = long_within rest n
counted_within rest false n fault = tt

body_by_within : (rest : List ℕ) (text : Option (List ℕ)) → IsShortBody (length rest) (body_by rest text)
body_by_within rest None = omega arith
body_by_within rest (Some text) = counted_within rest _ _ _

body_within : (fields : List Header) (rest : List ℕ) → IsShortBody (length rest) (body_of fields rest)
unfolding body_of
body_within fields rest = by (at_most_one Names.ContentLength (values_named (codes "Content-Length") fields))
  where
    by : (x : Result (Option (List ℕ)) MessageError) → IsShortBody (length rest) (and_then x (body_by rest))
    by (Ok text) = body_by_within rest text
    by (Err e) = tt

-- ---- a message

abbrev IsShortMessage : ℕ → Result Message MessageError → Type 0
IsShortMessage n m = IsShortBy body_in n m

-- a step that may fail, and the next
then_short : {X Y : Type 0} (of : Y → List ℕ) (n : ℕ) (r : Result X MessageError) (next : X → Result Y MessageError) → ((x : X) → IsShortBy of n (next x)) → IsShortBy of n (and_then r next)
then_short of n (Ok x) next each = each x
then_short of n (Err e) next each = tt

then_within : {X Y : Type 0} (of : X → List ℕ) (to : Y → List ℕ) (n : ℕ) (r : Result X MessageError) (next : X → Result Y MessageError) → ((x : X) → length (of x) ≤ n → IsShortBy to n (next x))
    → IsShortBy of n r → IsShortBy to n (and_then r next)
then_within of to n (Ok x) next each h = each x h
then_within of to n (Err e) next each h = tt

contents_within : (start : Start) (fields : List Header) (rest : List ℕ) → IsShortBy (λ c. body_in (message_with start fields c)) (length rest) (contents_of start fields rest)
unfolding contents_of
contents_within (Asking line) fields rest =
    then_short (λ c. body_in (message_with (Asking line) fields c)) (length rest) (values_of (Asking line) fields) (λ values. and_then (body_of fields rest) (λ body. Ok (record { values = values; body = body })))
    (
    λ values.
    then_within (λ text. text) (λ c. body_in (message_with (Asking line) fields c)) (length rest) (body_of fields rest) (λ body. Ok (record { values = values; body = body })) (λ body h. h)
    (body_within fields rest)
    )
contents_within (Answering line) fields rest =
    then_short (λ c. body_in (message_with (Answering line) fields c)) (length rest) (values_of (Answering line) fields) (λ values. and_then (body_of fields rest) (λ body. Ok (record { values = values; body = body })))
    (
    λ values.
    then_within (λ text. text) (λ c. body_in (message_with (Answering line) fields c)) (length rest) (body_of fields rest) (λ body. Ok (record { values = values; body = body })) (λ body h. h)
    (body_within fields rest)
    )

short_more : {X : Type 0} (of : X → List ℕ) (n m : ℕ) (r : Result X MessageError) → n ≤ m → IsShortBy of n r → IsShortBy of m r
short_more of n m (Ok x) le h = omega (arith, le, h)
short_more of n m (Err e) le h = tt

message_within : (n : ℕ) (start : Start) (fields : List Header) (rest : List ℕ) → length rest ≤ n → IsShortMessage n (message_by start fields rest)
message_within n start fields rest le =
    then_within (λ c. body_in (message_with start fields c)) body_in n (contents_of start fields rest) (λ c. Ok (message_with start fields c)) (λ c h. h)
    (short_more (λ c. body_in (message_with start fields c)) (length rest) n (contents_of start fields rest) le (contents_within start fields rest))

fields_within : (n : ℕ) (start : Start) (x : Option (List Header × List ℕ)) → IsWithinBehind n x → IsShortMessage n (with_fields start x)
fields_within n start None h = tt
fields_within n start (Some x) h = message_within n start x.0 x.1 h

start_within : (n : ℕ) (start : Start) (rest : Option (List ℕ)) → IsWithin n rest → IsShortMessage n (behind_start start rest)
start_within n start None h = tt
start_within n start (Some rest) h = fields_within n start (head_of (max_lines + 1) rest) (behind_more (length rest) n (head_of (max_lines + 1) rest) h (head_within (max_lines + 1) rest))

pub message_short : (text : List ℕ) → IsShortMessage max_datagram (message_of text)
unfolding message_of
message_short text = by (nat_lt max_datagram (length text)) refl
  where
    clean : (n : ℕ) (t : Bool) (start : Start) (rest : Option (List ℕ)) → IsWithin n rest → IsShortMessage n (cond t (behind_start start rest) (Err HeaderLine))
    clean n true start rest h = start_within n start rest h
    clean n false start rest h = tt

    begun : (n : ℕ) (start : Result Start MessageError) → length text ≤ n → IsShortMessage n (and_then start (clean_start (before_line_end text) (after_line_end text)))
    begun n (Ok start) le = clean n (is_clean (before_line_end text)) start (after_line_end text) (within_more (length text) n (after_line_end text) le (after_within text))
    begun n (Err e) le = tt

    by : (t : Bool) → nat_lt max_datagram (length text) ≡ t → IsShortMessage max_datagram (cond t (Err TooLong) (and_then (start_of (before_line_end text)) (clean_start (before_line_end text) (after_line_end text))))
    by true e = tt
    by false e = begun max_datagram (start_of (before_line_end text)) (ltb-false max_datagram (length text) e)

-- ---- what a body describes

same_read : (read : Result Description DescriptionError) → rules.if_read read ≡ traces.if_read read
same_read (Ok d) = refl
same_read (Err e) = refl

-- what the rules take as a description is what a trace sees
described_in : (headers : List Header) (body : List ℕ) → described headers body ≡ description_in headers body
unfolding described description_in rules.content_rule may_describe
described_in headers body = by (has_description_type headers) (is_uncoded headers)
  where
    by : (b c : Bool) → rules.described_by (cond b (cond c None (Some content.Encoding)) (Some content.«Type»)) body ≡ cond (b && c) (traces.if_read (description_of body)) None
    by true true = same_read (description_of body)
    by true false = refl
    by false c = refl

pub description_seen : (bytes : List ℕ) (m : Message) → (trace_message bytes m).description ≡ described (headers_in m) (body_in m)
unfolding trace_message
description_seen bytes m = sym (described_in (headers_in m) (body_in m))

pub body_read : BodiesDescribe → (bytes : List ℕ) (m : Message) (d : Description) → message_of bytes ≡ Ok m → described (headers_in m) (body_in m) ≡ Some d → WasRead d
body_read describes bytes m d read said = record {
  text = body_in m;
  reads = ((describes bytes m d).0 (description_seen bytes m ∙ said)).1;
  fits = subst (IsShortMessage max_datagram) read (message_short bytes);
}

pub body_read_if : BodiesDescribe → (bytes : List ℕ) (m : Message) (d : Option Description) → message_of bytes ≡ Ok m → described (headers_in m) (body_in m) ≡ d → WasReadIf d
body_read_if describes bytes m None read said = tt
body_read_if describes bytes m (Some d) read said = body_read describes bytes m d read said

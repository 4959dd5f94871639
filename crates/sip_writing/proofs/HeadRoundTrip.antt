-- What is written for headers of the written form is read again as those headers.
use Rattle.std.proofs.Common.{◌≡◌, ℕ, suc, ◌<◌, true, false, not, ◌&&◌, eqb, codes, List, [], ◌∷◌, ◌++◌, length, map, Option, Some, refl, sym, ap, ◌∙◌, append_assoc, arith}
use Rattle.std.specs.Prelude.{nat_eq, is_some, unwrap_or}
use Rattle.std.specs.List.{list_all}
use Rattle.std.specs.Cmp.Lexicographic.{pointwise, bytes_decides}
use Rattle.std.proofs.lemmas.Bool.{and_parts, and_from}
use Rattle.text.specs.Class.{is_token_byte, is_run_of}
use Rattle.text.specs.Cut.{before, after}
use Rattle.text.specs.Trim.{trimmed}
use Rattle.text.proofs.CutLaws.{Lacks, Lacks-from_class, before_at, after_at}
use Rattle.sip_message.specs.Lines.{is_clean, lines_text}
use Rattle.sip_message.specs.HeaderNames.{long_name}
use Rattle.sip_message.specs.Fields.{RawField, begins_blank, name_of, begun_value, is_named_line, is_raw_field, value_of, field_of}
use Rattle.sip_message.specs.Glue.{glue}
use Rattle.sip_message.specs.Head.{all_lines, ReadsHead, line_count, head_of}
use Rattle.sip_message.specs.Written.{is_written}
use Rattle.sip_writing.specs.Writing.{header_text, headers_text}
use Rattle.sip_message.specs.declared.headers.Header.{Header}
use Rattle.sip_message.proofs.FieldLaws.{is_field}
use Rattle.sip_message.proofs.HeadLaws.{head_again}
use Rattle.sip_message.proofs.WrittenLaws.{Written, written_is}
use Rattle.sip_message.proofs.ValueLaws.{token_clean, token_front, token_trimmed, clean_joined}

-- a header's line
abbrev line_of : Header → List ℕ
line_of h = h.name ++ codes ": " ++ h.value

abbrev raw_of : Header → RawField
raw_of h = record { first = line_of h; more = [] }

all_token : (h : Header) → Written h → list_all is_token_byte h.name ≡ true
all_token h w = (and_parts (not (eqb (length h.name) 0)) (list_all is_token_byte h.name) w.token).1

parted : (h : Header) → line_of h ≡ h.name ++ 58 ∷ 32 ∷ h.value
parted h = append_assoc h.name (58 ∷ 32 ∷ []) h.value

lacks_colon : (h : Header) → Written h → Lacks 58 h.name
lacks_colon h w = Lacks-from_class is_token_byte 58 refl h.name (all_token h w)

name_again : (h : Header) → Written h → name_of (line_of h) ≡ h.name
name_again h w =
    let cut : before 58 (line_of h) ≡ h.name = ap (before 58) (parted h) ∙ before_at 58 h.name (Some (32 ∷ h.value)) (lacks_colon h w) in
    ap trimmed cut ∙ token_trimmed h.name (all_token h w)

behind_colon : (h : Header) → Written h → after 58 (line_of h) ≡ Some (32 ∷ h.value)
behind_colon h w = ap (after 58) (parted h) ∙ after_at 58 h.name (Some (32 ∷ h.value)) (lacks_colon h w)

glue_nothing : (t : List ℕ) → glue t [] ≡ t
glue_nothing [] = refl
glue_nothing (x ∷ t) = refl

value_again : (h : Header) → Written h → value_of (line_of h) [] ≡ h.value
value_again h w =
    let begun : begun_value (line_of h) ≡ 32 ∷ h.value = ap (λ (o : Option (List ℕ)). unwrap_or o []) (behind_colon h w) in
    glue_nothing (trimmed (begun_value (line_of h))) ∙ ap trimmed begun ∙ w.trim

abbrev header_on : List ℕ → List ℕ → Header
header_on name value = record { name = name; value = value }

field_again : (h : Header) → Written h → field_of (raw_of h) ≡ h
unfolding field_of
field_again h w =
    ap (λ (n : List ℕ). header_on (long_name n) (value_of (line_of h) [])) (name_again h w) ∙ ap (λ (n : List ℕ). header_on n (value_of (line_of h) [])) w.long ∙ ap (header_on h.name) (value_again h w)

begins : (h : Header) → Written h → begins_blank (line_of h) ≡ false
begins h w = step h.name (token_front h.name (all_token h w)) w.token where
  step : (name : List ℕ) → begins_blank name ≡ false → is_run_of is_token_byte name ≡ true → begins_blank (name ++ codes ": " ++ h.value) ≡ false
  step [] front some = absurd cc
  step (b ∷ name) front some = front

raw_form : (h : Header) → Written h → is_raw_field (raw_of h) ≡ true
raw_form h w =
    let named : is_named_line (line_of h) ≡ true = and_from (is_some (after 58 (line_of h))) (is_run_of is_token_byte (name_of (line_of h))) (ap is_some (behind_colon h w)) (ap (is_run_of is_token_byte) (name_again h w) ∙ w.token) in
    let clean : is_clean (line_of h) ≡ true = clean_joined (h.name ++ codes ": ") h.value (clean_joined h.name (codes ": ") (token_clean h.name (all_token h w)) refl) w.clean in
    is_field (raw_of h) (record { begins = begins h w; named = named; clean = clean; goes_on = refl })

-- ---- all headers

fields_text : (hs : List Header) → headers_text hs ≡ lines_text (all_lines (map raw_of hs))
fields_text [] = refl
fields_text (h ∷ hs) = ap (λ (t : List ℕ). header_text h ++ t) (fields_text hs)

fields_form : (hs : List Header) → list_all is_written hs ≡ true → list_all is_raw_field (map raw_of hs) ≡ true
fields_form [] e = refl
fields_form (h ∷ hs) e =
    let parts = and_parts (is_written h) (list_all is_written hs) e in
    and_from (is_raw_field (raw_of h)) (list_all is_raw_field (map raw_of hs)) (raw_form h (written_is h parts.0)) (fields_form hs parts.1)

fields_say : (hs : List Header) → list_all is_written hs ≡ true → hs ≡ map field_of (map raw_of hs)
fields_say [] e = refl
fields_say (h ∷ hs) e =
    let parts = and_parts (is_written h) (list_all is_written hs) e in
    ap (λ (x : Header). x ∷ hs) (sym (field_again h (written_is h parts.0))) ∙ ap (λ (xs : List Header). field_of (raw_of h) ∷ xs) (fields_say hs parts.1)

lines_count : (hs : List Header) → length (all_lines (map raw_of hs)) ≡ length hs
lines_count [] = refl
lines_count (h ∷ hs) = ap (λ (n : ℕ). suc n) (lines_count hs)

-- what is written is a head, with a line for each header
pub head_written : (hs : List Header) (body : List ℕ) → list_all is_written hs ≡ true → (reads : ReadsHead (headers_text hs ++ 13 ∷ 10 ∷ body) hs body) × (line_count reads ≡ length hs)
head_written hs body e =
    let reads : ReadsHead (headers_text hs ++ 13 ∷ 10 ∷ body) hs body = record {
      fields = map raw_of hs;
      whole = ap (λ (t : List ℕ). t ++ 13 ∷ 10 ∷ body) (fields_text hs);
      each = fields_form hs e;
      says = fields_say hs e;
    } in
    (reads, lines_count hs)

-- and it is read so within a limit
pub written_again : (limit : ℕ) (hs : List Header) (body : List ℕ) → list_all is_written hs ≡ true → length hs < limit → head_of limit (headers_text hs ++ 13 ∷ 10 ∷ body) ≡ Some (hs, body)
written_again limit hs body e few = let w = head_written hs body e in head_again limit (headers_text hs ++ 13 ∷ 10 ∷ body) hs body w.0 (omega (arith, w.1))

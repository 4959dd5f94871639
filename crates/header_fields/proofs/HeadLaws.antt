-- What is read is the head of the text, and a head of a text is read.
use Rattle.std.proofs.Common.{◌≡◌, ℕ, ◌+◌, ◌<◌, Bool, true, false, ◌&&◌, cond, List, ◌∷◌, ◌++◌, length, map, Option, Some, None, refl, sym, ap, subst, ◌∙◌, arith}
use Rattle.std.specs.Prelude.{option_map, option_and_then, IfOk, IfErr, Result, Ok, Err}
use Rattle.std.specs.Borrow.{Bor}
use Rattle.std.specs.List.{list_all}
use Rattle.std.proofs.lemmas.Bool.{and_parts}
use Rattle.header_fields.specs.Lines.{IsHead, lines_text, lines_within}
use Rattle.header_fields.specs.Fields.{RawField, is_raw_field, field_of, fields_of, begins_a_field, has_name, headers_of}
use Rattle.header_fields.specs.Head.{all_lines, ReadsHead, line_count, head_of, GivesHead, RefusesHead}
use Rattle.header_fields.specs.declared.headers.Header.{Header}
use Rattle.header_fields.specs.declared.head.HeadError.{HeadError}
use Rattle.header_fields.specs.declared.head.HeadError.TheVariants.{OutOfMemory, Line}
use Rattle.header_fields.proofs.HeaderLineLaws.{lines_again, lines_are}
use Rattle.header_fields.proofs.FieldLaws.{fields_again, lines_joined, all_begin, names_there, lines_clean, raw_fields}

abbrev Lines : Type 0
Lines = List (List ℕ) × List ℕ

abbrev Head : Type 0
Head = List Header × List ℕ

abbrev head_on : List Header → List ℕ → Head
head_on headers body = (headers, body)

abbrev on_body : List ℕ → Option (List Header) → Option Head
on_body body o = option_map (λ headers. head_on headers body) o

abbrev then_headers : Option Lines → Option Head
then_headers o = option_and_then (λ x. on_body x.1 (headers_of x.0)) o

-- ---- a head that is there is read

headers_again : (fields : List RawField) → list_all is_raw_field fields ≡ true → headers_of (all_lines fields) ≡ Some (map field_of fields)
headers_again fields h = rw (all_begin fields h, fields_again fields h, names_there fields h) refl

pub head_again : (limit : ℕ) (text : List ℕ) (headers : List Header) (body : List ℕ) (reads : ReadsHead text headers body) → line_count reads < limit → head_of limit text ≡ Some (headers, body)
unfolding head_of
head_again limit text headers body reads few =
    let lines : lines_within limit text ≡ Some (all_lines reads.fields, body) =
    ap (lines_within limit) reads.whole ∙ lines_again limit (all_lines reads.fields) body few (lines_clean reads.fields reads.each) in
    ap then_headers lines ∙ ap (on_body body) (headers_again reads.fields reads.each) ∙ ap (λ (hs : List Header). Some (head_on hs body)) (sym reads.says)

-- ---- a head that is read is there

abbrev found : Head → Option Head
found x = Some x

head_same : (x y : Head) → found x ≡ found y → x ≡ y
head_same x y e = cc

pub record Reads (limit : ℕ) (text : List ℕ) (x : Head) : Type 0 where
  pub reads : ReadsHead text x.0 x.1
  pub few : line_count reads < limit

from_lines : (limit : ℕ) (text : List ℕ) (lines : List (List ℕ)) (body : List ℕ) (y : Head) → IsHead text lines body → length lines < limit → on_body body (headers_of lines) ≡ Some y → Reads limit text y
from_lines limit text lines body y head few h = step (begins_a_field lines && list_all has_name (fields_of lines)) refl h where
  step : (b : Bool) → (begins_a_field lines && list_all has_name (fields_of lines)) ≡ b → on_body body (cond b (Some (map field_of (fields_of lines))) None) ≡ Some y → Reads limit text y
  step true tested k =
      let parts = and_parts (begins_a_field lines) (list_all has_name (fields_of lines)) tested in
      let joined : all_lines (fields_of lines) ≡ lines = lines_joined lines parts.0 in
      let reads : ReadsHead text (map field_of (fields_of lines)) body = record {
        fields = fields_of lines;
        whole = head.whole ∙ ap (λ (ls : List (List ℕ)). lines_text ls ++ (13 ∷ 10 ∷ body)) (sym joined);
        each = raw_fields lines head.each parts.1;
        says = refl;
      } in
      let count : length (all_lines (fields_of lines)) ≡ length lines = ap length joined in
      subst (λ (x : Head). Reads limit text x) (head_same (head_on (map field_of (fields_of lines)) body) y k) (record { reads = reads; few = omega arith })
  step false tested k = absurd cc

pub head_is : (limit : ℕ) (text : List ℕ) (y : Head) → head_of limit text ≡ Some y → Reads limit text y
unfolding head_of
head_is limit text y h = step (lines_within limit text) refl h where
  step : (o : Option Lines) → lines_within limit text ≡ o → then_headers o ≡ Some y → Reads limit text y
  step None e k = absurd cc
  step (Some x) e k = let is = lines_are limit text x e in from_lines limit text x.0 x.1 y is.0 is.1 k

-- ---- a text has at most one head

pub one_head : (text : List ℕ) (hs ks : List Header) (bs cs : List ℕ) → ReadsHead text hs bs → ReadsHead text ks cs → (hs ≡ ks) × (bs ≡ cs)
one_head text hs ks bs cs r q =
    let limit : ℕ = line_count r + line_count q + 1 in
    let a : head_of limit text ≡ Some (hs, bs) = head_again limit text hs bs r (omega arith) in
    let b : head_of limit text ≡ Some (ks, cs) = head_again limit text ks cs q (omega arith) in
    let same : head_on hs bs ≡ head_on ks cs = head_same (head_on hs bs) (head_on ks cs) (sym a ∙ b) in
    (ap (λ (x : Head). x.0) same, ap (λ (x : Head). x.1) same)

some_none : (x : Head) → found x ≡ None → ⊥
some_none x e = cc

-- ---- at a call that gives what reading gives

pub found_at : (limit : ℕ) (text : List ℕ) (r : Result (List Header × Bor (List ℕ)) HeadError) → GivesHead r (head_of limit text)
    → IfOk r (λ x. (reads : ReadsHead text x.0 x.1.now) × (line_count reads < limit))
found_at limit text (Ok x) gives = let m = head_is limit text (x.0, x.1.now) gives in (m.reads, m.few)
found_at limit text (Err e) gives = tt

pub only_at : (limit : ℕ) (text : List ℕ) (r : Result (List Header × Bor (List ℕ)) HeadError) (headers : List Header) (body : List ℕ) (reads : ReadsHead text headers body) → GivesHead r (head_of limit text)
    → line_count reads < limit → GivesHead r (Some (headers, body))
only_at limit text r headers body reads gives few = subst (λ (o : Option Head). GivesHead r o) (head_again limit text headers body reads few) gives

pub refused_at : (limit : ℕ) (text : List ℕ) (r : Result (List Header × Bor (List ℕ)) HeadError) → GivesHead r (head_of limit text) → IfErr r (λ e. RefusesHead limit text e)
refused_at limit text (Ok x) gives = tt
refused_at limit text (Err OutOfMemory) gives = tt
refused_at limit text (Err Line) gives = λ headers body reads few. let e : found (head_on headers body) ≡ None = sym (head_again limit text headers body reads few) ∙ gives in some_none (head_on headers body) e

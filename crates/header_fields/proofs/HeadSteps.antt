-- A line more of the header fields of a datagram.
use Rattle.std.proofs.Common.{◌≡◌, ℕ, suc, ◌+◌, ◌-◌, ◌<◌, ◌≤◌, Bool, true, false, cond, eqb, List, [], ◌∷◌, ◌++◌, length, map, take, drop, Option, Some, None, refl, sym, ap, subst, ◌∙◌, append_assoc, length-append, arith}
use Rattle.header_fields.specs.declared.head.HeadError.{HeadError}
use Rattle.header_fields.specs.declared.head.HeadError.TheVariants.{Line}
use Rattle.std.specs.Prelude.{Err, option_map, option_and_then, unwrap_or, is_some}
use Rattle.std.specs.List.{list_all}
use Rattle.std.proofs.lemmas.Bool.{and_parts}
use Rattle.std.proofs.lemmas.List.{append-nil}
use Rattle.text.specs.Trim.{trimmed}
use Rattle.text.specs.Class.{is_token_byte, is_run_of}
use Rattle.text.specs.Cut.{before, after, led_by}
use Rattle.text.proofs.CutLaws.{joined}
use Rattle.header_fields.specs.Glue.{glue, unfolded}
use Rattle.header_fields.specs.HeaderNames.{long_name}
use Rattle.header_fields.specs.Lines.{is_text_byte, is_clean, line_of, with_lines, next_lines, lines_within}
use Rattle.header_fields.specs.Fields.{RawField, begins_blank, name_of, begun_value, is_named_line, name_and_value, field_of, header_of, has_name, continued, fields_of, headers_of}
use Rattle.header_fields.specs.Head.{head_of}
use Rattle.header_fields.specs.Steps.{gone_on, with_line, last_value, OpenAt, IsOpen, GivesLine}
use Rattle.header_fields.specs.Folded.{unfolded_text}
use Rattle.header_fields.specs.declared.headers.Header.{Header}
use Rattle.header_fields.proofs.RawLaws.{glue_nothing, glue_assoc, one_more, only_line}

-- ---- lists

take_front : (xs ys : List ℕ) (n : ℕ) → n ≡ length xs → take n (xs ++ ys) ≡ xs
take_front [] ys n e = rw e refl
take_front (x ∷ xs) ys n e = rw e (ap (λ (t : List ℕ). x ∷ t) (take_front xs ys (length xs) refl))

drop_front : (xs ys : List ℕ) (n : ℕ) → n ≡ length xs → drop n (xs ++ ys) ≡ ys
drop_front [] ys n e = rw e refl
drop_front (x ∷ xs) ys n e = rw e (drop_front xs ys (length xs) refl)

clean_back : (xs ys : List ℕ) → is_clean (xs ++ ys) ≡ true → is_clean ys ≡ true
clean_back [] ys h = h
clean_back (x ∷ xs) ys h = clean_back xs ys (and_parts (is_text_byte x) (is_clean (xs ++ ys)) h).1

-- ---- the last field

last_is : (front : List Header) (h : Header) → last_value (front ++ h ∷ []) ≡ Some h.value
last_is [] h = refl
last_is (f ∷ []) h = refl
last_is (f ∷ g ∷ front) h = last_is (g ∷ front) h

abbrev pub longer : Header → List ℕ → Header
longer h piece = record h { value = glue h.value piece }

goes_on : (front : List Header) (h : Header) (piece : List ℕ) → gone_on (front ++ h ∷ []) piece ≡ Some (front ++ longer h piece ∷ [])
goes_on [] h piece = refl
goes_on (f ∷ []) h piece = refl
goes_on (f ∷ g ∷ front) h piece = ap (option_map (λ (rest : List Header). f ∷ rest)) (goes_on (g ∷ front) h piece)

-- ---- a line that continues a field

abbrev pub given : Header → List ℕ → Header
given h value = record h { value = value }

pub blank_step : (old new front : List Header) (h : Header) (field rest line behind raw : List ℕ) → rest ≡ line ++ 13 ∷ 10 ∷ behind → is_clean line ≡ true → IsOpen old field rest → begins_blank line ≡ true
    → raw ≡ take (length field - (length behind + 2)) field → old ≡ front ++ h ∷ [] → new ≡ front ++ given h (unfolded_text raw) ∷ []
    → (with_line old line ≡ Some new) × IsOpen new field behind
blank_step old new front h field rest line behind raw parts clean is_open blank cut was is =
    let at_last : OpenAt (Some h.value) field rest = subst (λ (o : Option (List ℕ)). OpenAt o field rest) (ap last_value was ∙ last_is front h) is_open in
    let begun : List ℕ = at_last.0 in
    let whole : field ≡ (begun ++ 13 ∷ 10 ∷ line) ++ 13 ∷ 10 ∷ behind =
    at_last.1 ∙ ap (λ (t : List ℕ). begun ++ 13 ∷ 10 ∷ t) parts ∙ sym (append_assoc begun (13 ∷ 10 ∷ line) (13 ∷ 10 ∷ behind)) in
    let count : length field ≡ length (begun ++ 13 ∷ 10 ∷ line) + suc (suc (length behind)) = ap length whole ∙ length-append (begun ++ 13 ∷ 10 ∷ line) (13 ∷ 10 ∷ behind) in
    let here : raw ≡ begun ++ 13 ∷ 10 ∷ line =
    cut ∙ ap (take (length field - (length behind + 2))) whole ∙ take_front (begun ++ 13 ∷ 10 ∷ line) (13 ∷ 10 ∷ behind) (length field - (length behind + 2)) (omega (arith, count)) in
    let value : unfolded_text raw ≡ glue h.value (trimmed line) = ap unfolded_text here ∙ one_more begun line clean ∙ ap (λ (t : List ℕ). glue t (trimmed line)) (sym at_last.2) in
    let same : new ≡ front ++ longer h (trimmed line) ∷ [] = is ∙ ap (λ (v : List ℕ). front ++ given h v ∷ []) value in
    let read : with_line old line ≡ Some new = rw blank (ap (λ (hs : List Header). gone_on hs (trimmed line)) was ∙ goes_on front h (trimmed line) ∙ ap (λ (hs : List Header). Some hs) (sym same)) in
    let last : last_value new ≡ Some (unfolded_text raw) = ap last_value is ∙ last_is front (given h (unfolded_text raw)) in
    (read, subst (λ (o : Option (List ℕ)). OpenAt o field behind) (sym last) (raw, whole ∙ ap (λ (t : List ℕ). t ++ 13 ∷ 10 ∷ behind) (sym here), refl))

-- the text from the field on has room for the line end
pub is_room : (old : List Header) (field rest line behind : List ℕ) → rest ≡ line ++ 13 ∷ 10 ∷ behind → IsOpen old field rest → (old ≡ [] → ⊥) → length behind + 2 ≤ length field
is_room old field rest line behind parts is_open some = step (last_value old) refl is_open where
  none_last : (hs : List Header) → last_value hs ≡ None → hs ≡ []
  none_last [] h = refl
  none_last (f ∷ []) h = absurd cc
  none_last (f ∷ g ∷ hs) h = absurd (no (none_last (g ∷ hs) h)) where
    no : g ∷ hs ≡ [] → ⊥
    no k = cc

  step : (o : Option (List ℕ)) → last_value old ≡ o → OpenAt o field rest → length behind + 2 ≤ length field
  step None e k = absurd (some (none_last old e))
  step (Some v) e k =
      let whole : length field ≡ length k.0 + suc (suc (length rest)) = ap length k.1 ∙ length-append k.0 (13 ∷ 10 ∷ rest) in
      let line_in : length rest ≡ length line + suc (suc (length behind)) = ap length parts ∙ length-append line (13 ∷ 10 ∷ behind) in
      omega (arith, whole, line_in)

-- ---- a line that begins a field

abbrev pair_of : List ℕ → List ℕ → List ℕ × List ℕ
pair_of l r = (l, r)

abbrev some_of : List ℕ → List ℕ → Option (List ℕ × List ℕ)
some_of l r = Some (l, r)

same_pair : (l r line rest : List ℕ) → some_of l r ≡ some_of line rest → (l ≡ line) × (r ≡ rest)
same_pair l r line rest e = let p : pair_of l r ≡ pair_of line rest = cc in (ap (λ (x : List ℕ × List ℕ). x.0) p, ap (λ (x : List ℕ × List ℕ). x.1) p)

named_parts : (line name begun : List ℕ) → name_and_value line ≡ Some (name, begun) → (is_named_line line ≡ true) × (name_of line ≡ name) × (begun_value line ≡ begun)
named_parts line name begun h = step (is_named_line line) h where
  step : (b : Bool) → cond b (some_of (name_of line) (begun_value line)) None ≡ some_of name begun → (b ≡ true) × (name_of line ≡ name) × (begun_value line ≡ begun)
  step true k = let same = same_pair (name_of line) (begun_value line) name begun k in (refl, same.0, same.1)
  step false k = absurd cc

colon_parts : (line : List ℕ) → is_named_line line ≡ true → line ≡ (before 58 line ++ 58 ∷ []) ++ begun_value line
colon_parts line h = step (after 58 line) refl (and_parts (is_some (after 58 line)) (is_run_of is_token_byte (name_of line)) h).0 where
  step : (o : Option (List ℕ)) → after 58 line ≡ o → is_some o ≡ true → line ≡ (before 58 line ++ 58 ∷ []) ++ begun_value line
  step None e k = absurd cc
  step (Some t) e k =
      sym (joined 58 line) ∙ ap (λ (o : Option (List ℕ)). before 58 line ++ led_by 58 o) e ∙ sym (append_assoc (before 58 line) (58 ∷ []) t) ∙ ap (λ (o : Option (List ℕ)). (before 58 line ++ 58 ∷ []) ++ unwrap_or o []) (sym e)

pub begun_within : (line name begun : List ℕ) → name_and_value line ≡ Some (name, begun) → length begun ≤ length line
begun_within line name begun h =
    let p = named_parts line name begun h in
    let whole : length line ≡ length (before 58 line ++ 58 ∷ []) + length (begun_value line) = ap length (colon_parts line p.0) ∙ length-append (before 58 line ++ 58 ∷ []) (begun_value line) in
    let same : length (begun_value line) ≡ length begun = ap length p.2 in
    omega (arith, whole, same)

abbrev pub alone : List ℕ → RawField
alone line = record { first = line; more = [] }

abbrev pub single : List ℕ → List ℕ → Header
single name begun = record { name = long_name name; value = trimmed begun }

single_is : (line name begun : List ℕ) → name_and_value line ≡ Some (name, begun) → header_of (alone line) ≡ Some (single name begun)
unfolding field_of
single_is line name begun h =
    let p = named_parts line name begun h in
    rw (p.0, p.1, p.2, glue_nothing (trimmed begun)) refl

pub named_step : (old new : List Header) (rest line behind name begun next : List ℕ) → rest ≡ line ++ 13 ∷ 10 ∷ behind → is_clean line ≡ true → begins_blank line ≡ false → name_and_value line ≡ Some (name, begun)
    → new ≡ old ++ single name begun ∷ [] → next ≡ drop (length line - length begun) rest → (with_line old line ≡ Some new) × IsOpen new next behind
named_step old new rest line behind name begun next parts clean starts named is cut =
    let p = named_parts line name begun named in
    let front : List ℕ = before 58 line ++ 58 ∷ [] in
    let whole : line ≡ front ++ begun = colon_parts line p.0 ∙ ap (λ (t : List ℕ). front ++ t) p.2 in
    let count : length line ≡ length front + length begun = ap length whole ∙ length-append front begun in
    let text : rest ≡ front ++ (begun ++ 13 ∷ 10 ∷ behind) = parts ∙ ap (λ (t : List ℕ). t ++ 13 ∷ 10 ∷ behind) whole ∙ append_assoc front begun (13 ∷ 10 ∷ behind) in
    let here : next ≡ begun ++ 13 ∷ 10 ∷ behind = cut ∙ ap (drop (length line - length begun)) text ∙ drop_front front (begun ++ 13 ∷ 10 ∷ behind) (length line - length begun) (omega (arith, count)) in
    let value : trimmed begun ≡ unfolded_text begun = sym (only_line begun (clean_back front begun (ap is_clean (sym whole) ∙ clean))) in
    let read : with_line old line ≡ Some new = rw (starts, single_is line name begun named) (ap (λ (hs : List Header). Some hs) (sym is)) in
    let last : last_value new ≡ Some (trimmed begun) = ap last_value is ∙ last_is old (single name begun) in
    (read, subst (λ (o : Option (List ℕ)). OpenAt o next behind) (sym last) (begun, here, value))

pub no_name : (old : List Header) (line : List ℕ) → begins_blank line ≡ false → name_and_value line ≡ None → with_line old line ≡ None
no_name old line starts none = step (is_named_line line) refl none where
  step : (b : Bool) → is_named_line line ≡ b → cond b (some_of (name_of line) (begun_value line)) None ≡ None → with_line old line ≡ None
  step true e k = absurd cc
  step false e k = rw (starts, e) refl

pub nothing_goes_on : (old : List Header) (line : List ℕ) → begins_blank line ≡ true → old ≡ [] → with_line old line ≡ None
nothing_goes_on old line blank none = rw (none, blank) refl

-- ---- all lines

abbrev pub added : List Header → List (List ℕ) → Option (List Header)
added hs [] = Some hs
added hs (line ∷ lines) = option_and_then (λ more. added more lines) (with_line hs line)

abbrev ended : List Header → Header → List (List ℕ) → Option (List Header)
ended front h lines = cond (list_all has_name (fields_of lines)) (Some ((front ++ longer h (unfolded (map trimmed (continued lines))) ∷ []) ++ map field_of (fields_of lines))) None

abbrev pieces_of : List (List ℕ) → List ℕ
pieces_of lines = unfolded (map trimmed (continued lines))

abbrev headers_in : List (List ℕ) → List Header
headers_in lines = map field_of (fields_of lines)

added_open : (front : List Header) (h : Header) (lines : List (List ℕ)) → added (front ++ h ∷ []) lines ≡ ended front h lines
unfolding field_of
added_open front h [] = ap (λ (v : List ℕ). Some (front ++ given h v ∷ [])) (sym (glue_nothing h.value)) ∙ ap (λ (hs : List Header). Some hs) (sym (append-nil (front ++ longer h [] ∷ [])))
added_open front h (line ∷ lines) = step (begins_blank line) refl (λ k. added_open front k lines) (λ k. added_open (front ++ h ∷ []) k lines) where
  named : (b : Bool) → is_named_line line ≡ b → begins_blank line ≡ false → ((k : Header) → added ((front ++ h ∷ []) ++ k ∷ []) lines ≡ ended (front ++ h ∷ []) k lines)
      → added (front ++ h ∷ []) (line ∷ lines) ≡ ended front h (line ∷ lines)
  named false e starts on = rw (starts, e) refl
  named true e starts on =
      let k : Header = field_of (alone line) in
      let value : longer k (pieces_of lines) ≡ field_of (record { first = line; more = continued lines }) =
      ap (λ (v : List ℕ). record { name = long_name (name_of line); value = glue v (pieces_of lines) }) (glue_nothing (trimmed (begun_value line))) in
      let same : ((front ++ h ∷ []) ++ longer k (pieces_of lines) ∷ []) ++ headers_in lines ≡ (front ++ longer h [] ∷ []) ++ field_of (record { first = line; more = continued lines }) ∷ headers_in lines =
      append_assoc (front ++ h ∷ []) (longer k (pieces_of lines) ∷ []) (headers_in lines) ∙ ap (λ (x : Header). (front ++ h ∷ []) ++ x ∷ headers_in lines) value
      ∙ ap (λ (v : List ℕ). (front ++ given h v ∷ []) ++ field_of (record { first = line; more = continued lines }) ∷ headers_in lines) (sym (glue_nothing h.value)) in
      rw (starts, e) (on k ∙ ap (λ (hs : List Header). cond (list_all has_name (fields_of lines)) (Some hs) None) same)

  step : (b : Bool) → begins_blank line ≡ b → ((k : Header) → added (front ++ k ∷ []) lines ≡ ended front k lines) → ((k : Header) → added ((front ++ h ∷ []) ++ k ∷ []) lines ≡ ended (front ++ h ∷ []) k lines)
      → added (front ++ h ∷ []) (line ∷ lines) ≡ ended front h (line ∷ lines)
  step true blank on next =
      let value : longer (longer h (trimmed line)) (pieces_of lines) ≡ longer h (glue (trimmed line) (pieces_of lines)) = ap (given h) (glue_assoc h.value (trimmed line) (pieces_of lines)) in
      rw (blank, goes_on front h (trimmed line)) (on (longer h (trimmed line)) ∙ ap (λ (x : Header). cond (list_all has_name (fields_of lines)) (Some ((front ++ x ∷ []) ++ headers_in lines)) None) value)
  step false blank on next = named (is_named_line line) refl blank next

pub added_all : (lines : List (List ℕ)) → added [] lines ≡ headers_of lines
unfolding field_of
added_all [] = refl
added_all (line ∷ lines) = step (begins_blank line) refl where
  named : (b : Bool) → is_named_line line ≡ b → begins_blank line ≡ false → added [] (line ∷ lines) ≡ headers_of (line ∷ lines)
  named false e starts = rw (starts, e) refl
  named true e starts =
      let k : Header = field_of (alone line) in
      let value : longer k (pieces_of lines) ≡ field_of (record { first = line; more = continued lines }) =
      ap (λ (v : List ℕ). record { name = long_name (name_of line); value = glue v (pieces_of lines) }) (glue_nothing (trimmed (begun_value line))) in
      rw (starts, e) (added_open [] k lines ∙ ap (λ (x : Header). cond (list_all has_name (fields_of lines)) (Some (x ∷ map field_of (fields_of lines))) None) value)

  step : (b : Bool) → begins_blank line ≡ b → added [] (line ∷ lines) ≡ headers_of (line ∷ lines)
  step true blank = rw blank refl
  step false blank = named (is_named_line line) refl blank

-- ---- the loop

abbrev pub Read : Type 0
Read = Option (List (List ℕ) × List ℕ)

abbrev pub resumed : List Header → Read → Option (List Header × List ℕ)
resumed hs None = None
resumed hs (Some x) = option_map (λ all. (all, x.1)) (added hs x.0)

pub resumed_all : (limit : ℕ) (text : List ℕ) → resumed [] (lines_within limit text) ≡ head_of limit text
unfolding head_of
resumed_all limit text = step (lines_within limit text) where
  step : (o : Read) → resumed [] o ≡ option_and_then (λ x. option_map (λ headers. (headers, x.1)) (headers_of x.0)) o
  step None = refl
  step (Some x) = ap (option_map (λ (all : List Header). (all, x.1))) (added_all x.0)

line_on : (hs next : List Header) (line : List ℕ) (o : Read) → with_line hs line ≡ Some next → resumed hs (with_lines (line ∷ []) o) ≡ resumed next o
line_on hs next line None h = refl
line_on hs next line (Some x) h = rw h refl

line_off : (hs : List Header) (line : List ℕ) (o : Read) → with_line hs line ≡ None → resumed hs (with_lines (line ∷ []) o) ≡ None
line_off hs line None h = refl
line_off hs line (Some x) h = rw h refl

turn : (limit i : ℕ) (text : List ℕ) → i < limit → lines_within (limit - i) text ≡ next_lines (line_of text) (lines_within (limit - (i + 1)))
unfolding lines_within
turn limit i text lt = let k : limit - i ≡ suc (limit - (i + 1)) = omega arith in rw k refl

pub head_on : (hs next : List Header) (limit i : ℕ) (text line rest : List ℕ) (o : Option (List Header × List ℕ)) → i < limit → line_of text ≡ Some (line, rest) → eqb (length line) 0 ≡ false → with_line hs line ≡ Some next
    → resumed hs (lines_within (limit - i) text) ≡ o → resumed next (lines_within (limit - (i + 1)) rest) ≡ o
head_on hs next limit i text line rest o lt first some read so_far =
    let one : resumed hs (lines_within (limit - i) text) ≡ resumed next (lines_within (limit - (i + 1)) rest) = rw (turn limit i text lt, first, some) (line_on hs next line (lines_within (limit - (i + 1)) rest) read) in
    sym one ∙ so_far

pub head_off : (hs : List Header) (limit i : ℕ) (text line rest : List ℕ) (o : Option (List Header × List ℕ)) → i < limit → line_of text ≡ Some (line, rest) → eqb (length line) 0 ≡ false → with_line hs line ≡ None
    → resumed hs (lines_within (limit - i) text) ≡ o → o ≡ None
head_off hs limit i text line rest o lt first some read so_far =
    let one : resumed hs (lines_within (limit - i) text) ≡ None = rw (turn limit i text lt, first, some) (line_off hs line (lines_within (limit - (i + 1)) rest) read) in
    sym so_far ∙ one

pub head_stops : (hs : List Header) (limit i : ℕ) (text : List ℕ) (o : Option (List Header × List ℕ)) → i < limit → line_of text ≡ None → resumed hs (lines_within (limit - i) text) ≡ o → o ≡ None
head_stops hs limit i text o lt first so_far =
    let one : resumed hs (lines_within (limit - i) text) ≡ None = rw (turn limit i text lt, first) refl in
    sym so_far ∙ one

pub head_found : (hs : List Header) (limit i : ℕ) (text line rest : List ℕ) (o : Option (List Header × List ℕ)) → i < limit → line_of text ≡ Some (line, rest) → eqb (length line) 0 ≡ true
    → resumed hs (lines_within (limit - i) text) ≡ o → o ≡ Some (hs, rest)
head_found hs limit i text line rest o lt first empty so_far =
    let one : resumed hs (lines_within (limit - i) text) ≡ Some (hs, rest) = rw (turn limit i text lt, first, empty) refl in
    sym so_far ∙ one

pub head_runs_out : (hs : List Header) (limit i : ℕ) (text : List ℕ) (o : Option (List Header × List ℕ)) → limit ≤ i → resumed hs (lines_within (limit - i) text) ≡ o → o ≡ None
unfolding lines_within
head_runs_out hs limit i text o le so_far =
    let k : limit - i ≡ 0 = omega arith in
    let one : resumed hs (lines_within (limit - i) text) ≡ None = rw k refl in
    sym so_far ∙ one

pub not_nil : (hs : List Header) (n : ℕ) → n ≡ length hs → false ≡ eqb n 0 → hs ≡ [] → ⊥
not_nil hs n same h e = let k : false ≡ true = h ∙ ap (λ (m : ℕ). eqb m 0) same ∙ ap (λ (x : List Header). eqb (length x) 0) e in cc

pub head_begins : (hs : List Header) (limit : ℕ) (text : List ℕ) → hs ≡ [] → resumed hs (lines_within (limit - 0) text) ≡ head_of limit text
head_begins hs limit text none = let k : limit - 0 ≡ limit = omega arith in rw (none, k) (resumed_all limit text)

pub nothing_open : (hs : List Header) (field rest : List ℕ) → hs ≡ [] → IsOpen hs field rest
nothing_open hs field rest none = subst (λ (o : Option (List ℕ)). OpenAt o field rest) (sym (ap last_value none)) tt

pub line_refused : (e : HeadError) (new : List Header) (read : Option (List Header)) → e ≡ Line → GivesLine (Err e) new read → read ≡ None
line_refused e new read same h = subst (λ (x : HeadError). GivesLine (Err x) new read) same h

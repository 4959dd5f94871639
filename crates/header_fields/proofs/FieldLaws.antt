-- Lines that are grouped into fields, and fields that are put into lines.
use Rattle.std.proofs.Common.{◌≡◌, ℕ, suc, Bool, true, false, not, ◌&&◌, cond, eqb, List, [], ◌∷◌, ◌++◌, length, refl, sym, ap, ◌∙◌}
use Rattle.std.specs.List.{list_all}
use Rattle.std.proofs.lemmas.Bool.{and_parts, and_from, ne_eqb}
use Rattle.header_fields.specs.Lines.{is_clean, is_line}
use Rattle.header_fields.specs.Fields.{RawField, begins_blank, is_continuing, is_named_line, is_raw_field, continued, fields_of, begins_a_field, has_name}
use Rattle.header_fields.specs.Head.{all_lines}

-- ---- what a raw field is

pub record IsField (f : RawField) : Type 0 where
  pub begins : begins_blank f.first ≡ false
  pub named : is_named_line f.first ≡ true
  pub clean : is_clean f.first ≡ true
  pub goes_on : list_all is_continuing f.more ≡ true

not_true : (b : Bool) → not b ≡ true → b ≡ false
not_true true h = absurd cc
not_true false h = refl

pub field_is : (f : RawField) → is_raw_field f ≡ true → IsField f
unfolding is_raw_field
field_is f h =
    let a = and_parts (not (begins_blank f.first) && is_named_line f.first && is_clean f.first) (list_all is_continuing f.more) h in
    let b = and_parts (not (begins_blank f.first) && is_named_line f.first) (is_clean f.first) a.0 in
    let c = and_parts (not (begins_blank f.first)) (is_named_line f.first) b.0 in
    record { begins = not_true (begins_blank f.first) c.0; named = c.1; clean = b.1; goes_on = a.1 }

pub is_field : (f : RawField) → IsField f → is_raw_field f ≡ true
unfolding is_raw_field
is_field f h =
    let c = and_from (not (begins_blank f.first)) (is_named_line f.first) (ap not h.begins) h.named in
    let b = and_from (not (begins_blank f.first) && is_named_line f.first) (is_clean f.first) c h.clean in
    and_from (not (begins_blank f.first) && is_named_line f.first && is_clean f.first) (list_all is_continuing f.more) b h.goes_on

-- ---- fields, put into lines and grouped again

pub continuing_blank : (line : List ℕ) → is_continuing line ≡ true → begins_blank line ≡ true
continuing_blank line h = (and_parts (begins_blank line) (is_clean line) h).0

lines_pass : (more rest : List (List ℕ)) → list_all is_continuing more ≡ true → fields_of (more ++ rest) ≡ fields_of rest
lines_pass [] rest h = refl
lines_pass (line ∷ more) rest h =
    let parts = and_parts (is_continuing line) (list_all is_continuing more) h in
    rw (continuing_blank line parts.0) (lines_pass more rest parts.1)

-- lines that begin no field except those before them
lines_end : (rest : List (List ℕ)) → begins_a_field rest ≡ true → continued rest ≡ []
lines_end [] h = refl
lines_end (line ∷ rest) h = rw (not_true (begins_blank line) h) refl

lines_continue : (more rest : List (List ℕ)) → list_all is_continuing more ≡ true → begins_a_field rest ≡ true → continued (more ++ rest) ≡ more
lines_continue [] rest h k = lines_end rest k
lines_continue (line ∷ more) rest h k =
    let parts = and_parts (is_continuing line) (list_all is_continuing more) h in
    rw (continuing_blank line parts.0) (ap (λ (ls : List (List ℕ)). line ∷ ls) (lines_continue more rest parts.1 k))

pub all_begin : (fields : List RawField) → list_all is_raw_field fields ≡ true → begins_a_field (all_lines fields) ≡ true
all_begin [] h = refl
all_begin (f ∷ fields) h = ap not (field_is f (and_parts (is_raw_field f) (list_all is_raw_field fields) h).0).begins

pub fields_again : (fields : List RawField) → list_all is_raw_field fields ≡ true → fields_of (all_lines fields) ≡ fields
fields_again [] h = refl
fields_again (f ∷ fields) h =
    let parts = and_parts (is_raw_field f) (list_all is_raw_field fields) h in
    let is = field_is f parts.0 in
    let rest : List (List ℕ) = all_lines fields in
    let here : continued (f.more ++ rest) ≡ f.more = lines_continue f.more rest is.goes_on (all_begin fields parts.1) in
    let behind : fields_of (f.more ++ rest) ≡ fields = lines_pass f.more rest is.goes_on ∙ fields_again fields parts.1 in
    rw (is.begins, here, behind) refl

-- ---- lines, grouped and put together again

abbrev behind : List (List ℕ) → List (List ℕ)
behind [] = []
behind (line ∷ lines) = cond (begins_blank line) (behind lines) (line ∷ lines)

parted : (lines : List (List ℕ)) → continued lines ++ behind lines ≡ lines
parted [] = refl
parted (line ∷ lines) = step (begins_blank line) (parted lines) where
  step : (b : Bool) → continued lines ++ behind lines ≡ lines → cond b (line ∷ continued lines) [] ++ cond b (behind lines) (line ∷ lines) ≡ line ∷ lines
  step true h = ap (λ (ls : List (List ℕ)). line ∷ ls) h
  step false h = refl

lines_behind : (lines : List (List ℕ)) → all_lines (fields_of lines) ≡ behind lines
lines_behind [] = refl
lines_behind (line ∷ lines) = step (begins_blank line) (lines_behind lines) where
  step : (b : Bool) → all_lines (fields_of lines) ≡ behind lines → all_lines (cond b (fields_of lines) (record { first = line; more = continued lines } ∷ fields_of lines)) ≡ cond b (behind lines) (line ∷ lines)
  step true h = h
  step false h = ap (λ (ls : List (List ℕ)). line ∷ (continued lines ++ ls)) h ∙ ap (λ (ls : List (List ℕ)). line ∷ ls) (parted lines)

pub lines_joined : (lines : List (List ℕ)) → begins_a_field lines ≡ true → all_lines (fields_of lines) ≡ lines
lines_joined [] h = refl
lines_joined (line ∷ lines) h = lines_behind (line ∷ lines) ∙ rw (not_true (begins_blank line) h) refl

-- ---- clean lines make raw fields, and the other way round

line_clean : (line : List ℕ) → is_line line ≡ true → is_clean line ≡ true
line_clean line h = (and_parts (not (eqb (length line) 0)) (is_clean line) h).1

lines_go_on : (lines : List (List ℕ)) → list_all is_line lines ≡ true → list_all is_continuing (continued lines) ≡ true
lines_go_on [] h = refl
lines_go_on (line ∷ lines) h = step (begins_blank line) refl (lines_go_on lines (and_parts (is_line line) (list_all is_line lines) h).1) where
  step : (b : Bool) → begins_blank line ≡ b → list_all is_continuing (continued lines) ≡ true → list_all is_continuing (cond b (line ∷ continued lines) []) ≡ true
  step true e more = and_from (is_continuing line) (list_all is_continuing (continued lines)) (and_from (begins_blank line) (is_clean line) e (line_clean line (and_parts (is_line line) (list_all is_line lines) h).0)) more
  step false e more = refl

abbrev field_on : List ℕ → List (List ℕ) → RawField
field_on line lines = record { first = line; more = continued lines }

pub raw_fields : (lines : List (List ℕ)) → list_all is_line lines ≡ true → list_all has_name (fields_of lines) ≡ true → list_all is_raw_field (fields_of lines) ≡ true
raw_fields [] h k = refl
raw_fields (line ∷ lines) h k = step (begins_blank line) refl k (λ n. raw_fields lines parts.1 n) where
  parts : (is_line line ≡ true) × (list_all is_line lines ≡ true)
  parts = and_parts (is_line line) (list_all is_line lines) h

  step : (b : Bool) → begins_blank line ≡ b → list_all has_name (cond b (fields_of lines) (field_on line lines ∷ fields_of lines)) ≡ true → (list_all has_name (fields_of lines) ≡ true → list_all is_raw_field (fields_of lines) ≡ true)
      → list_all is_raw_field (cond b (fields_of lines) (field_on line lines ∷ fields_of lines)) ≡ true
  step true e n more = more n
  step false e n more =
      let names = and_parts (has_name (field_on line lines)) (list_all has_name (fields_of lines)) n in
      let is : IsField (field_on line lines) = record { begins = e; named = names.0; clean = line_clean line parts.0; goes_on = lines_go_on lines parts.1 } in
      and_from (is_raw_field (field_on line lines)) (list_all is_raw_field (fields_of lines)) (is_field (field_on line lines) is) (more names.1)

pub names_there : (fields : List RawField) → list_all is_raw_field fields ≡ true → list_all has_name fields ≡ true
names_there [] h = refl
names_there (f ∷ fields) h =
    let parts = and_parts (is_raw_field f) (list_all is_raw_field fields) h in
    and_from (has_name f) (list_all has_name fields) (field_is f parts.0).named (names_there fields parts.1)

-- a line that passes a test that no empty line passes
some_line : (p : List ℕ → Bool) (line : List ℕ) → p [] ≡ false → p line ≡ true → is_clean line ≡ true → is_line line ≡ true
some_line p [] none h clean = absurd (let e : true ≡ false = sym h ∙ none in cc)
some_line p (b ∷ bs) none h clean = rw (ne_eqb (suc (length bs)) 0 (λ e. cc)) clean

continuing_lines : (more : List (List ℕ)) → list_all is_continuing more ≡ true → list_all is_line more ≡ true
continuing_lines [] h = refl
continuing_lines (line ∷ more) h =
    let parts = and_parts (is_continuing line) (list_all is_continuing more) h in
    let both = and_parts (begins_blank line) (is_clean line) parts.0 in
    and_from (is_line line) (list_all is_line more) (some_line begins_blank line refl both.0 both.1) (continuing_lines more parts.1)

all_of : (p : List ℕ → Bool) (xs ys : List (List ℕ)) → list_all p xs ≡ true → list_all p ys ≡ true → list_all p (xs ++ ys) ≡ true
all_of p [] ys h k = k
all_of p (x ∷ xs) ys h k =
    let parts = and_parts (p x) (list_all p xs) h in
    and_from (p x) (list_all p (xs ++ ys)) parts.0 (all_of p xs ys parts.1 k)

pub lines_clean : (fields : List RawField) → list_all is_raw_field fields ≡ true → list_all is_line (all_lines fields) ≡ true
lines_clean [] h = refl
lines_clean (f ∷ fields) h =
    let parts = and_parts (is_raw_field f) (list_all is_raw_field fields) h in
    let is = field_is f parts.0 in
    let rest : list_all is_line (f.more ++ all_lines fields) ≡ true = all_of is_line f.more (all_lines fields) (continuing_lines f.more is.goes_on) (lines_clean fields parts.1) in
    and_from (is_line f.first) (list_all is_line (f.more ++ all_lines fields)) (some_line is_named_line f.first refl is.named is.clean) rest

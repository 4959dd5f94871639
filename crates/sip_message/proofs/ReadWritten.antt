-- Header fields that were read are of the written form.
use Rattle.std.proofs.Common.{◌≡◌, ℕ, Bool, true, false, not, ◌&&◌, cond, eqb, List, [], ◌∷◌, length, map, Option, Some, None, refl, sym, ap, ◌∙◌}
use Rattle.std.specs.Prelude.{nat_eq, is_some, unwrap_or, option_map, find, slice_index}
use Rattle.std.specs.Char.{to_ascii_lowercase}
use Rattle.std.specs.List.{list_all}
use Rattle.std.specs.Cmp.Lexicographic.{pointwise}
use Rattle.std.proofs.lemmas.Bool.{and_parts, and_from}
use Rattle.text.specs.Class.{is_token_byte, is_run_of}
use Rattle.text.specs.Cut.{after}
use Rattle.text.specs.Trim.{trimmed}
use Rattle.header_fields.specs.Lines.{is_clean}
use Rattle.sip_message.specs.HeaderNames.{compact_names, long_of, long_name}
use Rattle.header_fields.specs.Fields.{RawField, name_of, begun_value, is_continuing, begins_blank, is_raw_field, value_of, field_of}
use Rattle.header_fields.specs.Head.{ReadsHead}
use Rattle.sip_message.specs.Written.{is_written}
use Rattle.header_fields.specs.declared.headers.Header.{Header}
use Rattle.header_fields.proofs.FieldLaws.{field_is}
use Rattle.sip_message.proofs.ValueLaws.{text_same, trim_same, unfolded_trim, begun_clean, unfolded_clean}

-- ---- long names

abbrev is_long : List ℕ → Bool
is_long t = is_run_of is_token_byte t && not (eqb (length t) 1)

long_stays : (t : List ℕ) → is_long t ≡ true → long_name t ≡ t
unfolding long_name
long_stays t h = step (eqb (length t) 1) (and_parts (is_run_of is_token_byte t) (not (eqb (length t) 1)) h).1 where
  step : (e : Bool) → not e ≡ true → cond e (unwrap_or (long_of (to_ascii_lowercase (slice_index t 0))) t) t ≡ t
  step true k = absurd cc
  step false k = refl

abbrev row_of : ℕ → List (ℕ × List ℕ) → Option (List ℕ)
row_of c rows = option_map (λ row. row.1) (find (λ row. nat_eq row.0 c) rows)

rows_long : (c : ℕ) (rows : List (ℕ × List ℕ)) (t : List ℕ) → list_all (λ row. is_long row.1) rows ≡ true → row_of c rows ≡ Some t → is_long t ≡ true
rows_long c [] t h e = absurd cc
rows_long c (row ∷ rows) t h e = step (nat_eq row.0 c) e (rows_long c rows t parts.1) where
  parts : (is_long row.1 ≡ true) × (list_all (λ r. is_long r.1) rows ≡ true)
  parts = and_parts (is_long row.1) (list_all (λ r. is_long r.1) rows) h

  step : (b : Bool) → option_map (λ r. r.1) (cond b (Some row) (find (λ r. nat_eq r.0 c) rows)) ≡ Some t → (row_of c rows ≡ Some t → is_long t ≡ true) → is_long t ≡ true
  step true k more = let same : row.1 ≡ t = cc in ap is_long (sym same) ∙ parts.0
  step false k more = more k

record IsLong (n : List ℕ) : Type 0 where
  token : is_run_of is_token_byte (long_name n) ≡ true
  stays : long_name (long_name n) ≡ long_name n

long_is : (n : List ℕ) → is_run_of is_token_byte n ≡ true → IsLong n
unfolding long_name
long_is n h = step (eqb (length n) 1) refl where
  same : long_name n ≡ n → IsLong n
  same e = record { token = ap (is_run_of is_token_byte) e ∙ h; stays = ap long_name e }

  row : (o : Option (List ℕ)) → eqb (length n) 1 ≡ true → row_of (to_ascii_lowercase (slice_index n 0)) compact_names ≡ o → IsLong n
  row None e k = same (rw (e, k) refl)
  row (Some t) e k =
      let good : is_long t ≡ true = rows_long (to_ascii_lowercase (slice_index n 0)) compact_names t refl k in
      let is : long_name n ≡ t = rw (e, k) refl in
      record {
        token = ap (is_run_of is_token_byte) is ∙ (and_parts (is_run_of is_token_byte t) (not (eqb (length t) 1)) good).0;
        stays = ap long_name is ∙ long_stays t good ∙ sym is;
      }

  step : (e : Bool) → eqb (length n) 1 ≡ e → IsLong n
  step true e = row (row_of (to_ascii_lowercase (slice_index n 0)) compact_names) e refl
  step false e = same (rw e refl)

-- ---- one header

lines_clean : (more : List (List ℕ)) → list_all is_continuing more ≡ true → list_all is_clean more ≡ true
lines_clean [] h = refl
lines_clean (line ∷ more) h =
    let parts = and_parts (is_continuing line) (list_all is_continuing more) h in
    and_from (is_clean line) (list_all is_clean more) (and_parts (begins_blank line) (is_clean line) parts.0).1 (lines_clean more parts.1)

pub field_written : (f : RawField) → is_raw_field f ≡ true → is_written (field_of f) ≡ true
unfolding is_written field_of
field_written f h =
    let is = field_is f h in
    let named = and_parts (is_some (after 58 f.first)) (is_run_of is_token_byte (name_of f.first)) is.named in
    let name : List ℕ = long_name (name_of f.first) in
    let value : List ℕ = value_of f.first f.more in
    let long = long_is (name_of f.first) named.1 in
    let pieces : list_all is_clean (begun_value f.first ∷ f.more) ≡ true = and_from (is_clean (begun_value f.first)) (list_all is_clean f.more) (begun_clean f.first is.clean) (lines_clean f.more is.goes_on) in
    let clean : is_clean value ≡ true = unfolded_clean (begun_value f.first ∷ f.more) pieces in
    let trim : trimmed value ≡ value = trim_same value (unfolded_trim (begun_value f.first ∷ f.more)) in
    let a = and_from (is_run_of is_token_byte name) (pointwise nat_eq (long_name name) name) long.token (text_same (long_name name) name long.stays) in
    let b = and_from (is_run_of is_token_byte name && pointwise nat_eq (long_name name) name) (is_clean value) a clean in
    and_from (is_run_of is_token_byte name && pointwise nat_eq (long_name name) name && is_clean value) (pointwise nat_eq (trimmed value) value) b (text_same (trimmed value) value trim)

-- ---- all headers

fields_written : (fields : List RawField) → list_all is_raw_field fields ≡ true → list_all is_written (map field_of fields) ≡ true
fields_written [] h = refl
fields_written (f ∷ fields) h =
    let parts = and_parts (is_raw_field f) (list_all is_raw_field fields) h in
    and_from (is_written (field_of f)) (list_all is_written (map field_of fields)) (field_written f parts.0) (fields_written fields parts.1)

-- headers that are read are of the written form
pub read_is_written : (text : List ℕ) (headers : List Header) (body : List ℕ) → ReadsHead text headers body → list_all is_written headers ≡ true
read_is_written text headers body reads = ap (list_all is_written) reads.says ∙ fields_written reads.fields reads.each

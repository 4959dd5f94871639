-- Header fields, made of their lines (RFC 3261 sections 7.3.1 and 25.1).
use Rattle.std.specs.Prelude.{ℕ, Bool, true, false, not, ◌&&◌, List, [], ◌∷◌, map, filter, Option, Some, None, unwrap_or, is_some, if◌then◌else◌}
use Rattle.std.specs.List.{list_all}
use Rattle.text.specs.Class.{is_blank, is_token_byte, is_run_of}
use Rattle.text.specs.Cut.{before, after}
use Rattle.text.specs.Trim.{trimmed}
use Rattle.header_fields.specs.Lines.{is_clean}
use Rattle.header_fields.specs.Glue.{unfolded}
use Rattle.header_fields.specs.HeaderNames.{long_name}
use Rattle.header_fields.specs.declared.headers.Header.{Header}

-- a first line, and the lines that continue it
pub record RawField : Type 0 where
  pub first : List ℕ
  pub more : List (List ℕ)

abbrev pub field_lines : RawField → List (List ℕ)
field_lines f = f.first ∷ f.more

-- ---- the form

abbrev pub begins_blank : List ℕ → Bool
begins_blank [] = false
begins_blank (b ∷ bs) = is_blank b

-- a name: what comes before the first colon, without blanks at its end; the line does not begin with a blank
abbrev pub name_of : List ℕ → List ℕ
name_of line = trimmed (before 58 line)

-- what comes after the first colon
abbrev pub begun_value : List ℕ → List ℕ
begun_value line = unwrap_or (after 58 line) []

-- a token, perhaps blanks, and a colon, with anything after it
abbrev pub is_named_line : List ℕ → Bool
is_named_line line = is_some (after 58 line) && is_run_of is_token_byte (name_of line)

-- the name, and what comes after the colon
abbrev pub name_and_value : List ℕ → Option (List ℕ × List ℕ)
name_and_value line = if is_named_line line then Some (name_of line, begun_value line) else None

abbrev pub is_continuing : List ℕ → Bool
is_continuing line = begins_blank line && is_clean line

unfoldable pub is_raw_field : RawField → Bool
is_raw_field f = not (begins_blank f.first) && is_named_line f.first && is_clean f.first && list_all is_continuing f.more

-- ---- the meaning

abbrev pub value_of : List ℕ → List (List ℕ) → List ℕ
value_of first more = unfolded (map trimmed (begun_value first ∷ more))

-- what a field says
unfoldable pub field_of : RawField → Header
field_of f = record { name = long_name (name_of f.first); value = value_of f.first f.more }

-- ---- lines in fields

-- the lines that continue the field before them
abbrev pub continued : List (List ℕ) → List (List ℕ)
continued [] = []
continued (line ∷ lines) = if begins_blank line then line ∷ continued lines else []

-- each line that does not begin with a blank begins a field
abbrev pub fields_of : List (List ℕ) → List RawField
fields_of [] = []
fields_of (line ∷ lines) = if begins_blank line then fields_of lines else record { first = line; more = continued lines } ∷ fields_of lines

-- no line continues a field that is not there
abbrev pub begins_a_field : List (List ℕ) → Bool
begins_a_field [] = true
begins_a_field (line ∷ lines) = not (begins_blank line)

abbrev pub has_name : RawField → Bool
has_name f = is_named_line f.first

-- the header of a field that has a name and a colon
abbrev pub header_of : RawField → Option Header
header_of f = if has_name f then Some (field_of f) else None

-- the headers of lines that are clean
abbrev pub headers_of : List (List ℕ) → Option (List Header)
headers_of lines = if begins_a_field lines && list_all has_name (fields_of lines) then Some (map field_of (fields_of lines)) else None

-- the header of a well-formed field
abbrev pub readable_of : RawField → Option Header
readable_of f = if is_raw_field f then Some (field_of f) else None

-- the header fields among lines; others are skipped, with the lines that continue them
abbrev pub readable_headers : List (List ℕ) → List Header
readable_headers lines = map field_of (filter is_raw_field (fields_of lines))

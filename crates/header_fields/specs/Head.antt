-- The header fields of a datagram (RFC 3261 sections 7.3 and 25.1).
use Rattle.std.specs.Prelude.{◌≡◌, ℕ, ◌<◌, IsTrue, List, ◌∷◌, ◌++◌, length, map, Option, Some, None, option_map, option_and_then, Result, Ok, Err}
use Rattle.std.specs.Borrow.{Bor}
use Rattle.std.specs.List.{flat_map, list_all}
use Rattle.header_fields.specs.Lines.{lines_text, lines_within}
use Rattle.header_fields.specs.Fields.{RawField, field_lines, is_raw_field, field_of, headers_of}
use Rattle.header_fields.specs.declared.headers.Header.{Header}
use Rattle.header_fields.specs.declared.head.HeadError.{HeadError}
use Rattle.header_fields.specs.declared.head.HeadError.TheVariants.{OutOfMemory, Line}

-- the lines of all fields
abbrev pub all_lines : List RawField → List (List ℕ)
all_lines fields = flat_map field_lines fields

-- the text is the lines of fields, an empty line and this body, and the headers are what the fields say
pub record ReadsHead (text : List ℕ) (headers : List Header) (body : List ℕ) : Type 0 where
  pub fields : List RawField
  pub whole : text ≡ lines_text (all_lines fields) ++ (13 ∷ 10 ∷ body)
  pub each : IsTrue (list_all is_raw_field fields)
  pub says : headers ≡ map field_of fields

-- how many lines its fields have
abbrev pub line_count : {text : List ℕ} {headers : List Header} {body : List ℕ} → ReadsHead text headers body → ℕ
line_count reads = length (all_lines reads.fields)

-- the headers and the body of a text with fewer header lines than the limit
unfoldable pub head_of : ℕ → List ℕ → Option (List Header × List ℕ)
head_of limit text = option_and_then (λ x. option_map (λ headers. (headers, x.1)) (headers_of x.0)) (lines_within limit text)

-- a call returned what reading gives, unless memory ran out
abbrev pub GivesHead : Result (List Header × Bor (List ℕ)) HeadError → Option (List Header × List ℕ) → Type 0
GivesHead (Ok x) read = read ≡ Some (x.0, x.1.now)
GivesHead (Err OutOfMemory) read = Unit {0}
GivesHead (Err Line) read = read ≡ None

-- the refusal that a text with this limit gets
abbrev pub RefusesHead : ℕ → List ℕ → HeadError → Type 0
RefusesHead limit text OutOfMemory = Unit {0}
RefusesHead limit text Line = (headers : List Header) (body : List ℕ) (reads : ReadsHead text headers body) → line_count reads < limit → ⊥

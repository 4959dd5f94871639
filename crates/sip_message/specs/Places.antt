-- Where the header fields of a message are in its text (RFC 3261 section 7.3.1).
use Rattle.std.specs.Prelude.{◌≡◌, ℕ, ◌+◌, List, [], ◌∷◌, ◌++◌, length, map}
use Rattle.header_fields.specs.declared.headers.Header.{Header}
use Rattle.header_fields.specs.Fields.{RawField, field_lines, field_of}
use Rattle.header_fields.specs.Lines.{lines_text}
use Rattle.sip_message.specs.ContentLength.{without_length}

-- the raw text of a field: its lines, each with its end
abbrev pub field_text : RawField → List ℕ
field_text f = lines_text (field_lines f)

-- the raw text is what is at this place
pub record StandsAt (text : List ℕ) (place : ℕ) (raw : List ℕ) : Type 0 where
  pub front : List ℕ
  pub rest : List ℕ
  pub whole : text ≡ front ++ (raw ++ rest)
  pub at : length front ≡ place

-- the first field is at this place, and each other field where the one before it ends
abbrev pub ArePlaced : List ℕ → ℕ → List RawField → Type 0
ArePlaced text place [] = Unit {0}
ArePlaced text place (f ∷ fs) = StandsAt text place (field_text f) × ArePlaced text (place + length (field_text f)) fs

-- the header fields, except Content-Length, are what fields in the text say, in this order, without overlap
pub record IsPlaced (text : List ℕ) (headers : List Header) : Type 0 where
  pub fields : List RawField
  pub begin : ℕ
  pub placed : ArePlaced text begin fields
  pub says : headers ≡ without_length (map field_of fields)

-- A line more of the header fields of a datagram.
use Rattle.std.specs.Prelude.{◌≡◌, ℕ, List, [], ◌∷◌, ◌++◌, Option, Some, None, option_map, Result, Ok, Err, if◌then◌else◌}
use Rattle.std.specs.Borrow.{Bor}
use Rattle.text.specs.Trim.{trimmed}
use Rattle.header_fields.specs.Glue.{glue}
use Rattle.header_fields.specs.Fields.{begins_blank, header_of}
use Rattle.header_fields.specs.Folded.{unfolded_text}
use Rattle.header_fields.specs.declared.headers.Header.{Header}
use Rattle.header_fields.specs.declared.head.HeadError.{HeadError}
use Rattle.header_fields.specs.declared.head.HeadError.TheVariants.{OutOfMemory, Line}

-- the last field is continued by this piece
abbrev pub gone_on : List Header → List ℕ → Option (List Header)
gone_on [] piece = None
gone_on (h ∷ []) piece = Some (record h { value = glue h.value piece } ∷ [])
gone_on (h ∷ k ∷ hs) piece = option_map (λ rest. h ∷ rest) (gone_on (k ∷ hs) piece)

-- the fields with a line more
abbrev pub with_line : List Header → List ℕ → Option (List Header)
with_line hs line = if begins_blank line then gone_on hs (trimmed line) else option_map (λ h. hs ++ h ∷ []) (header_of (record { first = line; more = [] }))

abbrev pub last_value : List Header → Option (List ℕ)
last_value [] = None
last_value (h ∷ []) = Some h.value
last_value (h ∷ k ∷ hs) = last_value (k ∷ hs)

abbrev pub OpenAt : Option (List ℕ) → List ℕ → List ℕ → Type 0
OpenAt None field rest = Unit {0}
OpenAt (Some value) field rest = (raw : List ℕ) × (field ≡ raw ++ 13 ∷ 10 ∷ rest) × (value ≡ unfolded_text raw)

-- the last field's value is at the front of this text, and its line ends before the rest
abbrev pub IsOpen : List Header → List ℕ → List ℕ → Type 0
IsOpen hs field rest = OpenAt (last_value hs) field rest

-- the last field has this value now
abbrev pub GivesLast : Result (Unit {0}) HeadError → List Header → List Header → List ℕ → Type 0
GivesLast (Ok done) old new value = (front : List Header) × (h : Header) × (old ≡ front ++ h ∷ []) × (new ≡ front ++ record h { value = value } ∷ [])
GivesLast (Err OutOfMemory) old new value = Unit {0}
GivesLast (Err Line) old new value = old ≡ []

abbrev pub GivesLine : Result (Bor (List ℕ)) HeadError → List Header → Option (List Header) → Type 0
GivesLine (Ok field) new read = read ≡ Some new
GivesLine (Err OutOfMemory) new read = Unit {0}
GivesLine (Err Line) new read = read ≡ None

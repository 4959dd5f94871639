-- The names of header fields (RFC 3261 sections 7.3.3 and 20).
use Rattle.std.specs.Prelude.{ℕ, ◌==◌, List, [], ◌∷◌, codes, length, slice_index, if◌then◌else◌, Option, option_map, find, unwrap_or}
use Rattle.std.specs.Char.{to_ascii_lowercase}

-- the compact names and their long names (RFC 3261 sections 7.3.3 and 20)
abbrev pub compact_names : List (ℕ × List ℕ)
compact_names =
    (99, codes "Content-Type") ∷ (101, codes "Content-Encoding") ∷ (102, codes "From") ∷ (105, codes "Call-ID")
    ∷ (107, codes "Supported") ∷ (108, codes "Content-Length") ∷ (109, codes "Contact") ∷ (115, codes "Subject")
    ∷ (116, codes "To") ∷ (118, codes "Via") ∷ []

-- the long name of a letter, in lower case
abbrev pub long_of : ℕ → Option (List ℕ)
long_of letter = option_map (λ row. row.1) (find (λ row. row.0 == letter) compact_names)

-- the name, or its long name, ignoring case
unfoldable pub long_name : List ℕ → List ℕ
long_name name = if length name == 1 then unwrap_or (long_of (to_ascii_lowercase (slice_index name 0))) name else name

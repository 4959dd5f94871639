-- A name and an address in parts (RFC 3261 section 25.1, name-addr and addr-spec): `"display" <uri>;params`, `display
-- <uri>;params`, `<uri>;params` or `uri;params`.
use Rattle.std.specs.Prelude.{ℕ, Bool, true, false, not, ◌||◌, ◌==◌, List, [], ◌∷◌, length, codes, Option, Some, None, is_some, option_and_then, if◌then◌else◌}
use Rattle.std.specs.List.{list_all}
use Rattle.text.specs.Class.{is_blank, is_token_byte, is_one_of}
use Rattle.text.specs.Cut.{before, after}
use Rattle.text.specs.Trim.{without_blanks, trimmed}
use Rattle.sip_uri.specs.Quoted.{quoted, fits_quotes}

pub record RawName : Type 0 where
  pub display : Option (List ℕ)
  pub uri : List ℕ
  pub in_angles : Bool
  pub params : Option (List ℕ)

-- a byte of tokens with blanks between them
abbrev pub is_phrase_byte : ℕ → Bool
is_phrase_byte b = is_token_byte b || is_blank b

-- tokens as a display: none if there is nothing but blanks
abbrev pub phrase_of : List ℕ → Option (List ℕ)
phrase_of front = if length (trimmed front) == 0 then None else Some (trimmed front)

-- nothing, or parameters after a semicolon
abbrev pub with_params : Option (List ℕ) → List ℕ → List ℕ → Option RawName
with_params display uri [] = Some (record { display = display; uri = uri; in_angles = true; params = None })
with_params display uri (b ∷ bs) =
    if b == 59 then Some (record { display = display; uri = uri; in_angles = true; params = Some bs }) else None

-- `uri>` and what comes after it
unfoldable pub bracketed : Option (List ℕ) → List ℕ → Option RawName
bracketed display text = option_and_then (λ rest. with_params display (before 62 text) (without_blanks rest)) (after 62 text)

unfoldable pub opened : Option (List ℕ) → List ℕ → Option RawName
opened display [] = None
opened display (b ∷ bs) = if b == 60 then bracketed display bs else None

-- after the quotation mark that opens a display
unfoldable pub quoted_name : List ℕ → Option RawName
quoted_name text = option_and_then (λ q. if fits_quotes false q.0 then opened (Some q.0) (without_blanks q.1) else None) (quoted text)

-- tokens, or nothing, before `<`
unfoldable pub worded_name : List ℕ → Option RawName
worded_name text =
    option_and_then (λ rest. if list_all is_phrase_byte (before 60 text) then bracketed (phrase_of (before 60 text)) rest else None) (after 60 text)

-- a URI as it is, up to the first semicolon
abbrev pub bare : List ℕ → RawName
bare text = record { display = None; uri = trimmed (before 59 text); in_angles = false; params = after 59 text }

-- by its first byte, and by whether `<` comes before the first semicolon
unfoldable pub name_from : List ℕ → Option RawName
name_from [] = Some (bare [])
name_from (b ∷ bs) =
    if b == 34 then quoted_name bs
    else (if is_some (after 60 (before 59 (b ∷ bs))) then worded_name (b ∷ bs) else Some (bare (b ∷ bs)))

unfoldable pub name_of : List ℕ → Option RawName
name_of text = name_from (without_blanks text)

-- a URI with a comma, semicolon or question mark is in angle brackets (RFC 3261 section 20.10)
unfoldable pub stands_well : RawName → Bool
stands_well r = r.in_angles || list_all (λ b. not (is_one_of (codes ",;?") b)) r.uri

-- What a name and an address say, and the first fault of a text that is not one.
use Rattle.std.specs.Prelude.{◌≡◌, ℕ, true, false, List, [], ◌∷◌, ◌++◌, Option, Some, None, ◌⊎◌, Result, Ok, Err, IsTrue, if◌then◌else◌}
use Rattle.std.specs.List.{list_all}
use Rattle.text.specs.Class.{is_blank, passes_if_there}
use Rattle.text.specs.Cut.{led_by}
use Rattle.text.specs.Trim.{trimmed}
use Rattle.sip_uri.specs.declared.error.UriError.{UriError}
use Rattle.sip_uri.specs.declared.error.UriError.TheVariants.{OutOfMemory, Scheme, Malformed, BadEscape, Port}
use Rattle.sip_uri.specs.declared.uri.Uri.{Uri}
use Rattle.sip_uri.specs.declared.uri.Param.{Param}
use Rattle.sip_uri.specs.declared.uri.NameAddr.{NameAddr}
use Rattle.sip_uri.specs.Quoted.{fits_quotes}
use Rattle.sip_uri.specs.FieldParams.{is_field_params, field_params_of, field_params_read}
use Rattle.sip_uri.specs.Grammar.{ReadsUri, Refuses}
use Rattle.sip_uri.specs.NameParts.{RawName, is_phrase_byte, phrase_of, name_of, stands_well}
use Rattle.sip_uri.specs.Reading.{uri_of}
use Rattle.sip_uri.specs.Writing.{uri_text, params_text}

-- ---- as a function

-- the header's parameters, if the whole is well formed except for the URI
unfoldable pub name_params : RawName → Option (List Param)
name_params r = if stands_well r then field_params_read r.params else None

-- another scheme takes precedence over the form of the whole, and that over the URI's other faults
abbrev pub judged : RawName → Option (List Param) → Result Uri UriError → Result NameAddr UriError
judged r ps (Err Scheme) = Err Scheme
judged r ps (Err OutOfMemory) = Err OutOfMemory
judged r ps (Err Malformed) = Err Malformed
judged r None (Err BadEscape) = Err Malformed
judged r None (Err Port) = Err Malformed
judged r None (Ok uri) = Err Malformed
judged r (Some ps) (Err BadEscape) = Err BadEscape
judged r (Some ps) (Err Port) = Err Port
judged r (Some ps) (Ok uri) = Ok (record { display = r.display; uri = uri; params = ps })

abbrev pub name_addr_from : Option RawName → Result NameAddr UriError
name_addr_from None = Err Malformed
name_addr_from (Some r) = judged r (name_params r) (uri_of r.uri)

unfoldable pub name_addr_of : List ℕ → Result NameAddr UriError
name_addr_of text = name_addr_from (name_of text)

-- ---- as a relation

-- after the closing angle bracket: blanks, and parameters after a semicolon
pub record Closes (rest : List ℕ) (params : Option (List ℕ)) : Type 0 where
  pub gap : List ℕ
  pub blank : IsTrue (list_all is_blank gap)
  pub whole : rest ≡ gap ++ led_by 59 params

-- `"display" <uri>;params`
pub record IsQuotedName (text : List ℕ) (raw : RawName) : Type 0 where
  pub lead : List ℕ
  pub inside : List ℕ
  pub gap : List ℕ
  pub rest : List ℕ
  pub whole : text ≡ lead ++ 34 ∷ (inside ++ 34 ∷ (gap ++ 60 ∷ (raw.uri ++ 62 ∷ rest)))
  pub lead_blank : IsTrue (list_all is_blank lead)
  pub gap_blank : IsTrue (list_all is_blank gap)
  pub fits : IsTrue (fits_quotes false inside)
  pub closes : Closes rest raw.params
  pub display : raw.display ≡ Some inside
  pub in_angles : raw.in_angles ≡ true

-- `display <uri>;params`, where the display is tokens or is missing
pub record IsWordedName (text : List ℕ) (raw : RawName) : Type 0 where
  pub front : List ℕ
  pub rest : List ℕ
  pub whole : text ≡ front ++ 60 ∷ (raw.uri ++ 62 ∷ rest)
  pub words : IsTrue (list_all is_phrase_byte front)
  pub closes : Closes rest raw.params
  pub display : raw.display ≡ phrase_of front
  pub in_angles : raw.in_angles ≡ true

-- `uri;params`
pub record IsBareName (text : List ℕ) (raw : RawName) : Type 0 where
  pub written : List ℕ
  pub whole : text ≡ written ++ led_by 59 raw.params
  pub uri : raw.uri ≡ trimmed written
  pub display : raw.display ≡ None
  pub in_angles : raw.in_angles ≡ false

-- the text has these parts, in one of the three forms
abbrev pub SpellsName : List ℕ → RawName → Type 0
SpellsName text raw = IsQuotedName text raw ⊎ (IsWordedName text raw ⊎ IsBareName text raw)

-- the text has these parts, and the whole is well formed except for the URI
pub record FitsName (text : List ℕ) (raw : RawName) : Type 0 where
  pub spelled : SpellsName text raw
  pub stands : IsTrue (stands_well raw)
  pub form : IsTrue (passes_if_there is_field_params raw.params)

-- the text is a name and an address with this value
pub record ReadsNameAddr (text : List ℕ) (name : NameAddr) : Type 0 where
  pub raw : RawName
  pub fits : FitsName text raw
  pub uri : ReadsUri raw.uri name.uri
  pub display : name.display ≡ raw.display
  pub params : name.params ≡ field_params_of raw.params

-- the text has this fault, and none before it: of the parts that it is cut into, another scheme takes precedence over
-- the form of the whole, and that over the URI's other faults
abbrev pub RefusesName : List ℕ → UriError → Type 0
RefusesName text OutOfMemory = Unit {0}
RefusesName text Scheme = (raw : RawName) × (name_of text ≡ Some raw) × SpellsName text raw × Refuses raw.uri Scheme
RefusesName text Malformed =
    ((name : NameAddr) → ReadsNameAddr text name → ⊥)
    × ((raw : RawName) → name_of text ≡ Some raw → (Refuses raw.uri Scheme → ⊥) × (FitsName text raw → Refuses raw.uri Malformed))
RefusesName text BadEscape = (raw : RawName) × (name_of text ≡ Some raw) × FitsName text raw × Refuses raw.uri BadEscape
RefusesName text Port = (raw : RawName) × (name_of text ≡ Some raw) × FitsName text raw × Refuses raw.uri Port

-- ---- as written

abbrev pub display_part : Option (List ℕ) → List ℕ
display_part None = []
display_part (Some display) = 34 ∷ (display ++ 34 ∷ 32 ∷ [])

-- `"display" <uri>;name=value`
unfoldable pub name_addr_text : NameAddr → List ℕ
name_addr_text n = display_part n.display ++ 60 ∷ (uri_text n.uri ++ 62 ∷ params_text 59 59 n.params)

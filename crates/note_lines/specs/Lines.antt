-- Lines for those who watch the server: a word, followed by keys with their values.
use Rattle.std.specs.Prelude.{◌≡◌, ◌==◌, ◌≤◌, ◌⊎◌, ◌+◌, ◌/◌, ◌%◌, ℕ, Bool, true, not, ◌&&◌, nat_le, nat_lt, List, [], ◌∷◌, ◌++◌, length, take, codes, decimal, Option, Some, None, if◌then◌else◌}
use Rattle.std.specs.List.{flat_map, list_all}
use Rattle.text.specs.Class.{is_one_of}
use Rattle.sip_uri.specs.declared.uri.Addr.{Addr}
use Rattle.sip_uri.specs.Writing.{ip4_text}

-- ---- numbers

-- how many bytes are shown of a word, a key or a number, and below it, of any other text
abbrev pub max_word : ℕ
max_word = 20

abbrev pub max_shown : ℕ
max_shown = 100

abbrev pub max_fields : ℕ
max_fields = 8

-- the bytes of a line
abbrev pub max_line : ℕ
max_line = 4096

-- ---- the escape

-- it is no space, ends no value, and needs no quotes
abbrev pub is_plain : ℕ → Bool
is_plain b = nat_lt 32 b && nat_lt b 127 && not (is_one_of (codes "\"'=\\`") b)

-- the last hexadecimal digit of a number
abbrev pub last_digit : ℕ → ℕ
last_digit n = if nat_lt (n % 16) 10 then 48 + n % 16 else 87 + n % 16

-- a byte as it is, or as \xHH
abbrev pub shown_byte : ℕ → List ℕ
shown_byte b = if is_plain b then b ∷ [] else codes "\\x" ++ last_digit (b / 16) ∷ last_digit b ∷ []

-- at most `most` bytes of a text, and a mark if there are more
abbrev pub shown : ℕ → List ℕ → List ℕ
shown most text = if nat_le (length text) most then flat_map shown_byte text else flat_map shown_byte (take most text) ++ codes "..."

-- ---- the line

-- milliseconds as seconds and tenths
unfoldable pub seconds_text : ℕ → List ℕ
seconds_text n = shown max_word (decimal (n / 1000)) ++ codes "." ++ shown max_word (decimal (n / 100 % 10)) ++ codes "s"

-- a sign between words
abbrev pub dashed : ℕ → ℕ
dashed b = if b == 32 then 45 else b

abbrev pub dashed_text : List ℕ → List ℕ
dashed_text words = flat_map (λ b. shown_byte (dashed b)) words

-- at most `most` bytes
abbrev pub words_text : ℕ → List ℕ → List ℕ
words_text most words = if nat_le (length words) most then dashed_text words else dashed_text (take most words)

-- an address in dotted decimals and a port
unfoldable pub place_text : Addr → List ℕ
place_text place = ip4_text place.ip ++ codes ":" ++ decimal place.port

-- the value of a key
pub data Value : Type 0 where
  Number : ℕ → Value
  Text : List ℕ → Value
  -- the server's own words, with a sign between them
  Words : List ℕ → Value
  -- milliseconds
  Time : ℕ → Value

pub record Field : Type 0 where
  pub key : List ℕ
  pub value : Value

abbrev pub number_field : List ℕ → ℕ → Field
number_field key n = record { key = key; value = Number n }

abbrev pub text_field : List ℕ → List ℕ → Field
text_field key t = record { key = key; value = Text t }

abbrev pub words_field : List ℕ → List ℕ → Field
words_field key t = record { key = key; value = Words t }

abbrev pub time_field : List ℕ → ℕ → Field
time_field key n = record { key = key; value = Time n }

abbrev pub place_field : List ℕ → Addr → Field
place_field key p = text_field key (place_text p)

abbrev pub value_text : Value → List ℕ
value_text (Number n) = shown max_word (decimal n)
value_text (Text t) = shown max_shown t
value_text (Words t) = words_text max_shown t
value_text (Time n) = seconds_text n

abbrev pub key_text : List ℕ → List ℕ
key_text key = codes " " ++ shown max_word key ++ codes "="

-- ` key=value`
unfoldable pub field_text : Field → List ℕ
field_text field = key_text field.key ++ value_text field.value

abbrev pub line_end : List ℕ
line_end = codes "\n"

unfoldable pub word_text : List ℕ → List ℕ
word_text word = shown max_word word

unfoldable pub line_text : List ℕ → List Field → List ℕ
line_text word fields = word_text word ++ flat_map field_text fields ++ line_end

-- a word with its fields in order
pub record Line : Type 0 where
  pub word : List ℕ
  pub fields : List Field

abbrev pub line : List ℕ → List Field → Line
line word fields = record { word = word; fields = fields }

-- the line, where there is one
abbrev pub said : Option Line → List ℕ
said None = []
said (Some l) = line_text l.word l.fields

-- ---- what a line is

abbrev pub is_printable : ℕ → Bool
is_printable b = nat_le 32 b && nat_le b 126

-- printable ASCII and the line feed at its end, and not long
pub record IsLine (text : List ℕ) : Type 0 where
  pub body : List ℕ
  pub ended : text ≡ body ++ 10 ∷ []
  pub printable : list_all is_printable body ≡ true
  pub bounded : length text ≤ max_line

-- nothing, or one line
abbrev pub IsSaid : List ℕ → Type 0
IsSaid text = (text ≡ []) ⊎ IsLine text

-- this was appended to what was there
abbrev pub Tells : List ℕ → List ℕ → Type 0
Tells before behind = (text : List ℕ) × IsSaid text × (behind ≡ before ++ text)

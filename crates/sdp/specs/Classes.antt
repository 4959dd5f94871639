-- Classes of bytes, and texts made of them (RFC 4566 section 9).
use Rattle.std.specs.Prelude.{ℕ, Bool, false, not, ◌&&◌, ◌||◌, ◌==◌, nat_le, List, [], ◌∷◌, codes}
use Rattle.std.specs.List.{list_all, slice_split}
use Rattle.std.specs.Char.{is_ascii_alphanumeric, is_ascii_digit}
use Rattle.text.specs.Class.{is_one_of, is_run_of}

-- a byte of a line's value (byte-string): no NUL, CR or LF
abbrev pub is_text_byte : ℕ → Bool
is_text_byte b = not (b == 13) && not (b == 10) && not (b == 0)

-- a byte of a token (token-char)
abbrev pub is_token_char : ℕ → Bool
is_token_char b = is_ascii_alphanumeric b || is_one_of (codes "!#$%&'*+-.^_`{|}~") b

unfoldable pub is_token : List ℕ → Bool
is_token text = is_run_of is_token_char text

-- a byte that can be seen, or is past ASCII
abbrev pub is_visible : ℕ → Bool
is_visible b = nat_le 33 b && not (b == 127)

-- a text without blanks (non-ws-string)
unfoldable pub is_word : List ℕ → Bool
is_word text = is_run_of is_visible text

-- a text that begins with one of these bytes
abbrev pub begins : List ℕ → List ℕ → Bool
begins set [] = false
begins set (b ∷ bs) = is_one_of set b

-- one or more digits
unfoldable pub is_number : List ℕ → Bool
is_number text = is_run_of is_ascii_digit text

-- one or more digits, the first of which is not 0 (integer)
unfoldable pub is_integer : List ℕ → Bool
is_integer text = is_run_of is_ascii_digit text && not (begins (codes "0") text)

-- tokens with slashes between them (proto)
unfoldable pub is_proto : List ℕ → Bool
is_proto text = list_all is_token (slice_split (λ b. b == 47) text)

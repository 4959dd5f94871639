-- The form of Call-ID (RFC 3261 sections 20.8 and 25.1).
use Rattle.std.specs.Prelude.{ℕ, Bool, ◌&&◌, ◌||◌, List, codes}
use Rattle.std.specs.Char.{is_ascii_alphanumeric}
use Rattle.text.specs.Class.{is_one_of, is_run_of, passes_if_there}
use Rattle.text.specs.Cut.{before, after}

abbrev pub is_word_byte : ℕ → Bool
is_word_byte b = is_ascii_alphanumeric b || is_one_of (codes "-.!%*_+`'~()<>:\\\"/[]?{}") b

abbrev pub is_word : List ℕ → Bool
is_word text = is_run_of is_word_byte text

-- a word, or two words around an `@`
abbrev pub is_call_id : List ℕ → Bool
is_call_id text = is_word (before 64 text) && passes_if_there is_word (after 64 text)

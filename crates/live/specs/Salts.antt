-- The words of a ChaCha20 stream that a salt is made of (RFC 8439 section 2.4: 10 double rounds a block).
use Rattle.std.specs.Prelude.{ℕ, zero, suc, ◌+◌, ◌*◌, ◌%◌, ◌^◌}
use Rattle.index.specs.declared.print.PrintKey.{PrintKey}
use Rattle.rand_chacha.specs.ChaCha.{ChaCha, word_at}

-- the place of the word after this one
abbrev pub next_place : ℕ → ℕ
next_place place = (place + 1) % 2 ^ 68

-- the stream after the two words of a salt
abbrev pub after_salt : ChaCha → ChaCha
after_salt g = record g { word_pos = next_place (next_place g.word_pos) }

-- the next two words, the first as the low half
abbrev pub salt_at : ChaCha → ℕ
salt_at g = word_at 10 g.key g.stream g.word_pos + word_at 10 g.key g.stream (next_place g.word_pos) * 2 ^ 32

-- the key of prints that the next two salts make
abbrev pub print_key_at : ChaCha → PrintKey
print_key_at g = record { first = salt_at g; second = salt_at (after_salt g) }

-- the stream after this many salts
abbrev pub behind_salts : ChaCha → ℕ → ChaCha
behind_salts g zero = g
behind_salts g (suc n) = after_salt (behind_salts g n)

-- Where the salts of a start begin in the streams of a key (RFC 8439 section 2.4).
use Rattle.std.specs.Prelude.{ℕ, List, ◌*◌, ◌/◌, ◌%◌, ◌^◌}
use Rattle.rand_chacha.specs.ChaCha.{ChaCha, key_of}

-- The place of the first word of a start, this many nanoseconds since 1970: each microsecond of a second has 2^48
-- words of its own.
abbrev pub first_place : ℕ → ℕ
first_place nanos = nanos % 1_000_000_000 / 1_000 * 2 ^ 48

-- The words of a start: the stream's number is its second.
abbrev pub begun_at : List ℕ → ℕ → ChaCha
begun_at key nanos = record { key = key_of key; stream = nanos / 1_000_000_000; word_pos = first_place nanos }

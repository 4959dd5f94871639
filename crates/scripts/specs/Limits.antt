-- The numbers of a script.
use Rattle.std.specs.Prelude.{ℕ}

-- the greatest moment, salt and number of a call: 2^64 - 1
abbrev pub max_number : ℕ
max_number = 18446744073709551615

abbrev pub max_port : ℕ
max_port = 65535

-- the bytes of a datagram
abbrev pub max_bytes : ℕ
max_bytes = 65535

-- The numbers of the relay's ports.
use Rattle.std.specs.Prelude.{ℕ}

-- the least port that may lead the first pair
abbrev pub min_port : ℕ
min_port = 1024

-- the greatest port that there is
abbrev pub last_port : ℕ
last_port = 65535

-- the number of ports, of which 0 is the first
abbrev pub ports : ℕ
ports = 65536

-- the pairs that a pool has at most
abbrev pub max_pairs : ℕ
max_pairs = 2048

-- for how long a pair rests after it was freed, in milliseconds
abbrev pub rest_time : ℕ
rest_time = 32000

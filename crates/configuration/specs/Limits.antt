-- The numbers of a configuration.
use Rattle.std.specs.Prelude.{ℕ}

abbrev pub min_relay_port : ℕ
min_relay_port = 1024

abbrev pub max_relay_pairs : ℕ
max_relay_pairs = 2048

-- how many ports there are, 0 included: the last is 65535
abbrev pub all_ports : ℕ
all_ports = 65536

-- the bytes of a user
abbrev pub max_user_bytes : ℕ
max_user_bytes = 64

-- the digits of each number of a range of users
abbrev pub max_range_digits : ℕ
max_range_digits = 9

abbrev pub max_workers : ℕ
max_workers = 8

-- the number of workers if none is configured
abbrev pub usual_workers : ℕ
usual_workers = 2

-- the minutes of a call without media: a day
abbrev pub max_silent_minutes : ℕ
max_silent_minutes = 1440

-- the hours that a call lasts: a week
abbrev pub max_longest_call_hours : ℕ
max_longest_call_hours = 168

-- the live server transactions for the requests of one source address
abbrev pub max_source_share : ℕ
max_source_share = 4096

-- the maximum and default number of seconds that a callee's telephone has for its first response: 64*T1 (RFC 3261
-- section 17.1.1.2)
abbrev pub max_answer_within : ℕ
max_answer_within = 32

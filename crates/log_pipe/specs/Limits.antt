-- How much waits, and how much is written at once.
use Rattle.std.specs.Prelude.{ℕ}

-- the bytes of lines of events that wait at most
abbrev pub room_of_events : ℕ
room_of_events = 262144

-- those of lines of the socket for SIP
abbrev pub room_of_sending : ℕ
room_of_sending = 16384

-- the bytes that are written at once
abbrev pub max_block : ℕ
max_block = 4096

-- those of a line that says how many lines were lost: its words, 20 digits, and its end
abbrev pub max_lost_line : ℕ
max_lost_line = 38

-- a count that has come here stays there
abbrev pub max_count : ℕ
max_count = 18446744073709551615

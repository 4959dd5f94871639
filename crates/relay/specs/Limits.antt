-- The numbers that bound a board and its workers.
use Rattle.std.specs.Prelude.{◌^◌, ℕ}

-- the maximum number of viewers of a board
abbrev pub max_viewers : ℕ
max_viewers = 8

-- the maximum number of lists that are published
abbrev pub max_lists : ℕ
max_lists = 2 ^ 63

-- the bytes for which a worker has room: no datagram has that many
abbrev pub datagram_room : ℕ
datagram_room = 65536

-- how many failed rounds in a row end a worker
abbrev pub most_failures : ℕ
most_failures = 100

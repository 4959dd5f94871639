-- How long waits last at most, in milliseconds.
use Rattle.std.specs.Prelude.{ℕ}

-- a wait for a datagram at a relay port
abbrev pub max_media_wait : ℕ
max_media_wait = 100

-- How many file descriptors a server needs.
use Rattle.std.specs.Prelude.{ℕ, Bool, ◌+◌, ◌*◌, Option, Some, None, is_some, nat_lt, if◌then◌else◌}
use Rattle.configuration.specs.declared.config.Config.{Config}
use Rattle.host.specs.declared.descriptors.TooFewDescriptors.{TooFewDescriptors}

-- the page's socket, what waits for it, and its 32 connections
abbrev pub for_the_page : ℕ
for_the_page = 34

-- the socket for SIP, what the signalling waits with, the three standard streams, and one to spare
abbrev pub for_all : ℕ
for_all = 6

-- and one for each relay port, and one for each worker to wait with
abbrev pub sum_needed : ℕ → ℕ → Bool → ℕ
sum_needed pairs workers has_page = 2 * pairs + workers + (if has_page then for_the_page else 0) + for_all

abbrev pub descriptors_needed : Config → ℕ
descriptors_needed config = sum_needed config.relay_pairs config.workers (is_some config.status)

-- fewer than are needed
abbrev pub too_few : ℕ → ℕ → Option TooFewDescriptors
too_few limit needed = if nat_lt limit needed then Some (record { limit = limit; needed = needed }) else None

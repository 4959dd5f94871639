-- The snapshot that the page shows.
use Rattle.std.specs.Prelude.{ℕ, ◌-◌, Bool, ◌&&◌, is_some, nat_lt}
use Rattle.page_desk.specs.declared.latest.Latest.{Latest}

-- it is fresh for this many milliseconds
abbrev pub fresh_for : ℕ
fresh_for = 1000

abbrev pub is_fresh : Latest → Bool
is_fresh latest = is_some latest.status && nat_lt (latest.moment - latest.came) fresh_for

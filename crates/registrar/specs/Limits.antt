-- The numbers of the registrar.
use Rattle.std.specs.Prelude.{ℕ}

-- the bindings that a user has at most
abbrev pub max_bindings : ℕ
max_bindings = 8

abbrev pub max_users : ℕ
max_users = 1000

-- the seconds that a binding lasts where the REGISTER names none
abbrev pub default_expires : ℕ
default_expires = 3600

-- the greatest number of seconds that may be the least lifetime
abbrev pub max_min_expires : ℕ
max_min_expires = 3600

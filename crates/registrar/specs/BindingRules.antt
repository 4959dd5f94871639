-- How long a contact is bound, and which bindings leave where a user would have too many.
use Rattle.std.specs.Prelude.{◌&&◌, ℕ, Bool, List, length, filter, count_by, nat_lt, Option, Some, None, if◌then◌else◌}
use Rattle.registrar.specs.Limits.{max_bindings}
use Rattle.registrar.specs.declared.binding.Binding.{Binding}
use Rattle.registrar.specs.declared.binding_rules.BindingRules.{BindingRules}

-- ---- seconds (RFC 3261 section 10.3, step 7: the registrar may shorten the interval)

abbrev pub no_more_than : Option ℕ → ℕ → ℕ
no_more_than None seconds = seconds
no_more_than (Some most) seconds = if nat_lt most seconds then most else seconds

-- the seconds that a contact is bound for, of those that it asks for
abbrev pub granted : BindingRules → ℕ → ℕ
granted rules seconds = no_more_than rules.max_expires seconds

-- ---- who leaves

-- how many of these bindings were refreshed after it
abbrev pub later : List Binding → Binding → ℕ
later bindings b = count_by (λ c. nat_lt b.refreshed c.refreshed) bindings

-- it is one of as many, refreshed last, as a user may have
abbrev pub is_recent : List Binding → Binding → Bool
is_recent bindings b = nat_lt (later bindings b) max_bindings

-- those refreshed last, in their order
abbrev pub recent : List Binding → List Binding
recent bindings = filter (is_recent bindings) bindings

-- those that remain: the others are dropped where they would be too many and the rules say so
abbrev pub standing : BindingRules → List Binding → List Binding
standing rules bindings = if rules.oldest_leaves && nat_lt max_bindings (length bindings) then recent bindings else bindings

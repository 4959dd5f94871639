use Rattle.std.proofs.Common.{◌≡◌, ◌++◌, map, drop}
use Rattle.header_fields.specs.Lookup.{values_named}
use Rattle.header_fields.proofs.lookup.values_named.Given as goal

-- the values so far, and those of the headers that are left, are all
abbrev pub invariant-loop-header : goal.invariant-loop-header
invariant-loop-header l = map (λ value. value.now) l.values.items ++ values_named l.name (drop l.header-index l.headers) ≡ values_named l.name l.headers

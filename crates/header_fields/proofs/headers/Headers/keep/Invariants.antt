use Rattle.std.proofs.Common.{◌≡◌, ◌++◌, drop}
use Rattle.header_fields.proofs.headers.Headers.keep.Given as goal

-- the fields so far, and those that are left, are all
abbrev pub invariant-loop-header : goal.invariant-loop-header
invariant-loop-header l = l.entries.items ++ drop l.header-index l.header-items ≡ l.header-items

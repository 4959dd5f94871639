use Rattle.std.proofs.Common.{◌≡◌, ◌++◌, drop}
use Rattle.std.specs.List.{flat_map}
use Rattle.pages.specs.Calls.{call_row}
use Rattle.pages.proofs.page_calls.put_rows.Given as goal

-- what was written and what is left are all
abbrev pub invariant-loop-call : goal.invariant-loop-call
invariant-loop-call l = l.out.items ++ flat_map (call_row l.moment) (drop l.call-index l.calls) ≡ l.fn.out.items ++ flat_map (call_row l.moment) l.calls

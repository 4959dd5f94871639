use Rattle.std.proofs.Common.{◌≡◌, ◌++◌, drop}
use Rattle.std.specs.List.{flat_map}
use Rattle.pages.specs.Pieces.{behind_comma, listed}
use Rattle.pages.specs.JsonCalls.{call_object}
use Rattle.pages.proofs.json_calls.put_calls.Given as goal

-- what was written and what is left are all
abbrev pub invariant-loop-call : goal.invariant-loop-call
invariant-loop-call l = l.out.items ++ flat_map (behind_comma call_object) (drop l.call-index l.rest) ≡ l.fn.out.items ++ listed call_object l.calls

use Rattle.std.proofs.Common.{◌≡◌, ◌++◌, drop}
use Rattle.server.specs.State.{calls_text}
use Rattle.server.proofs.state.put_calls.Given as goal

-- the text so far and that of what is left are all
abbrev pub invariant-loop-call : goal.invariant-loop-call
invariant-loop-call l = l.out.items ++ calls_text (drop l.call-index l.calls) ≡ l.fn.out.items ++ calls_text l.calls

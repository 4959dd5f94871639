use Rattle.std.proofs.Common.{◌≡◌, ◌++◌, drop}
use Rattle.sip_writing.proofs.requests.add_further.Given as goal

-- what is there, and what is left to put, is the whole
abbrev pub invariant-loop-header : goal.invariant-loop-header
invariant-loop-header l = l.headers ++ drop l.header-index l.further ≡ l.fn.headers ++ l.further

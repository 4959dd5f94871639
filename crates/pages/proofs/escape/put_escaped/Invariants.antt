use Rattle.std.proofs.Common.{◌≡◌, ◌++◌, drop}
use Rattle.pages.specs.Escape.{escaped}
use Rattle.pages.proofs.escape.put_escaped.Given as goal

-- what was written and what is left are all
abbrev pub invariant-loop-byte : goal.invariant-loop-byte
invariant-loop-byte l = l.out.items ++ escaped l.place (drop l.byte-index l.text) ≡ l.fn.out.items ++ escaped l.place l.text

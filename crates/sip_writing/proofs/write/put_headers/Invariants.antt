use Rattle.std.proofs.Common.{◌≡◌, ◌++◌, drop}
use Rattle.sip_writing.specs.Writing.{headers_text}
use Rattle.sip_writing.proofs.write.put_headers.Given as goal

-- what is written, and what is left to write, is the whole
abbrev pub invariant-loop-header : goal.invariant-loop-header
invariant-loop-header l = l.out.items ++ headers_text (drop l.header-index l.headers) ≡ l.fn.out.items ++ headers_text l.headers

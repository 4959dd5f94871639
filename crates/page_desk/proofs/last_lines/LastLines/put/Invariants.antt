use Rattle.std.proofs.Common.{◌++◌, ℕ, List, take}
use Rattle.page_desk.specs.Lines.{Keeps}
use Rattle.page_desk.proofs.last_lines.LastLines.put.Given as goal

-- the text goes on with the bytes so far
abbrev pub invariant-loop-byte : goal.invariant-loop-byte
invariant-loop-byte l = (text : List ℕ) → Keeps text l.fn.self → Keeps (text ++ take l.byte-index l.bytes) l.self

use Rattle.std.proofs.Common.{◌≡◌, ◌++◌, drop}
use Rattle.sip_uri.specs.Writing.{BeginsWith}
use Rattle.note_lines.specs.Lines.{dashed_text}
use Rattle.note_lines.proofs.lines.put_dashed.Given as goal

-- what was written and what is left are all, after what was there before
abbrev pub invariant-loop-byte : goal.invariant-loop-byte
invariant-loop-byte l =
    (l.out.items ++ dashed_text (drop l.byte-index l.words) ≡ l.fn.out.items ++ dashed_text l.words)
    × BeginsWith l.fn.out.items l.out.items

use Rattle.std.proofs.Common.{◌≡◌, ◌++◌, drop}
use Rattle.std.specs.List.{flat_map}
use Rattle.sip_uri.specs.Writing.{BeginsWith}
use Rattle.note_lines.specs.Lines.{shown_byte}
use Rattle.note_lines.proofs.lines.put_bytes.Given as goal

-- what was written and what is left are all, after what was there before
abbrev pub invariant-loop-byte : goal.invariant-loop-byte
invariant-loop-byte l =
    (l.out.items ++ flat_map shown_byte (drop l.byte-index l.bytes) ≡ l.fn.out.items ++ flat_map shown_byte l.bytes)
    × BeginsWith l.fn.out.items l.out.items

use Rattle.std.proofs.Common.{◌≡◌, ◌≤◌, ◌+◌, drop}
use Rattle.configuration.specs.Lines.{newlines}
use Rattle.configuration.proofs.lines.line_behind.Given as goal

-- the line so far, and the line feeds of what is left
abbrev pub invariant-loop-byte : goal.invariant-loop-byte
invariant-loop-byte l = record {
  count : l.line + newlines (drop l.byte-index l.before) ≡ newlines l.before + 1;
  bound : l.line ≤ l.byte-index + 1;
}

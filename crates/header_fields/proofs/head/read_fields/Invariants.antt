use Rattle.std.proofs.Common.{◌≡◌, ◌-◌}
use Rattle.header_fields.specs.Head.{head_of}
use Rattle.header_fields.specs.Lines.{lines_within}
use Rattle.header_fields.specs.Steps.{IsOpen}
use Rattle.header_fields.proofs.HeadSteps.{resumed}
use Rattle.header_fields.proofs.head.read_fields.Given as goal

-- the fields so far and the lines that are left are all, and the last field can go on
abbrev pub invariant-loop : goal.invariant-loop
invariant-loop l = record {
  whole : resumed l.headers.items (lines_within (l.limit - l.counter) l.rest) ≡ head_of l.limit l.text;
  open_ : IsOpen l.headers.items l.field l.rest;
}

use Rattle.std.proofs.Common.{sym, ap, ◌∙◌}
use Rattle.std.proofs.lemmas.List.{take_rest}
use Rattle.header_fields.specs.Lines.{begins_line_end}
use Rattle.header_fields.proofs.LineLaws.{line_goes_on}
use Rattle.header_fields.proofs.lines.line_end.Goals as goal

pub loop-at-preserved : goal.loop-at-preserved
loop-at-preserved c = line_goes_on c.args.text.now c.loop-at.at _ c.loop-at-test.true (ap begins_line_end (sym (take_rest c.args.text.now c.loop-at.at)) ∙ sym c.if-begins_line_end.ensures) c.loop-at.invariant

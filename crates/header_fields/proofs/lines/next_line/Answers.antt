use Rattle.std.proofs.Common.{ℕ, ◌+◌, List, Some, take, sym, ap, ◌∙◌}
use Rattle.std.proofs.lemmas.List.{take_rest}
use Rattle.header_fields.specs.Lines.{begins_line_end}
use Rattle.header_fields.proofs.NextLine.{line_found, line_refused, line_missing}
use Rattle.header_fields.proofs.lines.next_line.Goals as goal

pub returns-in_err-at : goal.returns-in_err-at
returns-in_err-at c = rw c.from_residual.ensures (line_missing c.args.text.now c.in_err-at.ensures)

pub returns-then-not-begins_line_end : goal.returns-then-not-begins_line_end
returns-then-not-begins_line_end c =
    line_refused c.args.text.now c.in_ok-at.at c.in_ok-at.ensures.0.high c.in_ok-at.ensures.0.before c.in_ok-at.ensures.1
    (ap begins_line_end (sym (take_rest c.args.text.now c.in_ok-at.at)) ∙ sym c.if-not-begins_line_end.ensures)

pub returns : goal.returns
returns c =
    ap (λ (rest : List ℕ). Some (take c.in_ok-at.at c.args.text.now, rest)) (take_rest c.args.text.now (c.in_ok-at.at + 2))
    ∙ line_found c.args.text.now c.in_ok-at.at c.in_ok-at.ensures.0.high c.in_ok-at.ensures.0.before
    (ap begins_line_end (sym (take_rest c.args.text.now c.in_ok-at.at)) ∙ sym c.if-not-begins_line_end.ensures)

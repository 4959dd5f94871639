use Rattle.std.proofs.Common.{List, ℕ, sym, ap, ◌∙◌}
use Rattle.std.specs.List.{list_all}
use Rattle.sdp.specs.Lines.{texts, is_clean}
use Rattle.sdp.proofs.CleanLines.{all_lines}
use Rattle.sdp.proofs.split.lines_of.Goals as goal

pub returns-then-is_empty-clause-lines : goal.returns-then-is_empty-clause-lines
returns-then-is_empty-clause-lines c =
    all_lines (texts c.in_ok-lines.lines.items) c.in_ok-lines.rest.now c.args.text.now (sym c.is_empty.ensures ∙ c.if-is_empty.true) c.in_ok-lines.ensures.lines

pub returns-then-is_empty-clause-clean : goal.returns-then-is_empty-clause-clean
returns-then-is_empty-clause-clean c =
    let all = all_lines (texts c.in_ok-lines.lines.items) c.in_ok-lines.rest.now c.args.text.now (sym c.is_empty.ensures ∙ c.if-is_empty.true) c.in_ok-lines.ensures.lines in
    sym (ap (λ (ls : List (List ℕ)). list_all is_clean ls) (sym all) ∙ c.in_ok-lines.ensures.clean)

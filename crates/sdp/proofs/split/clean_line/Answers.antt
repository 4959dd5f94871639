use Rattle.std.proofs.Common.{sym, ap, ◌∙◌, arith}
use Rattle.std.proofs.lemmas.List.{take_rest}
use Rattle.sdp.specs.Lines.{behind_line_end}
use Rattle.sdp.proofs.CleanLines.{clean_line_at, clean_upto}
use Rattle.sdp.proofs.split.clean_line.Goals as goal

pub returns-clause-line : goal.returns-clause-line
returns-clause-line c =
    clean_line_at c.args.text.now c.in_ok-at.at c.in_ok-rest.rest.now c.in_ok-at.ensures.0.high c.in_ok-at.ensures.0.before
    (ap behind_line_end (sym (take_rest c.args.text.now c.in_ok-at.at)) ∙ sym c.in_ok-rest.ensures)

pub returns-clause-clean : goal.returns-clause-clean
returns-clause-clean c = clean_upto c.args.text.now c.in_ok-at.at (omega (arith, c.in_ok-at.ensures.0.high)) c.in_ok-at.ensures.0.before

use Rattle.std.proofs.Common.{sym, ap, ◌∙◌}
use Rattle.text.specs.Trim.{without_end}
use Rattle.text.proofs.TrimLaws.{end_blank, end_other}
use Rattle.text.proofs.blanks.without_end.Goals as goal

pub returns-then-not-is_blank : goal.returns-then-not-is_blank
returns-then-not-is_blank c =
    let parts = c.in-Some.ensures.cases.0 in
    parts ∙ sym (end_other c.in-Some.before.now c.in-Some.last.now (sym c.if-not-is_blank.ensures)) ∙ ap without_end (sym parts) ∙ c.loop-last.invariant

pub loop-last-preserved : goal.loop-last-preserved
loop-last-preserved c =
    sym (end_blank c.in-Some.before.now c.in-Some.last.now (sym c.if-not-is_blank.ensures)) ∙ ap without_end (sym c.in-Some.ensures.cases.0) ∙ c.loop-last.invariant

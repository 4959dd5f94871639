use Rattle.std.proofs.Common.{◌++◌, ◌∷◌, [], ℕ, sym, ap, ◌∙◌}
use Rattle.std.proofs.lemmas.Bool.{ne_eqb}
use Rattle.sdp.specs.Lines.{without_cr}
use Rattle.sdp.proofs.LineCuts.{cr_at_end, other_at_end}
use Rattle.sdp.proofs.split.without_cr.Goals as goal

pub returns-then-last-eq13 : goal.returns-then-last-eq13
returns-then-last-eq13 c =
    sym (ap without_cr (c.in-Some.ensures.cases.0 ∙ ap (λ (b : ℕ). c.in-Some.front.now ++ b ∷ []) c.if-last-eq13.true) ∙ cr_at_end c.in-Some.front.now)

pub returns-else-last-eq13 : goal.returns-else-last-eq13
returns-else-last-eq13 c =
    let parts = c.in-Some.ensures.cases.0 in
    parts ∙ sym (ap without_cr parts ∙ other_at_end c.in-Some.front.now c.in-Some.last.now (ne_eqb _ 13 c.if-last-eq13.false))

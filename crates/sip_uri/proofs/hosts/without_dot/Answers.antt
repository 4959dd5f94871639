use Rattle.std.proofs.Common.{◌++◌, ◌∷◌, [], ℕ, sym, ap, ◌∙◌}
use Rattle.std.proofs.lemmas.Bool.{ne_eqb}
use Rattle.sip_uri.specs.Hosts.{without_dot}
use Rattle.sip_uri.proofs.LabelLaws.{dot_at_end, other_at_end}
use Rattle.sip_uri.proofs.hosts.without_dot.Goals as goal

pub returns-then-last-eq46 : goal.returns-then-last-eq46
returns-then-last-eq46 c =
    sym (ap without_dot (c.in-Some.ensures.cases.0 ∙ ap (λ (b : ℕ). c.in-Some.front.now ++ b ∷ []) c.if-last-eq46.true) ∙ dot_at_end c.in-Some.front.now)

pub returns-else-last-eq46 : goal.returns-else-last-eq46
returns-else-last-eq46 c =
    let parts = c.in-Some.ensures.cases.0 in
    parts ∙ sym (ap without_dot parts ∙ other_at_end c.in-Some.front.now c.in-Some.last.now (ne_eqb _ 46 c.if-last-eq46.false))

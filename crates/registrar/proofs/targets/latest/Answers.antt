use Rattle.std.proofs.Common.{nat_lt, ◌∙◌, sym}
use Rattle.registrar.specs.Registering.{present}
use Rattle.registrar.specs.Bound.{is_latest}
use Rattle.registrar.proofs.PresentLaws.{find-filter}
use Rattle.registrar.proofs.targets.latest.Goals as goal

pub returns : goal.returns
returns c = c.first_latest.ensures ∙ sym (find-filter (is_latest (present c.args.now c.args.bindings.now)) (λ b. nat_lt c.args.now b.expires_at) c.args.bindings.now)

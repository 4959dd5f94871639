use Rattle.std.proofs.Common.{nat_lt, nat_le, ◌∙◌, sym}
use Rattle.registrar.proofs.PresentLaws.{list_all-filter}
use Rattle.registrar.proofs.targets.is_latest.Goals as goal

pub returns : goal.returns
returns c = c.all_over_or_before.ensures ∙ sym (list_all-filter (λ b. nat_le b.refreshed c.args.binding.now.refreshed) (λ b. nat_lt c.args.now b.expires_at) c.args.bindings.now)

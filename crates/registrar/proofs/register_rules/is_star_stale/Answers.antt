use Rattle.std.proofs.Common.{nat_lt}
use Rattle.registrar.specs.Registering.{is_older_than}
use Rattle.registrar.proofs.PresentLaws.{list_any-filter}
use Rattle.registrar.proofs.register_rules.is_star_stale.Goals as goal

pub returns-then-register : goal.returns-then-register
returns-then-register c = cc (c.is_older_than_any.ensures, list_any-filter (is_older_than c.args.register.now) (λ b. nat_lt c.args.now b.expires_at) c.args.bindings.now)

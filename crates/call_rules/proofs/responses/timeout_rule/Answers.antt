use Rattle.std.proofs.Common.{ℕ, Option, sym, subst}
use Rattle.call_rules.specs.Places.{StandsIfAny}
use Rattle.call_rules.proofs.PlaceLaws.{timeout_there}
use Rattle.call_rules.proofs.responses.timeout_rule.Goals as goal

pub returns-clause-there : goal.returns-clause-there
returns-clause-there c =
    subst (λ (o : Option ℕ). StandsIfAny c.args.calls.now.calls o) (sym c.open_place.ensures) (timeout_there c.args.calls.now.calls c.args.asked.now.parts)

use Rattle.std.proofs.Common.{◌≡◌, drop}
use Rattle.configuration.specs.Flaws.{user_twice}
use Rattle.configuration.proofs.rule_flaws.user_twice.Given as goal

-- no user so far occurs again
abbrev pub invariant-loop-at : goal.invariant-loop-at
invariant-loop-at l = user_twice (drop l.at l.users) ≡ user_twice l.users

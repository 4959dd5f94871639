use Rattle.std.proofs.Common.{◌≡◌, drop}
use Rattle.configuration.specs.Flaws.{malformed_user}
use Rattle.configuration.proofs.rule_flaws.malformed_user.Given as goal

-- no user so far is malformed
abbrev pub invariant-loop-user : goal.invariant-loop-user
invariant-loop-user l = malformed_user (drop l.user-index l.users) ≡ malformed_user l.users

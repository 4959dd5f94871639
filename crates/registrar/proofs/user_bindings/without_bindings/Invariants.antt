use Rattle.std.proofs.Common.{◌≡◌, map}
use Rattle.registrar.specs.Registrar.{without_bindings}
use Rattle.registrar.proofs.user_bindings.without_bindings.Given as goal

abbrev pub invariant-loop-user : goal.invariant-loop-user
invariant-loop-user l = l.entries.items ≡ map without_bindings l.yielded

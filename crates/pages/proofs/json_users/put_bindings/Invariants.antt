use Rattle.std.proofs.Common.{◌≡◌, ◌++◌, drop}
use Rattle.std.specs.List.{flat_map}
use Rattle.pages.specs.Pieces.{behind_comma, listed}
use Rattle.pages.specs.JsonUsers.{binding_object}
use Rattle.pages.proofs.json_users.put_bindings.Given as goal

-- what was written and what is left are all
abbrev pub invariant-loop-binding : goal.invariant-loop-binding
invariant-loop-binding l = l.out.items ++ flat_map (behind_comma binding_object) (drop l.binding-index l.rest) ≡ l.fn.out.items ++ listed binding_object l.bindings

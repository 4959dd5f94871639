use Rattle.std.proofs.Common.{◌≡◌, ◌++◌, drop}
use Rattle.std.specs.List.{flat_map}
use Rattle.pages.specs.Users.{binding_row}
use Rattle.pages.proofs.page_users.put_bindings.Given as goal

-- what was written and what is left are all
abbrev pub invariant-loop-binding : goal.invariant-loop-binding
invariant-loop-binding l = l.out.items ++ flat_map (binding_row l.name) (drop l.binding-index l.bindings) ≡ l.fn.out.items ++ flat_map (binding_row l.name) l.bindings

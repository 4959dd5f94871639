use Rattle.std.proofs.Common.{◌≡◌, ◌++◌, drop}
use Rattle.std.specs.List.{flat_map}
use Rattle.pages.specs.Pieces.{behind_comma, listed}
use Rattle.pages.specs.JsonUsers.{user_object}
use Rattle.pages.proofs.json_users.put_users.Given as goal

-- what was written and what is left are all
abbrev pub invariant-loop-user : goal.invariant-loop-user
invariant-loop-user l = l.out.items ++ flat_map (behind_comma user_object) (drop l.user-index l.rest) ≡ l.fn.out.items ++ listed user_object l.users

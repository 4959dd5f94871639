use Rattle.std.proofs.Common.{◌≡◌, ◌++◌, drop}
use Rattle.std.specs.List.{flat_map}
use Rattle.pages.specs.Users.{user_rows}
use Rattle.pages.proofs.page_users.put_rows.Given as goal

-- what was written and what is left are all
abbrev pub invariant-loop-user : goal.invariant-loop-user
invariant-loop-user l = l.out.items ++ flat_map user_rows (drop l.user-index l.users) ≡ l.fn.out.items ++ flat_map user_rows l.users

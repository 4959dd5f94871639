use Rattle.std.proofs.Common.{◌≡◌, ◌++◌, drop}
use Rattle.live_users.proofs.lists.keep_all.Given as goal

-- those kept so far, and those that are left, are all
abbrev pub invariant-loop-user : goal.invariant-loop-user
invariant-loop-user l = l.kept.items ++ drop l.user-index l.users ≡ l.users

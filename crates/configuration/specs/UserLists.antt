-- The properties of a list of users that the key `users` may list.
use Rattle.std.specs.Prelude.{◌≡◌, ◌≤◌, ℕ, true, List, length, None}
use Rattle.std.specs.List.{list_all}
use Rattle.registrar.specs.Limits.{max_users}
use Rattle.registrar.specs.Registering.{are_distinct}
use Rattle.configuration.specs.Names.{is_user}
use Rattle.configuration.specs.Rules.{first_broken, is_user_list}
use Rattle.configuration.specs.declared.config.Config.{Config}

pub record HoldsUsers (users : List (List ℕ)) : Type 0 where
  pub some_users : 1 ≤ length users
  pub room : length users ≤ max_users
  pub formed : list_all is_user users ≡ true
  pub distinct : are_distinct users ≡ true

-- this holds for each such list
abbrev pub UserListHolds : Type 0
UserListHolds = (users : List (List ℕ)) → is_user_list users ≡ true → HoldsUsers users

-- the users of a configuration that keeps the rules are such a list
abbrev pub KeptUsersAreAList : Type 0
KeptUsersAreAList = (c : Config) → first_broken c ≡ None → is_user_list c.users ≡ true

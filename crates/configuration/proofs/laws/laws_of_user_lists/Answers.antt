use Rattle.configuration.proofs.UserListLaws.{holds, kept_users}
use Rattle.configuration.proofs.laws.laws_of_user_lists.Goals as goal

pub returns-clause-holds : goal.returns-clause-holds
returns-clause-holds c = holds

pub returns-clause-kept : goal.returns-clause-kept
returns-clause-kept c = kept_users

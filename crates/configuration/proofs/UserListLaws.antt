-- The properties of a list of users, and that a configuration that keeps the rules has such a list.
use Rattle.std.proofs.Common.{◌&&◌}
use Rattle.std.proofs.lemmas.Bool.{leb-true}
use Rattle.configuration.specs.Rules.{has_relay_ports, has_address, has_users, has_lifetime, has_longest_lifetime, has_domain, has_silence_limit, has_length_limit, has_share, first_broken, is_user_list}
use Rattle.configuration.specs.UserLists.{KeptUsersAreAList, UserListHolds}
use Rattle.configuration.proofs.RuleLaws.{all_kept, four}

pub holds : UserListHolds
unfolding is_user_list
holds users h =
    let parts = four _ _ _ _ h in
    record { some_users = leb-true _ _ parts.0; room = leb-true _ _ parts.1; formed = parts.2; distinct = parts.3 }

pub kept_users : KeptUsersAreAList
unfolding first_broken has_users
kept_users c h =
    (all_kept (has_relay_ports c) (has_address c) (has_users c) (has_lifetime c && has_longest_lifetime c) (has_domain c) (has_silence_limit c && has_length_limit c) (has_share c) _ _ _ _ _ _ _ h).2

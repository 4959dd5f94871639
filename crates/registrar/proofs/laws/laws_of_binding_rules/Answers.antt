use Rattle.registrar.proofs.CountLaws.{eight_stand}
use Rattle.registrar.proofs.LastingLaws.{none_outlasts}
use Rattle.registrar.proofs.RoomLaws.{never_too_many}
use Rattle.registrar.proofs.RecentLaws.{left_before, none_leaves}
use Rattle.registrar.proofs.laws.laws_of_binding_rules.Goals as goal

pub returns-clause-lasting : goal.returns-clause-lasting
returns-clause-lasting c = none_outlasts

pub returns-clause-few : goal.returns-clause-few
returns-clause-few c = never_too_many

pub returns-clause-eight : goal.returns-clause-eight
returns-clause-eight c = eight_stand

pub returns-clause-oldest : goal.returns-clause-oldest
returns-clause-oldest c = left_before

pub returns-clause-room : goal.returns-clause-room
returns-clause-room c = none_leaves

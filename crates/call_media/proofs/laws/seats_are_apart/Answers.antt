use Rattle.call_media.proofs.SeatLaws.{seats_pass, each_seated, seats_differ}
use Rattle.call_media.proofs.laws.seats_are_apart.Goals as goal

pub returns-clause-each : goal.returns-clause-each
returns-clause-each c = seats_pass

pub returns-clause-distinct : goal.returns-clause-distinct
returns-clause-distinct c = seats_differ

pub returns-clause-there : goal.returns-clause-there
returns-clause-there c = each_seated

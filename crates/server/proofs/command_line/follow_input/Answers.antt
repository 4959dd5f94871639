use Rattle.server.proofs.StreamLaws.{followed_as}
use Rattle.server.proofs.command_line.follow_input.Goals as goal

pub returns-clause-written : goal.returns-clause-written
returns-clause-written g c = followed_as c.follow.result c.args.notes _ _ _ _ _ _ c.file_of-config.ensures c.follow.ensures.written

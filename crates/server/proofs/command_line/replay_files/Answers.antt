use Rattle.server.proofs.ReplayLaws.{replayed_as}
use Rattle.server.proofs.command_line.replay_files.Goals as goal

pub returns-clause-written : goal.returns-clause-written
returns-clause-written g c = replayed_as c.replay.result c.args.notes _ _ _ _ _ _ c.file_of-config.ensures c.open.ensures c.replay.ensures.written

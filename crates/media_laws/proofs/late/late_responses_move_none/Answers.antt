use Rattle.media_laws.proofs.Copies.Lateness.{passed_late}
use Rattle.media_laws.proofs.Copies.Taken.{passed_over}
use Rattle.media_laws.proofs.late.late_responses_move_none.Goals as goal

pub returns-clause-late : goal.returns-clause-late
returns-clause-late c = passed_late

pub returns-clause-taken : goal.returns-clause-taken
returns-clause-taken c = passed_over

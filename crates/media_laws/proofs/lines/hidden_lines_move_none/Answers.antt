use Rattle.media_laws.proofs.CallLines.HiddenLines.{hidden_accepted, hidden_gone, hidden_rings}
use Rattle.media_laws.proofs.lines.hidden_lines_move_none.Goals as goal

pub returns-clause-rings : goal.returns-clause-rings
returns-clause-rings c = hidden_rings

pub returns-clause-ends : goal.returns-clause-ends
returns-clause-ends c = hidden_gone

pub returns-clause-accepted : goal.returns-clause-accepted
returns-clause-accepted c = hidden_accepted

use Rattle.offer_answer.proofs.SessionLaws.{own_lines, once_lines, lead_lines}
use Rattle.offer_answer.proofs.laws.rows_of_session_stand.Goals as goal

pub returns-clause-own : goal.returns-clause-own
returns-clause-own c = own_lines

pub returns-clause-once : goal.returns-clause-once
returns-clause-once c = once_lines

pub returns-clause-rows : goal.returns-clause-rows
returns-clause-rows c = lead_lines

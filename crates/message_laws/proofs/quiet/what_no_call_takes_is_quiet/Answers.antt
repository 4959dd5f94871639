use Rattle.message_laws.proofs.QuietEvents.QuietMoves.{again_move, nothing_move, okay_move, refusal_move, reply_move, silent_move, stateless_move}
use Rattle.message_laws.proofs.quiet.what_no_call_takes_is_quiet.Goals as goal

pub returns-clause-ignored : goal.returns-clause-ignored
returns-clause-ignored c = nothing_move

pub returns-clause-stateless : goal.returns-clause-stateless
returns-clause-stateless c = stateless_move

pub returns-clause-refused : goal.returns-clause-refused
returns-clause-refused c = refusal_move

pub returns-clause-replied : goal.returns-clause-replied
returns-clause-replied c = reply_move

pub returns-clause-refreshed : goal.returns-clause-refreshed
returns-clause-refreshed c = okay_move

pub returns-clause-silent : goal.returns-clause-silent
returns-clause-silent c = silent_move

pub returns-clause-again : goal.returns-clause-again
returns-clause-again c = again_move

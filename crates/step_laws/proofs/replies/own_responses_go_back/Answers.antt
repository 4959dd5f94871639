use Rattle.step_laws.proofs.ReplyRows.{alone, unfit, unread}
use Rattle.step_laws.proofs.replies.own_responses_go_back.Goals as goal

pub returns-clause-alone : goal.returns-clause-alone
returns-clause-alone c = alone

pub returns-clause-unfit : goal.returns-clause-unfit
returns-clause-unfit c = unfit

pub returns-clause-unread : goal.returns-clause-unread
returns-clause-unread c = unread

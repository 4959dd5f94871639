use Rattle.transactions.proofs.RepeatLaws.{keeps_final, leaves_answer, keeps_over, repeats_answer, resends_answer}
use Rattle.transactions.proofs.laws.answers_are_repeated.Goals as goal

pub returns-clause-kept : goal.returns-clause-kept
returns-clause-kept c = λ table id response now. keeps_final table id response now

pub returns-clause-left : goal.returns-clause-left
returns-clause-left c = λ table call. leaves_answer table call

pub returns-clause-over : goal.returns-clause-over
returns-clause-over c = λ table calls. keeps_over table calls

pub returns-clause-again : goal.returns-clause-again
returns-clause-again c = λ table request. repeats_answer table request

pub returns-clause-timer : goal.returns-clause-timer
returns-clause-timer c = λ transaction. resends_answer transaction

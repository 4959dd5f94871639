use Rattle.media_laws.proofs.OtherCalls.AnswersKnown.{answers_after, in_dialog, new_answers}
use Rattle.media_laws.proofs.answers_known.answers_are_known.Goals as goal

pub returns-clause-begins : goal.returns-clause-begins
returns-clause-begins c = new_answers

pub returns-clause-step : goal.returns-clause-step
returns-clause-step c = λ s event begun sent t ds k taken ms new ties asked numbers known move. answers_after s event begun sent t ds k taken ms new ties asked numbers known move

pub returns-clause-dialog : goal.returns-clause-dialog
returns-clause-dialog c = in_dialog

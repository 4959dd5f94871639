use Rattle.message_laws.proofs.Messages.SendRows.{after_sent, new_sent}
use Rattle.message_laws.proofs.repeats.what_goes_again_was_sent.Goals as goal

pub returns-clause-begins : goal.returns-clause-begins
returns-clause-begins c = new_sent

pub returns-clause-step : goal.returns-clause-step
returns-clause-step c = after_sent

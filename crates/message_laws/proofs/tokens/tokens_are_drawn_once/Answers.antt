use Rattle.message_laws.proofs.TokenUse.Events.{after_knows, new_knows}
use Rattle.message_laws.proofs.tokens.tokens_are_drawn_once.Goals as goal

pub returns-clause-begins : goal.returns-clause-begins
returns-clause-begins c = new_knows

pub returns-clause-step : goal.returns-clause-step
returns-clause-step c = after_knows

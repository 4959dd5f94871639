use Rattle.step_laws.proofs.RepeatEvents.{ended, fired, unclaimed, unheard}
use Rattle.step_laws.proofs.repeats.timers_send_what_went_before.Goals as goal

pub returns-clause-fired : goal.returns-clause-fired
returns-clause-fired c = fired

pub returns-clause-ended : goal.returns-clause-ended
returns-clause-ended c = ended

pub returns-clause-unheard : goal.returns-clause-unheard
returns-clause-unheard c = unheard

pub returns-clause-unclaimed : goal.returns-clause-unclaimed
returns-clause-unclaimed c = unclaimed

use Rattle.media_laws.proofs.Scenes.Fitting.{answers_fits, counts_fits, first_answer, refreshes_fits}
use Rattle.media_laws.proofs.new_dialogs.dialogs_that_come_fit.Goals as goal

pub returns-clause-counted : goal.returns-clause-counted
returns-clause-counted c = counts_fits

pub returns-clause-refreshed : goal.returns-clause-refreshed
returns-clause-refreshed c = refreshes_fits

pub returns-clause-answered : goal.returns-clause-answered
returns-clause-answered c = answers_fits

pub returns-clause-first : goal.returns-clause-first
returns-clause-first c = first_answer

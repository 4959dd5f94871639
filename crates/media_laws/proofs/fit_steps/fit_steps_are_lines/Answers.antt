use Rattle.media_laws.proofs.Scenes.FitSteps.{fit_row, fit_talks}
use Rattle.media_laws.proofs.fit_steps.fit_steps_are_lines.Goals as goal

pub returns-clause-step : goal.returns-clause-step
returns-clause-step c = fit_row

pub returns-clause-talks : goal.returns-clause-talks
returns-clause-talks c = fit_talks

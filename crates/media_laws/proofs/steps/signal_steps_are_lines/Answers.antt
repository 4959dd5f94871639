use Rattle.media_laws.proofs.CallLines.StepsOn.{goes_on_at}
use Rattle.media_laws.proofs.CallLines.SignalSteps.{signal_row}
use Rattle.media_laws.proofs.steps.signal_steps_are_lines.Goals as goal

pub returns-clause-step : goal.returns-clause-step
returns-clause-step c = signal_row

pub returns-clause-put : goal.returns-clause-put
returns-clause-put c = goes_on_at

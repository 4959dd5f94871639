use Rattle.media_laws.proofs.Scenes.Comings.{ack_signals, bye_signals, cancel_signals, due_signals}
use Rattle.media_laws.proofs.signals.signals_come.Goals as goal

pub returns-clause-due : goal.returns-clause-due
returns-clause-due c = due_signals

pub returns-clause-ack : goal.returns-clause-ack
returns-clause-ack c = ack_signals

pub returns-clause-cancel : goal.returns-clause-cancel
returns-clause-cancel c = cancel_signals

pub returns-clause-bye : goal.returns-clause-bye
returns-clause-bye c = bye_signals

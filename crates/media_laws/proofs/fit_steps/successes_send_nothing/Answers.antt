use Rattle.media_laws.proofs.Scenes.Silence.{success_silent}
use Rattle.media_laws.proofs.fit_steps.successes_send_nothing.Goals as goal

pub returns : goal.returns
returns c = success_silent

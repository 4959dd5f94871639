use Rattle.media_laws.proofs.OtherCalls.Unanswered.{stays_unanswered}
use Rattle.media_laws.proofs.untouched_calls.open_offers_stay_unanswered.Goals as goal

pub returns : goal.returns
returns c = stays_unanswered

use Rattle.media_laws.proofs.Scenes.ListedStages.{has_legs, is_at}
use Rattle.media_laws.proofs.call_stages.listed_calls_stand.Goals as goal

pub returns-clause-at : goal.returns-clause-at
returns-clause-at c = is_at

pub returns-clause-legs : goal.returns-clause-legs
returns-clause-legs c = has_legs

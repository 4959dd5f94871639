use Rattle.media_laws.proofs.Scenes.Askers.{asker_in_scene, offer_names}
use Rattle.media_laws.proofs.Scenes.Leaving.{bye_in, cancel_in}
use Rattle.media_laws.proofs.scene_requests.scenes_have_their_requests.Goals as goal

pub returns-clause-offer : goal.returns-clause-offer
returns-clause-offer c = asker_in_scene

pub returns-clause-names : goal.returns-clause-names
returns-clause-names c = offer_names

pub returns-clause-bye : goal.returns-clause-bye
returns-clause-bye c = bye_in

pub returns-clause-cancel : goal.returns-clause-cancel
returns-clause-cancel c = cancel_in

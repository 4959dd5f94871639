use Rattle.media_laws.proofs.Scenes.Legs.{asked_in, caller_in, first_asked, first_in, leg_in}
use Rattle.media_laws.proofs.scene_legs.scenes_have_their_legs.Goals as goal

pub returns-clause-leg : goal.returns-clause-leg
returns-clause-leg c = leg_in

pub returns-clause-first : goal.returns-clause-first
returns-clause-first c = first_in

pub returns-clause-across : goal.returns-clause-across
returns-clause-across c = caller_in

pub returns-clause-asked : goal.returns-clause-asked
returns-clause-asked c = asked_in

pub returns-clause-begins : goal.returns-clause-begins
returns-clause-begins c = first_asked

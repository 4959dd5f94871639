use Rattle.media_laws.proofs.Scenes.GoingOn.{asked_new, asked_on, dialogs_go_on, first_legs, legs_go_on, stands_by}
use Rattle.media_laws.proofs.call_moves.calls_go_on.Goals as goal

pub returns-clause-dialogs : goal.returns-clause-dialogs
returns-clause-dialogs c = dialogs_go_on

pub returns-clause-legs : goal.returns-clause-legs
returns-clause-legs c = legs_go_on

pub returns-clause-first : goal.returns-clause-first
returns-clause-first c = first_legs

pub returns-clause-stands : goal.returns-clause-stands
returns-clause-stands c = stands_by

pub returns-clause-asked : goal.returns-clause-asked
returns-clause-asked c = asked_on

pub returns-clause-taken : goal.returns-clause-taken
returns-clause-taken c = asked_new

use Rattle.media_laws.proofs.LateResponses.LaterKnown.{later_known}
use Rattle.media_laws.proofs.LateResponses.LegsKept.{dialog_moved}
use Rattle.media_laws.proofs.late.later_dialogs_stay.Goals as goal

pub returns-clause-kept : goal.returns-clause-kept
returns-clause-kept c = dialog_moved

pub returns-clause-known : goal.returns-clause-known
returns-clause-known c = later_known

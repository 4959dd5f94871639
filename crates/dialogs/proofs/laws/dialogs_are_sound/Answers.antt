use Rattle.dialogs.proofs.SoundLaws.{callees_is_sound, callers_is_sound, counted_is_sound, refreshed_is_sound}
use Rattle.dialogs.proofs.laws.dialogs_are_sound.Goals as goal

pub returns-clause-callee : goal.returns-clause-callee
returns-clause-callee c = callees_is_sound

pub returns-clause-caller : goal.returns-clause-caller
returns-clause-caller c = callers_is_sound

pub returns-clause-counted : goal.returns-clause-counted
returns-clause-counted c = counted_is_sound

pub returns-clause-refreshed : goal.returns-clause-refreshed
returns-clause-refreshed c = refreshed_is_sound

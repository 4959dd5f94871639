use Rattle.media_laws.proofs.OtherCalls.Afterwards.{left_listed, one_listed}
use Rattle.media_laws.proofs.OtherCalls.Untouched.{stays_shown}
use Rattle.media_laws.proofs.untouched_calls.calls_left_stay_shown.Goals as goal

pub returns-clause-call : goal.returns-clause-call
returns-clause-call c = stays_shown

pub returns-clause-none_changed : goal.returns-clause-none_changed
returns-clause-none_changed c = left_listed

pub returns-clause-one_changed : goal.returns-clause-one_changed
returns-clause-one_changed c = one_listed

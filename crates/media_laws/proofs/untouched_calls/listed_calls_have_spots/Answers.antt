use Rattle.media_laws.proofs.OtherCalls.Spots.{all_left, has_spot, hidden_goes, one_begins, stays_hidden}
use Rattle.media_laws.proofs.untouched_calls.listed_calls_have_spots.Goals as goal

pub returns-clause-spot : goal.returns-clause-spot
returns-clause-spot c = has_spot

pub returns-clause-none : goal.returns-clause-none
returns-clause-none c = all_left

pub returns-clause-hidden : goal.returns-clause-hidden
returns-clause-hidden c = stays_hidden

pub returns-clause-hidden_goes : goal.returns-clause-hidden_goes
returns-clause-hidden_goes c = hidden_goes

pub returns-clause-begins : goal.returns-clause-begins
returns-clause-begins c = one_begins

use Rattle.message_laws.proofs.AwaitedOffers.Rising.{after_byes, after_numbers, after_sends, new_ends, new_numbers, new_rise}
use Rattle.message_laws.proofs.numbers.numbers_rise.Goals as goal

pub returns-clause-begins : goal.returns-clause-begins
returns-clause-begins c = new_numbers

pub returns-clause-step : goal.returns-clause-step
returns-clause-step c = after_numbers

pub returns-clause-byes : goal.returns-clause-byes
returns-clause-byes c = after_byes

pub returns-clause-sent : goal.returns-clause-sent
returns-clause-sent c = after_sends

pub returns-clause-rise : goal.returns-clause-rise
returns-clause-rise c = new_rise

pub returns-clause-ends : goal.returns-clause-ends
returns-clause-ends c = new_ends

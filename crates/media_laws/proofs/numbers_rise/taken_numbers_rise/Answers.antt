use Rattle.media_laws.proofs.RisingNumbers.RaisedRows.{after_raised, after_taken, known_taken, new_taken}
use Rattle.media_laws.proofs.numbers_rise.taken_numbers_rise.Goals as goal

pub returns-clause-begins : goal.returns-clause-begins
returns-clause-begins c = new_taken

pub returns-clause-step : goal.returns-clause-step
returns-clause-step c = after_taken

pub returns-clause-rise : goal.returns-clause-rise
returns-clause-rise c = after_raised

pub returns-clause-known : goal.returns-clause-known
returns-clause-known c = known_taken

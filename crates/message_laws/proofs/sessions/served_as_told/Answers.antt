use Rattle.message_laws.proofs.StandingCalls.ToldSessions.{are_held_by_calls, are_led, are_staged, are_told, has_no_other_row, hold_no_others, hold_their_pairs}
use Rattle.message_laws.proofs.StandingCalls.Holders.{held_by_their_calls, holders_stand}
use Rattle.message_laws.proofs.sessions.served_as_told.Goals as goal

pub returns-clause-staged : goal.returns-clause-staged
returns-clause-staged c = are_staged

pub returns-clause-told : goal.returns-clause-told
returns-clause-told c = are_told

pub returns-clause-leads : goal.returns-clause-leads
returns-clause-leads c = are_led

pub returns-clause-had : goal.returns-clause-had
returns-clause-had c = has_no_other_row

pub returns-clause-pairs : goal.returns-clause-pairs
returns-clause-pairs c = hold_their_pairs

pub returns-clause-holders : goal.returns-clause-holders
returns-clause-holders c = are_held_by_calls

pub returns-clause-call : goal.returns-clause-call
returns-clause-call c = held_by_their_calls

pub returns-clause-stand : goal.returns-clause-stand
returns-clause-stand c = holders_stand

pub returns-clause-exact : goal.returns-clause-exact
returns-clause-exact c = hold_no_others

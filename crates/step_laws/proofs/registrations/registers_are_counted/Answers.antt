use Rattle.step_laws.proofs.Counting.{registers_stand}
use Rattle.step_laws.proofs.Deciding.{registrations}
use Rattle.step_laws.proofs.Registers.{lists_bound, refuses, takes_users}
use Rattle.step_laws.proofs.registrations.registers_are_counted.Goals as goal

pub returns-clause-stands : goal.returns-clause-stands
returns-clause-stands c = registers_stand

pub returns-clause-lists : goal.returns-clause-lists
returns-clause-lists c = λ s rules history stands event source r id h. lists_bound s event source r id h rules history stands

pub returns-clause-refused : goal.returns-clause-refused
returns-clause-refused c = λ s rules history stands event source r id h. refuses s event source r id h rules history stands

pub returns-clause-listed : goal.returns-clause-listed
returns-clause-listed c = λ s rules history stands event users h. takes_users s event users h rules history stands

pub returns-clause-exact : goal.returns-clause-exact
returns-clause-exact c = registrations

use Rattle.call_trace.proofs.WorkedMoves.{plain_is_moves, left_is_moves, cancelled_is_moves}
use Rattle.call_trace.proofs.WorkedOffersMoves.{offers_are_moves}
use Rattle.call_trace.proofs.WorkedUpdatesMoves.{updates_are_moves}
use Rattle.call_trace.proofs.WorkedEndsMoves.{refused_is_moves, given_up_is_moves, left_asking_is_moves, late_is_moves, caller_leaves_is_moves}
use Rattle.call_trace.proofs.move_laws.calls_are_moves.Goals as goal

pub returns-clause-plain : goal.returns-clause-plain
returns-clause-plain c = λ s. plain_is_moves s

pub returns-clause-left : goal.returns-clause-left
returns-clause-left c = λ s. left_is_moves s

pub returns-clause-offers : goal.returns-clause-offers
returns-clause-offers c = λ s r. offers_are_moves s r

pub returns-clause-cancelled : goal.returns-clause-cancelled
returns-clause-cancelled c = λ s. cancelled_is_moves s

pub returns-clause-updates : goal.returns-clause-updates
returns-clause-updates c = λ s r. updates_are_moves s r

pub returns-clause-refused : goal.returns-clause-refused
returns-clause-refused c = λ s. refused_is_moves s

pub returns-clause-given_up : goal.returns-clause-given_up
returns-clause-given_up c = λ s. given_up_is_moves s

pub returns-clause-left_asking : goal.returns-clause-left_asking
returns-clause-left_asking c = λ s. left_asking_is_moves s

pub returns-clause-late : goal.returns-clause-late
returns-clause-late c = λ s r. late_is_moves s r

pub returns-clause-caller_leaves : goal.returns-clause-caller_leaves
returns-clause-caller_leaves c = λ s r. caller_leaves_is_moves s r

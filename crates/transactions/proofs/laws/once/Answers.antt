use Rattle.transactions.proofs.OnceLaws.{begins, stands_then}
use Rattle.transactions.proofs.LastingLaws.{left, new_once}
use Rattle.transactions.proofs.laws.once.Goals as goal

pub returns-clause-begins : goal.returns-clause-begins
returns-clause-begins c = λ table request new. begins table request new

pub returns-clause-stands : goal.returns-clause-stands
returns-clause-stands c = λ table request source now new. stands_then table request source now new

pub returns-clause-left : goal.returns-clause-left
returns-clause-left c = λ table call id. left table call id

pub returns-clause-once : goal.returns-clause-once
returns-clause-once c = λ table request source now calls. new_once table request source now calls

use Rattle.std.proofs.Common.{refl, sym, ◌∙◌}
use Rattle.offer_answer.proofs.laws.alike_is_equivalence.Goals as goal

pub returns-clause-reflexive : goal.returns-clause-reflexive
returns-clause-reflexive c = λ d. refl

pub returns-clause-symmetric : goal.returns-clause-symmetric
returns-clause-symmetric c = λ d e h. sym h

pub returns-clause-transitive : goal.returns-clause-transitive
returns-clause-transitive c = λ d e f h k. h ∙ k

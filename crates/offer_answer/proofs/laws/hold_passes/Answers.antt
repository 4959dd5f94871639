use Rattle.offer_answer.proofs.HoldLaws.{hold_offered, hold_answered}
use Rattle.offer_answer.proofs.laws.hold_passes.Goals as goal

pub returns-clause-offer : goal.returns-clause-offer
returns-clause-offer c = hold_offered

pub returns-clause-answer : goal.returns-clause-answer
returns-clause-answer c = hold_answered

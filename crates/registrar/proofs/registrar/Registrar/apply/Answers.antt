use Rattle.registrar.proofs.Standing.{stands_more, answer_bound, answer_stands}
use Rattle.registrar.proofs.registrar.Registrar.apply.Goals as goal

pub returns-clause-stands : goal.returns-clause-stands
returns-clause-stands c = λ counts rules history s. rw (c.take.ensures.table counts) (stands_more c.args.self.now c.args.register.now c.args.now rules history s)

pub returns-clause-bound : goal.returns-clause-bound
returns-clause-bound c = answer_bound c.args.self.now c.args.register.now c.args.now c.take.result c.take.ensures.answer c.take.ensures.last

pub returns-clause-answer : goal.returns-clause-answer
returns-clause-answer c = answer_stands c.args.self.now c.args.register.now c.args.now c.take.result c.take.ensures.answer

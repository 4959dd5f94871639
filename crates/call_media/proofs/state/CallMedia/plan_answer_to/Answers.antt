use Rattle.call_media.proofs.AnswerLaws.{as_many}
use Rattle.call_media.proofs.ServeLaws.{answer_ports, answer_ports_there}
use Rattle.call_media.proofs.state.CallMedia.plan_answer_to.Goals as goal

pub answer_sent-requires-clause-one_each : goal.answer_sent-requires-clause-one_each
answer_sent-requires-clause-one_each c =
    answer_ports_there c.args.self.now c.args.pool.now c.args.offer.now c.args.answer.now c.requires.asked (rw c.get.ensures at c.in_ok-check_answer.ensures.ok)

pub answer_sent-requires-clause-not_zero : goal.answer_sent-requires-clause-not_zero
answer_sent-requires-clause-not_zero c =
    answer_ports c.args.self.now c.args.pool.now c.args.offer.now c.args.answer.now c.requires.asked (rw c.get.ensures at c.in_ok-check_answer.ensures.ok) c.pairs_never_meet.ensures.ports

pub planned_answer-requires-clause-media : goal.planned_answer-requires-clause-media
planned_answer-requires-clause-media c =
    (as_many c.args.self.now.range c.args.offer.now.offer_sent c.args.answer.now (rw c.get.ensures at c.in_ok-check_answer.ensures.ok)).0

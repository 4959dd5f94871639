use Rattle.offer_answer.proofs.SessionLaws.{own_lines, once_lines, lead_lines, held_above, held_even}
use Rattle.offer_answer.proofs.session.plan_session.Goals as goal

pub session_lines-requires : goal.session_lines-requires
session_lines-requires c =
    held_above c.args.pool.now c.args.call c.args.offer_taken.now c.args.answer_sent.now c.args.offer_sent.now c.args.answer_taken.now c.pairs_never_meet.ensures.ports c.requires.holds

pub plan_commit-requires-clause-own : goal.plan_commit-requires-clause-own
plan_commit-requires-clause-own c =
    let pool = c.args.pool.now in
    let call = c.args.call in
    let evens = held_even pool call c.args.offer_taken.now c.args.answer_sent.now c.args.offer_sent.now c.args.answer_taken.now c.pairs_never_meet.ensures.ports c.requires.holds in
    rw (c.deref.ensures.value, c.in_ok-lines.ensures)
    (own_lines pool call c.args.offer_taken.now c.args.answer_sent.now c.args.offer_sent.now c.args.answer_taken.now evens c.requires.holds)

pub plan_commit-requires-clause-once : goal.plan_commit-requires-clause-once
plan_commit-requires-clause-once c =
    let pool = c.args.pool.now in
    let call = c.args.call in
    let evens = held_even pool call c.args.offer_taken.now c.args.answer_sent.now c.args.offer_sent.now c.args.answer_taken.now c.pairs_never_meet.ensures.ports c.requires.holds in
    rw (c.deref.ensures.value, c.in_ok-lines.ensures)
    (once_lines c.args.offer_taken.now c.args.answer_sent.now c.args.offer_sent.now c.args.answer_taken.now evens c.requires.distinct)

pub returns-clause-rows : goal.returns-clause-rows
returns-clause-rows c =
    let stand = rw (c.deref.ensures.value, c.in_ok-lines.ensures) at c.in_ok-changes.ensures.lines in
    lead_lines _ c.args.offer_taken.now c.args.answer_sent.now c.args.offer_sent.now c.args.answer_taken.now stand

pub returns-clause-ports : goal.returns-clause-ports
returns-clause-ports c = rw (c.deref.ensures.value, c.in_ok-lines.ensures) at c.in_ok-changes.ensures.rows

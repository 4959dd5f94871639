use Rattle.std.proofs.Common.{ap, sym}
use Rattle.call_media.proofs.SessionLaws.{bare_with_rows, serves_with_session, spares_with_session}
use Rattle.call_media.proofs.state.CallMedia.put_answer.Goals as goal

pub put_answer_to-requires-clause-held : goal.put_answer_to-requires-clause-held
put_answer_to-requires-clause-held c = (c.requires.ready c.in-Some.offer (sym c.in-Some.ensures.value)).rows.held

pub put_answer_to-requires-clause-bare : goal.put_answer_to-requires-clause-bare
put_answer_to-requires-clause-bare c =
    bare_with_rows c.rows_of_session_stand.ensures.own c.args.self.now c.args.pool.now c.in-Some.offer c.args.planned
    (c.requires.ready c.in-Some.offer (sym c.in-Some.ensures.value))

pub returns-clause-leads : goal.returns-clause-leads
returns-clause-leads c =
    rw (c.put_answer_to.ensures.changes, c.put_answer_to.ensures.pool) (c.requires.ready c.in-Some.offer (sym c.in-Some.ensures.value)).rows.leads

pub returns-clause-serves : goal.returns-clause-serves
returns-clause-serves c =
    let is = sym c.in-Some.ensures.value in
    rw c.put_answer_to.ensures.media
    (serves_with_session c.rows_of_session_stand.ensures.own c.args.self.now c.args.pool.now c.put_answer_to.new.pool c.in-Some.offer c.args.planned c.requires.serves is
    (c.requires.ready c.in-Some.offer is) c.put_answer_to.ensures.holder (ap (λ p. p.rows) c.put_answer_to.ensures.pool))

pub returns-clause-spares : goal.returns-clause-spares
returns-clause-spares c =
    spares_with_session c.args.self.now c.args.pool.now c.put_answer_to.new.pool c.in-Some.offer c.args.planned
    (c.requires.ready c.in-Some.offer (sym c.in-Some.ensures.value)) c.put_answer_to.ensures.holder (ap (λ p. p.rows) c.put_answer_to.ensures.pool)

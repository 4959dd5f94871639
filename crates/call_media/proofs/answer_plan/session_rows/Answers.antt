use Rattle.offer_answer.specs.Rows.{pairs_named}
use Rattle.call_media.proofs.AnswerLaws.{all_held, fits_as_kept}
use Rattle.call_media.proofs.answer_plan.session_rows.Goals as goal

pub plan_session-requires-clause-holds : goal.plan_session-requires-clause-holds
plan_session-requires-clause-holds c =
    let o = c.args.offer.now in
    rw (c.get.ensures, c.get-2.ensures) (all_held c.args.pool.now c.args.number (pairs_named o.offer_taken c.args.sent.now o.offer_sent c.args.answer.now) c.requires.held)

pub returns : goal.returns
returns c =
    fits_as_kept c.args.number c.args.pool.now c.args.offer.now c.args.sent.now c.args.answer.now _ c.get.result.now c.get-2.result.now c.get.ensures c.get-2.ensures
    (record {
      pairs = rw (c.get.ensures, c.get-2.ensures) c.in_ok-pairs.ensures;
      changes = c.in_ok-changes.ensures.changes;
      held = c.in_ok-changes.ensures.held;
      leads = c.in_ok-changes.ensures.leads;
      rows = c.in_ok-changes.ensures.rows;
      ports = c.in_ok-changes.ensures.ports;
    })

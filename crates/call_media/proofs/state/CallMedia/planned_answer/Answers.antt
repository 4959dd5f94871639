use Rattle.call_media.proofs.ServeLaws.{Sent, differ_named, holds_named}
use Rattle.call_media.proofs.state.CallMedia.planned_answer.Goals as goal

pub session_rows-requires-clause-held : goal.session_rows-requires-clause-held
session_rows-requires-clause-held c =
    holds_named c.args.self.now c.args.pool.now c.args.offer.now c.args.sent c.args.answer.now c.requires.asked
    (record { alike = c.requires.alike; at_server = c.requires.at_server; told = c.requires.told })

pub session_rows-requires-clause-distinct : goal.session_rows-requires-clause-distinct
session_rows-requires-clause-distinct c =
    differ_named c.args.self.now c.args.pool.now c.args.offer.now c.args.sent c.args.answer.now c.requires.asked
    (record { alike = c.requires.alike; at_server = c.requires.at_server; told = c.requires.told })

pub returns-clause-ready : goal.returns-clause-ready
returns-clause-ready c =
    let m = c.args.self.now in
    let pool = c.args.pool.now in
    let o = c.args.offer.now in
    let sends : Sent m.range.ip o c.args.sent c.args.answer.now = record { alike = c.requires.alike; at_server = c.requires.at_server; told = c.requires.told } in
    rw c.in_ok-planned.ensures
    (record {
      sent = c.requires.exact;
      media = c.requires.media;
      alike = c.requires.alike;
      at_server = c.requires.at_server;
      held = holds_named m pool o c.args.sent c.args.answer.now c.requires.asked sends;
      distinct = differ_named m pool o c.args.sent c.args.answer.now c.requires.asked sends;
      rows = c.in_ok-rows.ensures;
    })

use Rattle.std.proofs.Common.{rules}
use Rattle.server.proofs.InputLaws.{answered_all}
use Rattle.server.proofs.ReplayLaws.{unread_leaves}
use Rattle.server.proofs.single.once.Goals as goal

pub returns-clause-written : goal.returns-clause-written
returns-clause-written g c =
    answered_all c.write_out.result (g.R.Read.remaining c.args.reader.now) (g.R.Read.remaining c.read_datagram.new.reader) (g.W.Write.contents c.args.writer.now) (g.W.Write.contents c.write_out.new.writer)
    c.in_ok-datagram.datagram.items c.in_ok-sent.sent.items c.as_slice.result.now c.in_ok-datagram.ensures.read c.in_ok-sent.ensures.sent (search rules) c.write_out.ensures.written

pub returns-in_err-datagram-clause-refused : goal.returns-in_err-datagram-clause-refused
returns-in_err-datagram-clause-refused g c = unread_leaves c.from_residual.result (g.W.Write.contents c.args.writer.now) c.in_err-datagram.field-0.0 (search rules) c.in_err-datagram.ensures.fault

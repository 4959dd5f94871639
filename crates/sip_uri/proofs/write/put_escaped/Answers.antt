use Rattle.sip_uri.proofs.BeginLaws.{on_err, begins_on}
use Rattle.sip_uri.proofs.write.put_escaped.Goals as goal

pub returns-in_err-put_user_byte-clause-err : goal.returns-in_err-put_user_byte-clause-err
returns-in_err-put_user_byte-clause-err c =
    on_err c.from_residual.result _
    (begins_on c.args.out.now.items c.loop-b.out.items c.put_user_byte.new.out.items c.loop-b.invariant.1 c.in_err-put_user_byte.ensures.err)

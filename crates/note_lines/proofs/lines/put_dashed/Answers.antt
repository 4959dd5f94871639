use Rattle.note_lines.proofs.BeginLaws.{on_err, begins_on}
use Rattle.note_lines.proofs.lines.put_dashed.Goals as goal

pub returns-in_err-put_byte-clause-err : goal.returns-in_err-put_byte-clause-err
returns-in_err-put_byte-clause-err c =
    on_err c.from_residual.result _
    (begins_on c.args.out.now.items c.loop-byte.out.items c.put_byte.new.out.items c.loop-byte.invariant.1 c.in_err-put_byte.ensures.err)

use Rattle.trace_reading.proofs.ReadLaws.{given, refused}
use Rattle.trace_reading.proofs.read.read.Goals as goal

pub returns-in-Ok : goal.returns-in-Ok
returns-in-Ok c = given c.args.bytes.now c.in-Ok.message c.shown_last.result c.in-Ok.ensures.exact c.shown_last.ensures

pub returns-in-Err : goal.returns-in-Err
returns-in-Err c = refused c.args.bytes.now c.in-Err.fault c.in-Err.ensures.exact

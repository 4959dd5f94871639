use Rattle.trace_reading.proofs.ReadLaws.{found_at, only_at, refused_at}
use Rattle.trace_reading.proofs.read.read_trace_message.Goals as goal

pub returns-clause-found : goal.returns-clause-found
returns-clause-found c = found_at c.args.bytes.now c.read.result c.read.ensures

pub returns-clause-only : goal.returns-clause-only
returns-clause-only c = λ m reads within. only_at c.args.bytes.now c.read.result m reads c.read.ensures within

pub returns-clause-refused : goal.returns-clause-refused
returns-clause-refused c = refused_at c.args.bytes.now c.read.result c.read.ensures

pub returns-clause-exact : goal.returns-clause-exact
returns-clause-exact c = c.read.ensures

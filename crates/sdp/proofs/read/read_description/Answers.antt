use Rattle.sdp.proofs.GrammarLaws.{found_at, refused_at, read_at}
use Rattle.sdp.proofs.read.read_description.Goals as goal

pub returns-clause-found : goal.returns-clause-found
returns-clause-found c = found_at c.args.bytes.now c.read.result c.read.ensures

pub returns-clause-only : goal.returns-clause-only
returns-clause-only c = λ d h. read_at c.args.bytes.now c.read.result d c.read.ensures h

pub returns-clause-refused : goal.returns-clause-refused
returns-clause-refused c = refused_at c.args.bytes.now c.read.result c.read.ensures

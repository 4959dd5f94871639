use Rattle.header_fields.proofs.HeadLaws.{found_at, only_at, refused_at}
use Rattle.header_fields.proofs.head.read_head.Goals as goal

pub returns-clause-found : goal.returns-clause-found
returns-clause-found c = found_at c.args.limit c.args.text.now c.read_fields.result c.read_fields.ensures.exact

pub returns-clause-only : goal.returns-clause-only
returns-clause-only c = λ headers body reads few. only_at c.args.limit c.args.text.now c.read_fields.result headers body reads c.read_fields.ensures.exact few

pub returns-clause-refused : goal.returns-clause-refused
returns-clause-refused c = refused_at c.args.limit c.args.text.now c.read_fields.result c.read_fields.ensures.exact

use Rattle.sip_uri.proofs.NameLaws.{name_found_at, name_refused_at, name_read_at}
use Rattle.sip_uri.proofs.name_addr.read_name_addr.Goals as goal

pub returns-clause-found : goal.returns-clause-found
returns-clause-found c = name_found_at c.args.bytes.now c.read.result c.read.ensures

pub returns-clause-only : goal.returns-clause-only
returns-clause-only c = λ name h. name_read_at c.args.bytes.now c.read.result name c.read.ensures h

pub returns-clause-refused : goal.returns-clause-refused
returns-clause-refused c = name_refused_at c.args.bytes.now c.read.result c.read.ensures

use Rattle.configuration.proofs.ReadingLaws.{kept_at, only_at}
use Rattle.configuration.proofs.WrittenLaws.{written_at}
use Rattle.configuration.proofs.read.read_config.Goals as goal

pub returns-clause-kept : goal.returns-clause-kept
returns-clause-kept c = kept_at c.args.bytes.now c.read.result c.read.ensures.found

pub returns-clause-only : goal.returns-clause-only
returns-clause-only c = only_at c.args.bytes.now c.read.result c.read.ensures.found c.read.ensures.refused

pub returns-clause-written : goal.returns-clause-written
returns-clause-written c = written_at c.args.bytes.now c.read.result c.read.ensures.found

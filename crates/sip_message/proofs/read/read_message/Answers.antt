use Rattle.sip_message.proofs.MessageLaws.{found_at, only_at, refused_at}
use Rattle.sip_message.proofs.PlaceLaws.{placed_at}
use Rattle.sip_message.proofs.RepeatableLaws.{repeatable_at}
use Rattle.sip_message.proofs.read.read_message.Goals as goal

pub returns-clause-found : goal.returns-clause-found
returns-clause-found c = found_at c.args.bytes.now c.read.result c.read.ensures

pub returns-clause-only : goal.returns-clause-only
returns-clause-only c = λ m reads within. only_at c.args.bytes.now c.read.result m reads c.read.ensures within

pub returns-clause-refused : goal.returns-clause-refused
returns-clause-refused c = refused_at c.args.bytes.now c.read.result c.read.ensures

pub returns-clause-repeatable : goal.returns-clause-repeatable
returns-clause-repeatable c = repeatable_at c.args.bytes.now c.read.result (found_at c.args.bytes.now c.read.result c.read.ensures)

pub returns-clause-placed : goal.returns-clause-placed
returns-clause-placed c = placed_at c.args.bytes.now c.read.result (found_at c.args.bytes.now c.read.result c.read.ensures)

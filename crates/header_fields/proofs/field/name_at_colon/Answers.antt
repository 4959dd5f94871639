use Rattle.std.proofs.Common.{arith, rules}
use Rattle.header_fields.proofs.NameLaws.{name_there}
use Rattle.header_fields.proofs.field.name_at_colon.Goals as goal

pub returns : goal.returns
returns c = name_there c.args.line.now c.in_ok-at.at (search rules) (omega arith) (search rules)

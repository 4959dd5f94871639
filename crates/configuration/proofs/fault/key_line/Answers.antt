use Rattle.configuration.proofs.LineLaws.{told_line}
use Rattle.configuration.proofs.fault.key_line.Goals as goal

pub returns-in-Some : goal.returns-in-Some
returns-in-Some c =
    rw c.in-Some.is (told_line c.args.bytes.now c.in-Some.key.now c.line_of.result c.requires c.line_of.ensures.told c.line_of.ensures.long)

use Rattle.call_core.specs.Table.{row_of}
use Rattle.call_core.proofs.NoteLaws.{begins_as_noted, line_is_noted}
use Rattle.call_core.proofs.laws.lines_have_notes.Goals as goal

pub returns-clause-begun : goal.returns-clause-begun
returns-clause-begun c = begins_as_noted

pub returns-clause-line : goal.returns-clause-line
unfolding row_of
returns-clause-line c = λ standing signal row. line_is_noted standing.stage standing.offerer signal row

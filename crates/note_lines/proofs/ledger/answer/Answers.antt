use Rattle.std.proofs.Common.{◌<◌, length, arith}
use Rattle.std.proofs.lemmas.List.Edits.{map_over_more}
use Rattle.note_lines.specs.Ledger.{answer_entry}
use Rattle.note_lines.proofs.ledger.answer.Goals as goal

pub loop-entry-preserved : goal.loop-entry-preserved
loop-entry-preserved c =
    let within : c.loop-entry.entry-index < length c.args.entries.now = omega arith in
    rw (c.answer.ensures, ← c.entry-item.is) (map_over_more (answer_entry c.args.number c.args.now) c.args.entries.now c.loop-entry.entries c.loop-entry.entry-index c.entry-item.result within c.loop-entry.invariant c.entry-item.is)

use Rattle.note_lines.proofs.call_notes.put_entry_note.Goals as goal

pub returns-in-Unacknowledged-clause-ok : goal.returns-in-Unacknowledged-clause-ok
returns-in-Unacknowledged-clause-ok c = rw c.in-Unacknowledged.is c.put_over.ensures.ok

pub returns-in-Expired-clause-ok : goal.returns-in-Expired-clause-ok
returns-in-Expired-clause-ok c = rw c.in-Expired.is c.put_over-in-Expired.ensures.ok

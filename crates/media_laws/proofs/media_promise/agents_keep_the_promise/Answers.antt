use Rattle.std.proofs.Common.{[], length}
use Rattle.event_rows.specs.Trace.{after_entries}
use Rattle.media_laws.proofs.WholePromise.Keeping.{counted_from}
use Rattle.media_laws.proofs.media_promise.agents_keep_the_promise.Goals as goal

pub returns-clause-promised : goal.returns-clause-promised
returns-clause-promised c = λ config s entries t is new are from trace.
    let law = c.agents_stand.ensures in
    law.promised (after_entries s entries) t (length entries) (counted_from (after_entries s entries) t (length entries) (law.entries s entries [] t 0 (law.begins config s is new) are from trace))

pub returns-clause-lives : goal.returns-clause-lives
returns-clause-lives c = λ config s entries t is new are from trace.
    let law = c.agents_stand.ensures in
    law.lives (after_entries s entries) t (length entries) (counted_from (after_entries s entries) t (length entries) (law.entries s entries [] t 0 (law.begins config s is new) are from trace))

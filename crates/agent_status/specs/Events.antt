-- How many events of a kind there were, by the kinds of the line of counts.
use Rattle.std.specs.Prelude.{ℕ, List, [], ◌∷◌, codes}
use Rattle.event_rows.specs.declared.tally.Tally.{Tally}
use Rattle.status.specs.declared.status.EventCount.{EventCount}

-- the kind of a count, and the count
abbrev pub shown_count : EventCount → List ℕ × ℕ
shown_count c = (c.kind.now, c.count)

abbrev pub event_counts : Tally → List (List ℕ × ℕ)
event_counts t =
    (codes "done", t.done) ∷ (codes "unread", t.unread) ∷ (codes "stray", t.stray) ∷ (codes "ack", t.ack)
    ∷ (codes "no_branch", t.no_branch) ∷ (codes "clock", t.clock) ∷ (codes "spent", t.spent) ∷ (codes "shed", t.shed)
    ∷ (codes "idle", t.idle) ∷ []

-- How many events were answered how.
use Rattle.std.specs.Prelude.{ℕ, ◌+◌, min}
use Rattle.plans.specs.declared.taken.Taken.{Taken}
use Rattle.plans.specs.declared.taken.Taken.TheVariants.{Done, Dropped, Shed, Idle}
use Rattle.plans.specs.declared.taken.Why.TheVariants.{Unread, Stray, Ack, NoBranch, Clock, Spent}
use Rattle.event_rows.specs.declared.tally.Tally.{Tally}

-- a count at the greatest number stays there
abbrev pub one_more : ℕ → ℕ
one_more count = min 18446744073709551615 (count + 1)

abbrev pub none_counted : Tally
none_counted = record { done = 0; unread = 0; stray = 0; ack = 0; no_branch = 0; clock = 0; spent = 0; shed = 0; idle = 0 }

-- one event more that was answered so
abbrev pub counted : Tally → Taken → Tally
counted t Done = record t { done = one_more t.done }
counted t (Dropped (Unread fault)) = record t { unread = one_more t.unread }
counted t (Dropped Stray) = record t { stray = one_more t.stray }
counted t (Dropped Ack) = record t { ack = one_more t.ack }
counted t (Dropped NoBranch) = record t { no_branch = one_more t.no_branch }
counted t (Dropped Clock) = record t { clock = one_more t.clock }
counted t (Dropped Spent) = record t { spent = one_more t.spent }
counted t Shed = record t { shed = one_more t.shed }
counted t Idle = record t { idle = one_more t.idle }

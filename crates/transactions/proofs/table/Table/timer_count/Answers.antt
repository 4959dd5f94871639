use Rattle.std.proofs.Common.{rules}
use Rattle.transactions.specs.Timing.{same_timer}
use Rattle.transactions.proofs.KeyLaws.{once_agree}
use Rattle.transactions.proofs.table.Table.timer_count.Goals as goal

pub returns-clause-once : goal.returns-clause-once
returns-clause-once c = rw (← c.self.view_is) (once_agree _ same_timer (λ a b. search rules) c.self.inside.timers.timers c.len.ensures.once)

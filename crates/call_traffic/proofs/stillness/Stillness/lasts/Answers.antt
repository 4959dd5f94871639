use Rattle.std.proofs.Common.{arith}
use Rattle.std.proofs.lemmas.Bool.{leb-true, le-leb}
use Rattle.call_traffic.proofs.Standing.{stood, told}
use Rattle.call_traffic.proofs.stillness.Stillness.lasts.Goals as goal

pub returns-clause-still : goal.returns-clause-still
returns-clause-still c = λ looks since is_true.
    let old = c.args.self.now in
    stood old.count old.since c.args.now c.args.limit looks since (omega (arith, leb-true c.args.limit c.saturating_sub.result is_true, c.saturating_sub.ensures))

pub returns-clause-told : goal.returns-clause-told
returns-clause-told c = λ looks since rise still.
    let old = c.args.self.now in
    let long = told old.count old.since c.args.now c.args.limit looks since rise still in
    le-leb c.args.limit c.saturating_sub.result (omega (arith, long, c.saturating_sub.ensures))

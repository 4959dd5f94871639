use Rattle.std.proofs.Common.{◌≡◌, Some, sym, subst}
use Rattle.call_traffic.specs.Looks.{after_look}
use Rattle.call_traffic.specs.Stillness.{since_when}
use Rattle.call_traffic.proofs.Further.{goes_on, begins}
use Rattle.call_traffic.proofs.stillness.Stillness.look.Goals as goal

pub returns-then-count-self : goal.returns-then-count-self
returns-then-count-self c = λ looks since. begins c.args.count c.args.self.now.count c.args.self.now.since c.args.now looks (λ e. c.if-count-self.true (sym e)) since

pub returns-else-count-self : goal.returns-else-count-self
returns-else-count-self c = λ looks since.
    let old = c.args.self.now in
    subst (λ count. since_when old.count (after_look looks c.args.now count) ≡ Some old.since) (sym c.if-count-self.false) (goes_on old.count old.since c.args.now looks since)

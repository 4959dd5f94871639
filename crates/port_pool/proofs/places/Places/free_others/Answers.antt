use Rattle.std.proofs.Common.{◌≡◌, ◌∙◌, refl, sym, ap, arith}
use Rattle.port_pool.specs.Places.{kept_from}
use Rattle.port_pool.proofs.CallLaws.{entries_many, kept_past, none_freed}
use Rattle.port_pool.proofs.places.Places.free_others.Goals as goal

pub loop-left-init : goal.loop-left-init
loop-left-init c =
    let many = entries_many c.args.self.now c.args.call c.of_call-left.result.now c.of_call-left.ensures in
    (refl, omega (arith, many), rw many (kept_past c.args.call c.args.kept.now c.args.self.now 0))

pub returns : goal.returns
returns c =
    let none : c.loop-left.left ≡ 0 = omega (arith, c.loop-left-test.false) in
    sym (none_freed c.args.call c.args.kept.now c.args.now c.loop-left.self (ap (λ m. kept_from c.args.call c.args.kept.now m c.loop-left.self) (sym none) ∙ c.loop-left.invariant.2))
    ∙ c.loop-left.invariant.0

use Rattle.std.proofs.Common.{◌≡◌, ◌∙◌, ◌-◌, ◌<◌, length, ap, arith}
use Prim.Native.Nat.{suc}
use Rattle.index.specs.PrintKeys.{print_of}
use Rattle.registrar.proofs.PlaceLaws.{places_more}
use Rattle.registrar.proofs.entries.index_of.Goals as goal

pub loop-left-preserved : goal.loop-left-preserved
loop-left-preserved c =
    let i = c.loop-left.left - 1 in
    let next : c.loop-left.left ≡ suc i = omega (arith, c.loop-left-test.true) in
    let less : i < length c.args.users.now = omega (arith, c.loop-left.invariant.within, c.loop-left-test.true) in
    let print = c.print_of.ensures ∙ ap (print_of c.args.key) c.as_bytes.ensures in
    record {
      within = omega (arith, less);
      room = omega (arith, c.put.ensures.room, c.loop-left.invariant.room, next);
      indexed = places_more c.args.key c.args.users.now c.loop-left.left i c.print_of.result c.index-users-left.result c.loop-left.names.entries c.put.new.self.entries next less print c.loop-left.invariant.indexed c.put.ensures.numbers;
    }

use Rattle.std.proofs.Common.{◌<◌, ◌+◌, ◌-◌, [], ◌∷◌, append_assoc, arith}
use Rattle.configuration.specs.Ranges.{numeral, numerals}
use Rattle.configuration.proofs.NumeralLaws.{next_numeral}
use Rattle.configuration.proofs.ranges.put_range.Goals as goal

pub loop-number-preserved : goal.loop-number-preserved
loop-number-preserved c =
    let digits = c.args.range.digits in
    let n = c.loop-number.number in
    let last = c.args.range.last in
    let less : n < last + 1 = omega (arith, c.loop-number-test.true, c.from-number-end.ensures) in
    let next = next_numeral digits n last less in
    let whole = append_assoc c.loop-number.names.items (numeral digits n ∷ []) (numerals digits (n + 1) (last + 1 - (n + 1))) in
    cc (next, whole, c.loop-number.invariant, c.in_ok-numeral.ensures, c.in_ok-push.ensures.items)

use Rattle.std.proofs.Common.{◌+◌, ◌-◌, ◌/◌, ◌%◌, [], ◌∷◌, append_assoc}
use Rattle.configuration.specs.Ranges.{numeral}
use Rattle.configuration.proofs.NumeralLaws.{numeral_more}
use Rattle.configuration.proofs.ranges.+put_numeral.Goals as goal

pub returns : goal.returns
returns n c =
    let digits = c.args.digits in
    let number = c.args.number in
    let more = numeral_more digits number c.if-digits-eq0.false in
    let whole = append_assoc c.args.out.now.items (numeral (digits - 1) (number / 10)) ((48 + number % 10) ∷ []) in
    cc (more, whole, c.in_ok-put_numeral.ensures, c.in_ok-push.ensures.items)

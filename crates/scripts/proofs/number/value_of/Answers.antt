use Rattle.std.proofs.Common.{arith, ◌+◌, sym, ◌∙◌}
use Rattle.std.specs.Char.{is_ascii_digit}
use Rattle.std.proofs.lemmas.List.Folds.{list_all_more}
use Rattle.std.proofs.lemmas.Bool.{and_from}
use Rattle.text.proofs.Numbers.{number_more, too_large}
use Rattle.scripts.specs.Limits.{max_number}
use Rattle.scripts.proofs.number.value_of.Goals as goal

pub loop-digit-preserved : goal.loop-digit-preserved
loop-digit-preserved c =
    let ds = c.args.digits.now in
    let i = c.loop-digit.digit-index in
    let digit = sym c.if-not-is_ascii_digit.ensures.value in
    let more = number_more ds i c.loop-digit-test.true digit in
    record {
      digits = list_all_more is_ascii_digit ds i 0 c.loop-digit-test.true ∙ and_from _ _ c.loop-digit.invariant.digits digit;
      read = omega (arith, more, c.from-value.ensures, c.loop-digit.invariant.read);
    }

pub returns-then-number-value : goal.returns-then-number-value
returns-then-number-value c =
    let digit = sym c.if-not-is_ascii_digit.ensures.value in
    let more = number_more c.args.digits.now c.loop-digit.digit-index c.loop-digit-test.true digit in
    too_large max_number (c.loop-digit.digit-index + 1) c.args.digits.now (omega (arith, more, c.from-value.ensures, c.loop-digit.invariant.read, c.if-number-value.true))

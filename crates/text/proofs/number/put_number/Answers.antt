use Rattle.std.proofs.Common.{rules}
use Rattle.itoa.proofs.Decimal.{decimal_two}
use Rattle.std.proofs.lemmas.Fmt.{decimal_digit}
use Rattle.text.proofs.number.put_number.Goals as goal

pub returns-then-number-lt10-clause-ok : goal.returns-then-number-lt10-clause-ok
returns-then-number-lt10-clause-ok c = rw (decimal_digit c.args.number (search rules)) c.in_ok-push.ensures.items

pub returns-then-number-lt100-clause-ok : goal.returns-then-number-lt100-clause-ok
returns-then-number-lt100-clause-ok c = rw (decimal_two c.args.number (search rules) (search rules)) c.in_ok-extend_from_slice.ensures.items

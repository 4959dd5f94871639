use Rattle.std.proofs.Common.{arith, rules}
use Rattle.sip_uri.proofs.PlainParam.{plain_there}
use Rattle.sip_uri.proofs.field_params.plain_param.Goals as goal

pub returns : goal.returns
returns c = rw (c.lent.ensures, c.lent-2.ensures) (plain_there c.args.text.now c.in_ok-at.at (search rules) (omega arith) (search rules) (search rules))

-- The table is compared with the definition at each of the 256 bytes, by computing.
use Rattle.std.proofs.Common.{refl, arith}
use Rattle.text.proofs.ByteTables.{by_table}
use Rattle.sip_uri.specs.declared.class.TheConstants.{PLAIN_USER_BYTES}
use Rattle.sip_uri.specs.Classes.{is_plain_user}
use Rattle.sip_uri.proofs.class.is_plain_user.Goals as goal

pub returns : goal.returns
returns c = rw c.from.ensures (by_table PLAIN_USER_BYTES is_plain_user c.args.b (omega arith) refl)

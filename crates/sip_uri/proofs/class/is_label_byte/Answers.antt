-- The table is compared with the definition at each of the 256 bytes, by computing.
use Rattle.std.proofs.Common.{refl, arith}
use Rattle.text.proofs.ByteTables.{by_table}
use Rattle.sip_uri.specs.declared.class.TheConstants.{LABEL_BYTES}
use Rattle.sip_uri.specs.Classes.{is_label_byte}
use Rattle.sip_uri.proofs.class.is_label_byte.Goals as goal

pub returns : goal.returns
returns c = rw c.from.ensures (by_table LABEL_BYTES is_label_byte c.args.b (omega arith) refl)

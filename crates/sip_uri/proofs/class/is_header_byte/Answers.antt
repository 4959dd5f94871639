-- The table is compared with the definition at each of the 256 bytes, by computing.
use Rattle.std.proofs.Common.{refl, arith}
use Rattle.text.proofs.ByteTables.{by_table}
use Rattle.sip_uri.specs.declared.class.TheConstants.{HEADER_BYTES}
use Rattle.sip_uri.specs.Classes.{is_header_byte}
use Rattle.sip_uri.proofs.class.is_header_byte.Goals as goal

pub returns : goal.returns
returns c = rw c.from.ensures (by_table HEADER_BYTES is_header_byte c.args.b (omega arith) refl)

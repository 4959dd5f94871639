-- The table is compared with the definition at each of the 256 bytes, by computing.
use Rattle.std.proofs.Common.{refl, arith}
use Rattle.text.specs.declared.class.TheConstants.{TOKEN_BYTES}
use Rattle.text.specs.Class.{is_token_byte}
use Rattle.text.proofs.ByteTables.{by_table}
use Rattle.text.proofs.class.is_token_byte.Goals as goal

pub returns : goal.returns
returns c = rw c.from.ensures (by_table TOKEN_BYTES is_token_byte c.args.b (omega arith) refl)

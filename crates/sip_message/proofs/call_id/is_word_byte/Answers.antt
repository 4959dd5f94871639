-- The table is compared with the definition at each of the 256 bytes, by computing.
use Rattle.std.proofs.Common.{refl, arith}
use Rattle.text.proofs.ByteTables.{by_table}
use Rattle.sip_message.specs.declared.call_id.TheConstants.{WORD_BYTES}
use Rattle.sip_message.specs.CallId.{is_word_byte}
use Rattle.sip_message.proofs.call_id.is_word_byte.Goals as goal

pub returns : goal.returns
returns c = rw c.from.ensures (by_table WORD_BYTES is_word_byte c.args.b (omega arith) refl)

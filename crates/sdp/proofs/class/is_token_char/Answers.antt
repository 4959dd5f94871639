-- The table is compared with the definition at each of the 256 bytes, by computing.
use Rattle.std.proofs.Common.{refl, arith, not, nat_eq, get_or}
use Rattle.std.proofs.lemmas.Bool.{agree_below_at}
use Rattle.sdp.specs.declared.class.TheConstants.{TOKEN_CHARS}
use Rattle.sdp.specs.Classes.{is_token_char}
use Rattle.sdp.proofs.class.is_token_char.Goals as goal

pub returns : goal.returns
returns c = rw c.from.ensures (agree_below_at (λ k. not (nat_eq (get_or TOKEN_CHARS k 0) 64)) is_token_char 256 c.args.b refl (omega arith))

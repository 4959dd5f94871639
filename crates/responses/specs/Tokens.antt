-- Tokens: texts that no other call, dialog or transaction has (the server's own).
use Rattle.std.specs.Prelude.{ℕ, List, ◌++◌, codes, decimal}
use Rattle.std.specs.Int.{w64, to_be_bytes}
use Rattle.hex.specs.Hex.{encode_lower}

-- sixteen hexadecimal digits of the salt, and which of the agent's tokens it is
unfoldable pub token : ℕ → ℕ → List ℕ
token salt count = encode_lower (to_be_bytes w64 salt) ++ codes "." ++ decimal count

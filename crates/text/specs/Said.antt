-- What a text says: its bytes, wherever they are.
use Rattle.std.specs.Prelude.{ℕ, List}
use Rattle.text.specs.declared.text.Form.{Form}
use Rattle.text.specs.declared.text.Form.TheVariants.{Lent, Own, Short}

abbrev pub said : Form → List ℕ
said (Lent bytes) = bytes.now
said (Own bytes) = bytes.items
said (Short bytes) = bytes

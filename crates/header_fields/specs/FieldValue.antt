-- What the value of a header field says, wherever it is.
use Rattle.std.specs.Prelude.{ℕ, List}
use Rattle.header_fields.specs.Folded.{unfolded_text}
use Rattle.header_fields.specs.declared.field_value.Form.{Form}
use Rattle.header_fields.specs.declared.field_value.Form.TheVariants.{Whole, Folded}

abbrev pub said : Form → List ℕ
said (Whole text) = text
said (Folded raw) = unfolded_text raw.now

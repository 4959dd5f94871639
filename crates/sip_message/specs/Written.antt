-- Header fields as reading leaves them and as they are written (RFC 3261 section 7.3.1).
use Rattle.std.specs.Prelude.{Bool, ◌&&◌, nat_eq, IsTrue}
use Rattle.std.specs.Cmp.Lexicographic.{pointwise}
use Rattle.text.specs.Class.{is_token_byte, is_run_of}
use Rattle.text.specs.Trim.{trimmed}
use Rattle.header_fields.specs.Lines.{is_clean}
use Rattle.sip_message.specs.HeaderNames.{long_name}
use Rattle.header_fields.specs.declared.headers.Header.{Header}

-- the name is a token that is long, and the value is clean and has no blanks at its ends
unfoldable pub is_written : Header → Bool
is_written h = is_run_of is_token_byte h.name && pointwise nat_eq (long_name h.name) h.name && is_clean h.value && pointwise nat_eq (trimmed h.value) h.value

abbrev pub IsWritten : Header → Type 0
IsWritten h = IsTrue (is_written h)

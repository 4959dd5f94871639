use Rattle.std.proofs.Common.{◌≡◌, ◌++◌, drop}
use Rattle.sdp.specs.Writing.{formats_text}
use Rattle.sdp.proofs.write.put_formats.Given as goal

-- what is written and what is left to write are all
abbrev pub invariant-loop-format : goal.invariant-loop-format
invariant-loop-format l = l.out.items ++ formats_text (drop l.format-index l.formats) ≡ l.fn.out.items ++ formats_text l.formats

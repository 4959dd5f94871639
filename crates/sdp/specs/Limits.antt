-- The limits of descriptions that are read.
use Rattle.std.specs.Prelude.{ℕ}

-- media in a description
abbrev pub max_media : ℕ
max_media = 8

-- formats in a medium
abbrev pub max_formats : ℕ
max_formats = 32

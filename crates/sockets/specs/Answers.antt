-- What an error of the system means.
use Rattle.std.specs.Prelude.{◌≡◌, ◌⊎◌}
use Rattle.std.specs.declared.io.ErrorKind.{ErrorKind}
use Rattle.std.specs.declared.io.ErrorKind.TheVariants.{Interrupted, WouldBlock}

-- nothing is there to be received now. Every other error is a failure
abbrev pub IsOfNothing : ErrorKind → Type 0
IsOfNothing kind = (kind ≡ WouldBlock) ⊎ (kind ≡ Interrupted)

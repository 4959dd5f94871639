-- What looks at a file say.
use Rattle.std.specs.Prelude.{◌≡◌, ◌≢◌, Option, Some}
use Rattle.live_users.specs.declared.found.Found.{Found}
use Rattle.live_users.specs.declared.found.Found.TheVariants.{File, NoFile}
use Rattle.live_users.specs.declared.file_watch.Look.{Look}
use Rattle.live_users.specs.declared.file_watch.Look.TheVariants.{Same, Changed, Gone}

abbrev pub IsFile : Found → Type 0
IsFile (File seconds nanos size) = Unit {0}
IsFile NoFile = ⊥

-- What a look says that found this, if the one before it, if any, had found that: a file is the same exactly if its
-- time of change and its size are.
abbrev pub Says : Option Found → Found → Look → Type 0
Says before found Same = before ≡ Some found
Says before found Changed = (before ≢ Some found) × IsFile found
Says before found Gone = (before ≢ Some found) × (found ≡ NoFile)

-- a look found something, which is remembered then, and said so
pub record Looks (before after : Option Found) (look : Look) : Type 0 where
  pub found : Found
  pub remembered : after ≡ Some found
  pub says : Says before found look

-- Why a table is refused.
use Rattle.std.specs.Prelude.{◌≡◌, Some}
use Rattle.toml.specs.Data.{Members}
use Rattle.configuration.specs.Flaws.{flaw_in}
use Rattle.configuration.specs.declared.judge.Refusal.{Refusal}
use Rattle.configuration.specs.declared.judge.Refusal.TheVariants.{OutOfMemory, Flawed}

-- memory ran out, or this is the table's first flaw
abbrev pub IsRefusal : Members → Refusal → Type 0
IsRefusal ms OutOfMemory = Unit {0}
IsRefusal ms (Flawed flaw) = flaw_in ms ≡ Some flaw

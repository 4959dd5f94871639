use Rattle.std.proofs.Common.{◌≡◌, drop}
use Rattle.toml.specs.View.{table_view}
use Rattle.configuration.specs.Flaws.{first_flaw}
use Rattle.configuration.proofs.key_flaws.first_flaw.Given as goal

-- no key so far has a flaw
abbrev pub invariant-loop-key : goal.invariant-loop-key
invariant-loop-key l = first_flaw (table_view l.table) (drop l.key-index l.keys) ≡ first_flaw (table_view l.table) l.keys

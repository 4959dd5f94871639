use Rattle.std.proofs.Common.{◌≡◌, true, false, sym, ◌∙◌, rules}
use Rattle.toml.specs.Data.{string}
use Rattle.toml.specs.Parse.{scalar_data}
use Rattle.toml_parser.specs.Strings.{starts_string, quoted}
use Rattle.toml_parser.specs.Numbers.{unquoted}
use Rattle.configuration.proofs.SkipLaws.{skips_err, read_ok, read_err, atom_text, atom_scalar}
use Rattle.configuration.proofs.skip.skip_atom.Goals as goal

pub returns-in_err-_text-clause-value : goal.returns-in_err-_text-clause-value
returns-in_err-_text-clause-value c read some =
    let starts : starts_string c.args.s.now ≡ true = search rules in
    skips_err c.from_residual.result c.in_err-_text.field-0.0 _ read.1 c.from_residual.ensures.1 (λ y p. p)
    (read_err string (quoted c.args.s.now) _ read c.in_err-_text.ensures.value (sym (atom_text c.args.s.now starts) ∙ some))

pub returns-in_err-_scalar-clause-value : goal.returns-in_err-_scalar-clause-value
returns-in_err-_scalar-clause-value c read some =
    let starts : starts_string c.args.s.now ≡ false = search rules in
    skips_err c.from_residual-in_err-_scalar.result c.in_err-_scalar.field-0.0 _ read.1 c.from_residual-in_err-_scalar.ensures.1 (λ y p. p)
    (read_err scalar_data (unquoted c.args.s.now) _ read c.in_err-_scalar.ensures.value (sym (atom_scalar c.args.s.now starts) ∙ some))

pub returns-in_ok-_text-clause-value : goal.returns-in_ok-_text-clause-value
returns-in_ok-_text-clause-value c read some =
    let starts : starts_string c.args.s.now ≡ true = search rules in
    read_ok string (quoted c.args.s.now) _ _ read c.in_ok-_text.ensures.value (sym (atom_text c.args.s.now starts) ∙ some)

pub returns-in_ok-_scalar-clause-value : goal.returns-in_ok-_scalar-clause-value
returns-in_ok-_scalar-clause-value c read some =
    let starts : starts_string c.args.s.now ≡ false = search rules in
    read_ok scalar_data (unquoted c.args.s.now) _ _ read c.in_ok-_scalar.ensures.value (sym (atom_scalar c.args.s.now starts) ∙ some)

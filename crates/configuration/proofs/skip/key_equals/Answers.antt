use Rattle.std.proofs.Common.{rules}
use Rattle.toml.specs.Parse.{key_equals}
use Rattle.configuration.proofs.skip.key_equals.Goals as goal

pub returns-in_err-key-clause-value : goal.returns-in_err-key-clause-value
unfolding key_equals
returns-in_err-key-clause-value c = search rules

pub returns-then-first-ne61-clause-value : goal.returns-then-first-ne61-clause-value
unfolding key_equals
returns-then-first-ne61-clause-value c = search rules

pub returns-clause-value : goal.returns-clause-value
unfolding key_equals
returns-clause-value c = search rules

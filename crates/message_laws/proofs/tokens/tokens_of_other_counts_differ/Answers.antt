use Rattle.message_laws.proofs.TokenUse.Apartness.{counts_differ}
use Rattle.message_laws.proofs.tokens.tokens_of_other_counts_differ.Goals as goal

pub returns : goal.returns
returns c = record { differ = counts_differ }

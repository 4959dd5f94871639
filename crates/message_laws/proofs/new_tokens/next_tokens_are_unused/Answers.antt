use Rattle.message_laws.proofs.TokenUse.UnusedTokens.{unused_branch, unused_tag}
use Rattle.message_laws.proofs.new_tokens.next_tokens_are_unused.Goals as goal

pub returns : goal.returns
returns c = record { branch = unused_branch; tag = unused_tag }

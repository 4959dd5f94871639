use Rattle.message_laws.proofs.QuietEvents.QuietRules.{alone_quiet, plain_other, refusal_quiet}
use Rattle.message_laws.proofs.quiet.rules_reply_quietly.Goals as goal

pub returns-clause-alone : goal.returns-clause-alone
returns-clause-alone c = alone_quiet

pub returns-clause-refusal : goal.returns-clause-refusal
returns-clause-refusal c = refusal_quiet

pub returns-clause-plain : goal.returns-clause-plain
returns-clause-plain c = plain_other

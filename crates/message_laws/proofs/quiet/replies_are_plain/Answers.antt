use Rattle.std.proofs.Common.{None}
use Rattle.message_laws.proofs.QuietEvents.QuietReplies.{in_plain, okay_plain, reply_plain, request_calm, responds_plain}
use Rattle.message_laws.proofs.quiet.replies_are_plain.Goals as goal

pub returns-clause-any : goal.returns-clause-any
returns-clause-any c = responds_plain

pub returns-clause-refusal : goal.returns-clause-refusal
returns-clause-refusal c = λ methods s e r begun id status further. in_plain methods s e r begun id status further None

pub returns-clause-reply : goal.returns-clause-reply
returns-clause-reply c = reply_plain

pub returns-clause-okay : goal.returns-clause-okay
returns-clause-okay c = okay_plain

pub returns-clause-request : goal.returns-clause-request
returns-clause-request c = request_calm

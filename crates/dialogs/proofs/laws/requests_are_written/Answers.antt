use Rattle.dialogs.proofs.DraftLaws.{request_stands}
use Rattle.dialogs.proofs.laws.requests_are_written.Goals as goal

pub returns : goal.returns
returns c = λ d via method number hops further body low token sound has. request_stands d via method number hops further body low token sound has

use Rattle.call_steps.proofs.StepLaws.{lacks_memory}
use Rattle.call_steps.proofs.inputs.with_messages.Goals as goal

pub returns-in-Err-clause-refused : goal.returns-in-Err-clause-refused
returns-in-Err-clause-refused c = λ d pool input now. lacks_memory d pool input now

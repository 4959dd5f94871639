use Rattle.std.proofs.Common.{sym}
use Rattle.call_steps.proofs.StepLaws.{counts_nothing}
use Rattle.call_steps.proofs.numbers.counts.Goals as goal

pub returns-in-None : goal.returns-in-None
returns-in-None c = counts_nothing c.args.calls.now.calls c.args.place c.args.end c.args.number (sym c.in-None.ensures.call)

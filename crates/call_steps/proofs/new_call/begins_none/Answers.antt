use Rattle.calls.specs.State.{standing}
use Rattle.call_steps.proofs.new_call.begins_none.Goals as goal

pub returns-clause-fits : goal.returns-clause-fits
returns-clause-fits c = c.nothing.ensures.fits (standing c.args.calls.now) c.args.occasion.now

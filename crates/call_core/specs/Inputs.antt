-- What reaches a call.
use Rattle.call_core.specs.declared.input.Input.{Input}
use Rattle.call_core.specs.declared.input.Input.TheVariants as inputs
use Rattle.call_core.specs.declared.signal.Signal.{Signal}
use Rattle.call_core.specs.declared.signal.Signal.TheVariants as signals

-- the signal of an input whose description, if any, doesn't count
abbrev pub signal_of : Input → Signal
signal_of (inputs.Offer end method description) = signals.Offer end method
signal_of (inputs.Provisional status) = signals.Provisional status
signal_of (inputs.Answer description) = signals.UnfitAnswer
signal_of (inputs.Refusal status) = signals.Refusal status
signal_of inputs.TimedOut = signals.TimedOut
signal_of inputs.Ack = signals.Ack
signal_of inputs.Cancel = signals.Cancel
signal_of (inputs.Bye end) = signals.Bye end
signal_of inputs.Limit = signals.Limit
signal_of inputs.Repeat = signals.Repeat
signal_of inputs.Wait = signals.Wait
signal_of inputs.Lifetime = signals.Lifetime

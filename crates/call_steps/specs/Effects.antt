-- What a step of a call results in.
use Rattle.std.specs.Prelude.{ℕ, List, Option, None}
use Rattle.events.specs.declared.sent.Sent.{Sent}
use Rattle.timers.specs.declared.timers.Timer.{Timer}
use Rattle.calls.specs.Changes.{Outcome, entered, unchanged}
use Rattle.calls.specs.State.{Standing}
use Rattle.calls.specs.declared.timer_id.CallTimerId.{CallTimerId}
use Rattle.call_core.specs.declared.note.NoteOfCall.{NoteOfCall}
use Rattle.call_messages.specs.Dressed.{Dressed, no_message}
use Rattle.call_steps.specs.declared.call_step.CallStep.{CallStep}
use Rattle.call_steps.specs.declared.messages.StepMessages.{StepMessages}

-- the calls afterwards, with the changes of the relay table; the messages; the ACK that is sent again; and what
-- happened to a call, if that is reported
pub record Effect : Type 0 where
  pub outcome : Outcome
  pub dressed : Dressed
  pub ack : Option Sent
  pub note : Option NoteOfCall

-- of what was planned on these calls, at this moment
abbrev pub effect : Standing → ℕ → CallStep → Effect
effect calls now step = record { outcome = entered calls now step.change; dressed = step.dressed; ack = step.ack; note = step.note }

abbrev pub no_effect : Standing → Effect
no_effect calls = record { outcome = unchanged calls; dressed = no_message; ack = None; note = None }

-- the calls become this, with these messages and this note
abbrev pub with_messages : Outcome → StepMessages → Option NoteOfCall → Effect
with_messages outcome said note = record { outcome = outcome; dressed = said.dressed; ack = said.ack; note = note }

-- the calls with these timers: what a call does hangs on none
abbrev pub with_timers : List (Timer CallTimerId) → Standing → Standing
with_timers timers calls = record { calls = calls.calls; pool = calls.pool; begun = calls.begun; timers = timers }

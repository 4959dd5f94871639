-- What an event results in for all that the agent has: its plan, and what changes among the calls and the ACKs that
-- are sent again.
use Rattle.std.specs.Prelude.{ℕ, ◌<◌, ◌≤◌, ◌+◌, ◌^◌, ◌==◌, not, List, [], ◌∷◌, ◌++◌, filter, Option, Some, None}
use Rattle.events.specs.declared.sent.Sent.{Sent}
use Rattle.calls.specs.State.{Standing}
use Rattle.calls.specs.Changes.{FitsChange, Outcome, entered, unchanged, without_timer}
use Rattle.calls.specs.declared.timer_id.CallTimerId.{CallTimerId}
use Rattle.call_steps.specs.declared.call_step.CallStep.{CallStep}
use Rattle.plans.specs.declared.acks.AckChange.{AckChange}
use Rattle.plans.specs.declared.acks.AckChange.TheVariants.{Stay, Keeps, Ends}
use Rattle.plans.specs.declared.acks.KeptAck.{KeptAck}
use Rattle.plans.specs.declared.effects_of_events.Doing.{Doing}
use Rattle.plans.specs.Plan.{Plan}

-- what is answered, sent and changed in transactions and registrar; the calls afterwards, with the changes of the relay
-- table; and the ACKs that are sent again
pub record Effect : Type 0 where
  pub plan : Plan
  pub calls : Outcome
  pub acks : List KeptAck

-- no call has to do with it
abbrev pub alone : Standing → List KeptAck → Plan → Effect
alone calls acks plan = record { plan = plan; calls = unchanged calls; acks = acks }

-- ---- the ACKs of 2xx that are sent again: each is kept by the number of its INVITE's transaction, until that ends
-- (section
-- 13.2.2.4)

abbrev pub without_ack : ℕ → List KeptAck → List KeptAck
without_ack id acks = filter (λ ack. not (ack.id == id)) acks

abbrev pub acks_after : List KeptAck → AckChange → List KeptAck
acks_after acks Stay = acks
acks_after acks (Keeps ack) = without_ack ack.id acks ++ ack ∷ []
acks_after acks (Ends id) = without_ack id acks

-- ---- what was planned, as its effect

-- the timer that fired is no longer set
abbrev pub fired_off : Option CallTimerId → Standing → Standing
fired_off None calls = calls
fired_off (Some timer) calls = without_timer timer calls

-- `more` tokens more are made
abbrev pub with_made : ℕ → Plan → Plan
with_made more p = record { taken = p.taken; changes = p.changes; sends = p.sends; registration = p.registration; made = more + p.made; note = p.note }

abbrev pub effect : Standing → List KeptAck → ℕ → Doing → Effect
effect calls acks now d = record {
  plan = with_made d.made d.plan;
  calls = entered (fired_off d.fired calls) now d.calls;
  acks = acks_after acks d.acks;
}

-- It was planned on these calls: so it can be entered. A call that begins makes tokens.
pub record Fits (calls : Standing) (now : ℕ) (d : Doing) : Type 0 where
  pub change : FitsChange (fired_off d.fired calls) now d.calls
  pub few : d.made + d.plan.made < 2 ^ 63
  pub begun : (entered (fired_off d.fired calls) now d.calls).standing.begun ≤ calls.begun + d.made

-- a step of a call that was planned on these calls: it can be entered. A call that begins makes tokens
pub record CanEnter (calls : Standing) (now : ℕ) (step : CallStep) : Type 0 where
  pub change : FitsChange calls now step.change
  pub few : step.dressed.made < 2 ^ 63
  pub begun : (entered calls now step.change).standing.begun ≤ calls.begun + step.dressed.made

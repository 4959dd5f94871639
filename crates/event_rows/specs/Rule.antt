-- What is done for a request that begins a transaction.
use Rattle.std.specs.Prelude.{List}
use Rattle.calls.specs.declared.standing_call.StandingCall.{StandingCall}
use Rattle.sip_message.specs.declared.message.Request.{Request}
use Rattle.plans.specs.CallRule.{CallRule, IsFor}
use Rattle.plans.specs.declared.rule.Reply.{Reply}

pub data Rule : Type 0 where
  -- it is answered with a final response, and no call has to do with it
  Alone : Reply → Rule
  -- a call takes it, or begins with it
  Call : CallRule → Rule

-- what it hands on to a call is for this request
abbrev pub HandsOn : List StandingCall → Request → Rule → Type 0
HandsOn standing r (Alone reply) = Unit {0}
HandsOn standing r (Call rule) = IsFor standing r rule

use Rattle.std.proofs.Common.{◌≡◌, [], ◌∷◌, ◌++◌, ap, ◌∙◌}
use Rattle.call_traffic.proofs.traffic_log.TrafficLog.begin.Goals as goal

pub returns-clause-ok : goal.returns-clause-ok
returns-clause-ok c = record {
  call = c.new.result;
  last = c.in_ok-push.ensures.items ∙ ap (λ cs. cs ++ c.new.result ∷ []) c.make_room.ensures.calls;
  numbered = c.new.ensures.number;
  moment = c.new.ensures.begun;
  from_caller = c.new.ensures.caller;
  from_callee = c.new.ensures.callee;
  unanswered = c.new.ensures.stillness;
}

use Rattle.std.proofs.Common.{◌≡◌, Some, None, find, option_map, position, sym, ap, ◌∙◌}
use Rattle.call_traffic.specs.Calls.{carried, has_number}
use Rattle.call_traffic.proofs.CallLaws.{found, none_taken_out, not_found, taken_out}
use Rattle.call_traffic.proofs.traffic_log.TrafficLog.end.Goals as goal

pub returns-in_err-at-clause-carried : goal.returns-in_err-at-clause-carried
returns-in_err-at-clause-carried c =
    let is_it = has_number c.args.number in
    let none = sym (ap (position is_it) c.deref.ensures.value) ∙ sym c.place_of.ensures ∙ c.in_err-at.was in
    c.from_residual.ensures ∙ sym (ap (option_map carried) (not_found is_it c.args.self.now.calls.items none))

pub returns-in_err-at-clause-calls : goal.returns-in_err-at-clause-calls
returns-in_err-at-clause-calls c =
    let is_it = has_number c.args.number in
    let none = sym (ap (position is_it) c.deref.ensures.value) ∙ sym c.place_of.ensures ∙ c.in_err-at.was in
    sym (none_taken_out is_it c.args.self.now.calls.items none)

pub returns-clause-carried : goal.returns-clause-carried
returns-clause-carried c =
    let is_it = has_number c.args.number in
    let some = sym (ap (position is_it) c.deref.ensures.value) ∙ sym c.place_of.ensures ∙ c.in_ok-at.was in
    ap Some c.carried.ensures ∙ ap (λ call. Some (carried call)) c.take_out-call.ensures.call
    ∙ sym (ap (option_map carried) (found is_it c.args.self.now.calls.items c.in_ok-at.at c.take_out-call.result some))

pub returns-clause-calls : goal.returns-clause-calls
returns-clause-calls c =
    let is_it = has_number c.args.number in
    let some = sym (ap (position is_it) c.deref.ensures.value) ∙ sym c.place_of.ensures ∙ c.in_ok-at.was in
    c.take_out-call.ensures.calls ∙ sym (taken_out is_it c.args.self.now.calls.items c.in_ok-at.at c.take_out-call.result some)

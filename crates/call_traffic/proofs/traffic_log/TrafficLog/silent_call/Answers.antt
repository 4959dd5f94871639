use Rattle.std.proofs.Common.{◌≡◌, ◌+◌, ◌-◌, ◌*◌, ◌^◌, Some, None, find, min, option_map, position, slice_set, sym, ap, ◌∙◌}
use Rattle.call_traffic.specs.Calls.{is_silent, number_of}
use Rattle.call_traffic.specs.Limits.{minute}
use Rattle.call_traffic.proofs.CallLaws.{found, none_told, not_found, told_at}
use Rattle.call_traffic.proofs.traffic_log.TrafficLog.silent_call.Goals as goal

pub returns-in_err-at-clause-silent : goal.returns-in_err-at-clause-silent
returns-in_err-at-clause-silent c =
    let is_it = is_silent c.args.now (c.args.minutes * minute) in
    let place = ap (λ minutes. position (is_silent c.args.now (minutes * 60000)) c.deref.result.now) c.from.ensures ∙ ap (position is_it) c.deref.ensures.value in
    let none = sym place ∙ sym c.place_of_silent.ensures ∙ c.in_err-at.was in
    c.from_residual.ensures ∙ sym (ap (option_map number_of) (not_found is_it c.args.self.now.calls.items none))

pub returns-in_err-at-clause-told : goal.returns-in_err-at-clause-told
returns-in_err-at-clause-told c =
    let is_it = is_silent c.args.now (c.args.minutes * minute) in
    let place = ap (λ minutes. position (is_silent c.args.now (minutes * 60000)) c.deref.result.now) c.from.ensures ∙ ap (position is_it) c.deref.ensures.value in
    let none = sym place ∙ sym c.place_of_silent.ensures ∙ c.in_err-at.was in
    sym (none_told is_it _ c.args.self.now.calls.items none)

pub returns-clause-silent : goal.returns-clause-silent
returns-clause-silent c =
    let is_it = is_silent c.args.now (c.args.minutes * minute) in
    let place = ap (λ minutes. position (is_silent c.args.now (minutes * 60000)) c.deref.result.now) c.from.ensures ∙ ap (position is_it) c.deref.ensures.value in
    let some = sym place ∙ sym c.place_of_silent.ensures ∙ c.in_ok-at.was in
    ap (λ call. Some (number_of call)) c.index.ensures ∙ sym (ap (option_map number_of) (found is_it c.args.self.now.calls.items c.in_ok-at.at c.index.result.now some))

pub returns-clause-told : goal.returns-clause-told
returns-clause-told c =
    let is_it = is_silent c.args.now (c.args.minutes * minute) in
    let place = ap (λ minutes. position (is_silent c.args.now (minutes * 60000)) c.deref.result.now) c.from.ensures ∙ ap (position is_it) c.deref.ensures.value in
    let some = sym place ∙ sym c.place_of_silent.ensures ∙ c.in_ok-at.was in
    let call = c.index_mut.result.now in
    let moment = min (c.args.now + minute) (2 ^ 64 - 1) in
    ap (λ next. slice_set c.args.self.now.calls.items c.in_ok-at.at (record call { next_telling = next })) c.saturating_add.ensures
    ∙ ap (λ it. slice_set c.args.self.now.calls.items c.in_ok-at.at (record it { next_telling = moment })) c.index_mut.ensures.value
    ∙ sym (told_at is_it moment c.args.self.now.calls.items c.in_ok-at.at call some)

use Rattle.std.proofs.Common.{◌≡◌, List, inr, refl, sym, ap, subst, ◌∙◌}
use Rattle.std.specs.Option.{option_copied}
use Rattle.call_traffic.specs.Calls.{has_number}
use Rattle.call_traffic.specs.Following.{IsFollowed}
use Rattle.call_traffic.specs.MediaLogs.{FirstBecomes, Misses, MissesSome}
use Rattle.call_traffic.specs.Reading.{Reading}
use Rattle.call_traffic.proofs.FirstLaws.{on_err}
use Rattle.call_traffic.proofs.FollowLaws.{follows}
use Rattle.call_traffic.proofs.media_log.MediaLog.follow.Goals as goal

pub returns-in-None-clause-ok : goal.returns-in-None-clause-ok
returns-in-None-clause-ok g c =
    let old = g.C.PortCounter.readings c.args.self.now.counter in
    let new = g.C.PortCounter.readings c.begin.new.self.counter in
    let same : new ≡ old = ap (λ s. g.C.PortCounter.readings s.counter) c.begin.ensures.others in
    follows c.args.calls.now c.args.note c.args.now old new c.args.self.now.log c.begin.new.self.log c.begin.new.self.log _ c.in_ok-begin.ensures.ok
    (sym (ap option_copied c.in-None.is) ∙ c.call_of.ensures) (same, refl) refl

pub returns-in_ok-follow_call-in-Some-clause-ok : goal.returns-in_ok-follow_call-in-Some-clause-ok
returns-in_ok-follow_call-in-Some-clause-ok g c =
    let old = g.C.PortCounter.readings c.args.self.now.counter in
    let between = g.C.PortCounter.readings c.begin.new.self.counter in
    let new = g.C.PortCounter.readings c.follow_call.new.self.counter in
    let begun = c.begin.new.self.log in
    let after = c.follow_call.new.self.log in
    let note = c.args.note in
    let same : between ≡ old = ap (λ s. g.C.PortCounter.readings s.counter) c.begin.ensures.others in
    follows c.args.calls.now note c.args.now old new c.args.self.now.log begun after _ c.in_ok-begin.ensures.ok
    (sym (ap option_copied c.in-Some.is) ∙ c.call_of.ensures)
    (subst (λ (rs : List Reading). FirstBecomes (has_number note.number) (IsFollowed c.in-Some.standing.now.call note.note c.args.now rs new) (new ≡ rs) begun.calls.items after.calls.items) same c.in_ok-follow_call-in-Some.ensures.ok)
    (ap (λ s. s.log) c.follow_call.ensures.others)

pub returns-in_err-follow_call-in-Some-clause-err : goal.returns-in_err-follow_call-in-Some-clause-err
returns-in_err-follow_call-in-Some-clause-err g c =
    let misses : MissesSome c.args.note c.args.now c.args.self.now.log c.follow_call.new.self.log = record {
      begun = c.begin.new.self.log;
      begins = c.in_ok-begin.ensures.ok;
      missed = c.in_err-follow_call-in-Some.ensures.err;
      others = ap (λ s. s.log) c.follow_call.ensures.others;
    } in
    on_err c.from_residual-in_err-follow_call-in-Some.result (Misses c.args.note c.args.now c.args.self.now.log c.follow_call.new.self.log) (inr misses)

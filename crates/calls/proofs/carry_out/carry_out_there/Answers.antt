use Rattle.std.proofs.Common.{◌≡◌, ◌∙◌, ◌<◌, ap, arith, length, set, subst}
use Rattle.std.specs.Prelude.{slice_get}
use Rattle.call_core.specs.Calls.{IsServed}
use Rattle.call_core.specs.Plans.{carried}
use Rattle.calls.specs.declared.change.Beside.{Beside}
use Rattle.calls.specs.declared.standing_call.StandingCall.{StandingCall}
use Rattle.calls.specs.Carrying.{Did, with_step}
use Rattle.calls.specs.Changes.{beside}
use Rattle.calls.proofs.KeptLaws.{read_at, same_read}
use Rattle.calls.proofs.carry_out.carry_out_there.Goals as goal

pub carry_out_in-changes-requires-clause-serves : goal.carry_out_in-changes-requires-clause-serves
carry_out_in-changes-requires-clause-serves c =
    let within : c.args.place < length c.args.calls.now.items = omega (arith, c.requires.there, c.args.calls.now.ok.0) in
    c.requires.served c.index_mut-call.result.now (read_at c.args.calls.now.items c.args.place c.index_mut-call.result.now within c.index_mut-call.ensures.value)

pub carry_out_in-changes-requires-clause-planned : goal.carry_out_in-changes-requires-clause-planned
carry_out_in-changes-requires-clause-planned c =
    let within : c.args.place < length c.args.calls.now.items = omega (arith, c.requires.there, c.args.calls.now.ok.0) in
    c.requires.planned c.index_mut-call.result.now (read_at c.args.calls.now.items c.args.place c.index_mut-call.result.now within c.index_mut-call.ensures.value)

pub returns-clause-done : goal.returns-clause-done
returns-clause-done c = λ d is.
    let within : c.args.place < length c.args.calls.now.items = omega (arith, c.requires.there, c.args.calls.now.ok.0) in
    let here = read_at c.args.calls.now.items c.args.place c.index_mut-call.result.now within c.index_mut-call.ensures.value in
    let same : c.index_mut-call.result.now ≡ d = same_read c.index_mut-call.result.now d (slice_get c.args.calls.now.items c.args.place) here is in
    let put = c.put_beside.ensures.call ∙ ap (λ (k : Beside). beside k c.carry_out_in-changes.new.call) c.into_inner.ensures in
    let stands = put ∙ ap (λ (y : StandingCall). beside c.args.kept y) c.carry_out_in-changes.ensures.call in
    subst (λ (y : StandingCall). Did c.args.calls.now.items c.args.pool.now c.args.place c.args.now c.args.plan y
    (beside c.args.kept (with_step y (carried y.call c.args.pool.now c.args.now c.args.plan)))
    (set c.args.calls.now.items c.args.place c.put_beside.new.call) c.carry_out_in-changes.new.pool c.carry_out_in-changes.result.items) same
    (record {
      calls = ap (λ (y : StandingCall). set c.args.calls.now.items c.args.place y) stands;
      pool_there = c.carry_out_in-changes.ensures.pool;
      changes = c.carry_out_in-changes.ensures.changes;
      spares = c.carry_out_in-changes.ensures.spares;
      serves = subst (λ (y : StandingCall). IsServed y.call c.carry_out_in-changes.new.pool) stands (c.put_beside.ensures.serves c.carry_out_in-changes.new.pool c.carry_out_in-changes.ensures.serves);
    })

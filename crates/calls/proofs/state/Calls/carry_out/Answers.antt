use Rattle.std.proofs.Common.{◌∙◌, ◌<◌, List, ap, arith, is_some, length, subst, sym}
use Rattle.std.specs.Prelude.{slice_get}
use Rattle.call_core.specs.declared.plan.Plan.{Plan}
use Rattle.calls.specs.declared.change.Beside.{Beside}
use Rattle.calls.specs.declared.standing_call.StandingCall.{StandingCall}
use Rattle.calls.specs.Changes.{with_calls}
use Rattle.calls.specs.State.{AreKept, Standing}
use Rattle.calls.specs.Timing.{timers_planned}
use Rattle.calls.proofs.KeptLaws.{read_at, served_at}
use Rattle.calls.proofs.CarryLaws.{changes_carried, kept_carried, standing_carried}
use Rattle.calls.proofs.TagLaws.{noted_if}
use Rattle.calls.proofs.state.Calls.carry_out.Goals as goal

pub carry_out_there-changes-requires-clause-served : goal.carry_out_there-changes-requires-clause-served
carry_out_there-changes-requires-clause-served c = λ d is. served_at c.self.inside.pool c.self.inside.calls.items c.args.place d c.self.invariant.0.served is

pub carry_out_there-changes-requires-clause-planned : goal.carry_out_there-changes-requires-clause-planned
carry_out_there-changes-requires-clause-planned c = λ d is. let planned = rw (← c.self.view_is) at c.requires.planned in planned d is

pub take_off-requires-clause-noted : goal.take_off-requires-clause-noted
take_off-requires-clause-noted c =
    let cs = c.self.inside.calls.items in
    let within : c.args.place < length cs = omega (arith, c.if-place-len.false, c.len.ensures, c.self.inside.calls.ok.0) in
    let here = read_at cs c.args.place c.index.result.now within c.index.ensures in
    let did = c.carry_out_there-changes.ensures.done c.index.result.now here in
    noted_if c.self.inside.key cs c.carry_out_there-changes.new.calls.items c.args.place c.args.kept c.index.result.now _ _ _ c.self.inside.tags.items c.note_tags.new.tags.items _ within here c.self.invariant.1
    (c.puts_dialog-puts_dialog.ensures ∙ ap (λ (k : Beside). is_some k.leg) c.get-2.ensures) did.calls
    (λ puts d is. c.note_tags.ensures.anew puts d (ap (λ (xs : List StandingCall). slice_get xs c.args.place) c.deref.ensures.value ∙ is)) c.note_tags.ensures.as_before

pub invariant_of-self : goal.invariant_of-self
invariant_of-self c =
    let cs = c.self.inside.calls.items in
    let within : c.args.place < length cs = omega (arith, c.if-place-len.false, c.len.ensures, c.self.inside.calls.ok.0) in
    let here = read_at cs c.args.place c.index.result.now within c.index.ensures in
    let did = c.carry_out_there-changes.ensures.done c.index.result.now here in (
      subst (λ (after : List StandingCall). AreKept after c.carry_out_there-changes.new.pool c.self.inside.begun) (sym c.take_off.ensures.calls)
          (kept_carried c.spared_call_is_served.ensures cs c.self.inside.pool c.args.place c.args.now c.self.inside.begun c.args.kept c.args.plan c.index.result.now _ _ _ c.self.invariant.0 here did),
      c.take_off.ensures.noted,
    )

pub returns-clause-changes : goal.returns-clause-changes
returns-clause-changes c =
    let cs = c.self.inside.calls.items in
    let within : c.args.place < length cs = omega (arith, c.if-place-len.false, c.len.ensures, c.self.inside.calls.ok.0) in
    let here = read_at cs c.args.place c.index.result.now within c.index.ensures in
    let did = c.carry_out_there-changes.ensures.done c.index.result.now here in
    let stood : Standing = record { calls = cs; pool = c.self.inside.pool; begun = c.self.inside.begun; timers = c.self.inside.timers.timers } in
    rw (← c.self.view_is) (changes_carried stood c.args.place c.args.now c.args.kept c.args.plan c.index.result.now _ _ _ here did)

pub returns-clause-standing : goal.returns-clause-standing
returns-clause-standing c =
    let cs = c.self.inside.calls.items in
    let within : c.args.place < length cs = omega (arith, c.if-place-len.false, c.len.ensures, c.self.inside.calls.ok.0) in
    let here = read_at cs c.args.place c.index.result.now within c.index.ensures in
    let did = c.carry_out_there-changes.ensures.done c.index.result.now here in
    let stood : Standing = record { calls = cs; pool = c.self.inside.pool; begun = c.self.inside.begun; timers = c.self.inside.timers.timers } in
    let planned = c.take_plan.ensures.timers ∙ ap (λ (p : Plan). timers_planned c.args.now c.number-number.result p c.self.inside.timers.timers) c.get.ensures in
    let timed = planned ∙ ap (λ number. timers_planned c.args.now number c.args.plan c.self.inside.timers.timers) c.number-number.ensures in
    let after : Standing = record { calls = cs; pool = c.carry_out_there-changes.new.pool; begun = c.self.inside.begun; timers = c.take_plan.new.timers.timers } in
    rw (← c.self.view_is) (ap (λ (calls : List StandingCall). with_calls calls after) c.take_off.ensures.calls
    ∙ standing_carried stood c.args.place c.args.now c.args.kept c.args.plan c.index.result.now _ _ _ _ within here did timed)

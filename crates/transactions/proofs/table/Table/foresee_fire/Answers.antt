use Rattle.std.proofs.Common.{◌≡◌, Some, None, is_some, ap, sym, ◌∙◌}
use Rattle.std.proofs.lemmas.Bool.{false≢true}
use Rattle.transactions.specs.Slots.{at}
use Rattle.transactions.specs.Contents.{fired_by, fired_step}
use Rattle.transactions.proofs.FireLaws.{fires_then}
use Rattle.transactions.proofs.table.Table.foresee_fire.Goals as goal

pub unreachable-requires : goal.unreachable-requires
unreachable-requires c =
    false≢true (fires_then c.self.inside.places.slots c.self.inside.timers.timers c.self.inside.rules c.self.inside.places.key c.args.self.now c.args.timer c.args.now c.self.invariant c.self.view_is
    c.if-not-is_due.ensures None (c.in_default.ensures ∙ ap (λ l. at l c.args.timer.id) c.slots.ensures))

pub unreachable-requires-in_default-advance : goal.unreachable-requires-in_default-advance
unreachable-requires-in_default-advance c =
    let t = c.in-Some.transaction.now in
    false≢true (ap (λ o. is_some (fired_step t o)) c.in_default-advance.ensures.row
    ∙ fires_then c.self.inside.places.slots c.self.inside.timers.timers c.self.inside.rules c.self.inside.places.key c.args.self.now c.args.timer c.args.now c.self.invariant c.self.view_is
    c.if-not-is_due.ensures (Some t) (c.in-Some.ensures ∙ ap (λ l. at l c.args.timer.id) c.slots.ensures))

pub unreachable-requires-in_default-fired_by : goal.unreachable-requires-in_default-fired_by
unreachable-requires-in_default-fired_by c =
    let t = c.in-Some.transaction.now in
    let step = c.in-Some-advance.step in
    let nothing : fired_by step.told c.in_ok-send.send ≡ None = sym c.fired_by.ensures ∙ c.in_default-fired_by.is in
    false≢true (ap is_some (sym nothing ∙ ap (fired_by step.told) c.in_ok-send.ensures.sent)
    ∙ ap (λ o. is_some (fired_step t o)) c.in-Some-advance.ensures.row
    ∙ fires_then c.self.inside.places.slots c.self.inside.timers.timers c.self.inside.rules c.self.inside.places.key c.args.self.now c.args.timer c.args.now c.self.invariant c.self.view_is
    c.if-not-is_due.ensures (Some t) (c.in-Some.ensures ∙ ap (λ l. at l c.args.timer.id) c.slots.ensures))

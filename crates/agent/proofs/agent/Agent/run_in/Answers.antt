use Rattle.std.proofs.Common.{rules, ◌≡◌, ◌++◌, ◌∷◌, ◌+◌, [], List, sym, subst, take}
use Rattle.std.proofs.lemmas.List.{take_more}
use Rattle.events.specs.declared.event.Event.{Event}
use Rattle.event_rows.specs.Trace.{Ran}
use Rattle.agent.proofs.SourceLaws.{puts_more, puts_none, puts_same}
use Rattle.agent.proofs.TraceLaws.{ran_more, ran_none, ran_same, stopped}
use Rattle.agent.proofs.agent.Agent.run_in.Goals as goal

pub loop-event-init : goal.loop-event-init
loop-event-init c = (ran_none c.args.self.now c.args.entries.now.items, puts_none c.args.entries.now.items)

pub returns-in_err-enter-clause-front : goal.returns-in_err-enter-clause-front
returns-in_err-enter-clause-front c =
    stopped c.from_residual.result c.args.self.now c.enter.new.self c.args.entries.now.items c.enter.new.entries.items c.loop-event.event-index c.args.events.now
    (ran_same _ _ _ _ _ _ _ c.in_err-enter.ensures.err_agent c.in_err-enter.ensures.err_trace c.loop-event.invariant.0)

pub returns-in_err-enter-clause-sources : goal.returns-in_err-enter-clause-sources
returns-in_err-enter-clause-sources c = puts_same _ _ _ c.in_err-enter.ensures.err_trace c.loop-event.invariant.1

pub loop-event-preserved : goal.loop-event-preserved
loop-event-preserved c =
    let done = take c.loop-event.event-index c.args.events.now in
    let e = c.event-item.result in
    let more : take (c.loop-event.event-index + 1) c.args.events.now ≡ done ++ e ∷ [] = search (rules, take_more) in
    let entered = c.in_ok-enter.ensures.ran in (
      subst (λ (events : List Event). Ran c.args.self.now c.args.entries.now.items events c.enter.new.self c.enter.new.entries.items) (sym more)
          (ran_more _ _ _ _ _ _ done (e ∷ []) c.loop-event.invariant.0 entered),
      puts_more _ _ _ c.loop-event.invariant.0.more entered.more c.loop-event.invariant.0.grown entered.grown c.loop-event.invariant.1 c.in_ok-enter.ensures.sources,
    )

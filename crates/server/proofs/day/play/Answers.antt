use Rattle.std.proofs.Common.{rules, ◌≡◌, ◌∙◌, ◌++◌, ◌∷◌, ◌+◌, [], List, ap, refl, sym, subst, take}
use Rattle.std.proofs.lemmas.List.{take_more}
use Rattle.events.specs.declared.event.Event.{Event}
use Rattle.event_rows.specs.Rows.{after}
use Rattle.event_rows.specs.State.{Contents}
use Rattle.server.specs.Replay.{after_all, WritesRun}
use Rattle.server.proofs.ReplayLaws.{after_more, stopped_at, writes_more, writes_nothing}
use Rattle.server.proofs.day.play.Goals as goal

pub loop-event-init : goal.loop-event-init
loop-event-init g c = record { agent = refl; written = writes_nothing c.args.notes c.args.agent.now (g.W.Write.contents c.args.writer.now) }

pub returns-in_err-play_event-clause-refused : goal.returns-in_err-play_event-clause-refused
returns-in_err-play_event-clause-refused g c =
    stopped_at c.from_residual.result c.args.notes c.args.agent.now c.args.events.now c.loop-event.event-index c.in_err-play_event.field-0.0
    (g.W.Write.contents c.args.writer.now) (g.W.Write.contents c.loop-event.writer) (g.W.Write.contents c.play_event.new.writer)
    (search rules) c.loop-event.invariant.written c.in_err-play_event.ensures.refused

pub loop-event-preserved : goal.loop-event-preserved
loop-event-preserved g c =
    let done = take c.loop-event.event-index c.args.events.now in
    let e = c.event-item.result in
    let more : take (c.loop-event.event-index + 1) c.args.events.now ≡ done ++ e ∷ [] = search (rules, take_more) in
    let agent_is = c.loop-event.invariant.agent in
    let all = writes_more c.args.notes c.args.agent.now c.loop-event.agent done e (g.W.Write.contents c.args.writer.now) (g.W.Write.contents c.loop-event.writer)
    (g.W.Write.contents c.play_event.new.writer) agent_is c.loop-event.invariant.written c.in_ok-play_event.ensures.written in
    record {
      agent = c.in_ok-play_event.ensures.agent ∙ ap (λ (a : Contents). after a e) agent_is ∙ sym (after_more c.args.agent.now done e) ∙ ap (after_all c.args.agent.now) (sym more);
      written = subst (λ (es : List Event). WritesRun c.args.notes c.args.agent.now es (g.W.Write.contents c.args.writer.now) (g.W.Write.contents c.play_event.new.writer)) (sym more) all;
    }

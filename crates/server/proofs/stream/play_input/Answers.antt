use Rattle.std.proofs.Common.{rules, ◌≡◌, ◌≤◌, ℕ, List, [], Option, IfSome, IfNone, IfErr, OnOk, length, drop, ap, subst}
use Rattle.events.specs.declared.event.Event.{Event}
use Rattle.scripts.specs.Grammar.{Begins, NeedsMore}
use Rattle.server.specs.declared.fault.Fault.TheVariants.{Input}
use Rattle.server.specs.declared.stream.Tail.{Tail}
use Rattle.server.specs.Stream.{InputLeaves, IsLeftOver, IsOfEvent}
use Rattle.server.proofs.StreamLaws.{bytes_followed, end_followed, end_not_followed, event_followed, event_stops, forgetting_stops, nothing_followed, reading_stops, same_followed, stops_as, taking_stops}
use Rattle.server.proofs.stream.play_input.Goals as goal
use Rattle.server.proofs.stream.play_input.Goals.{in-Some+in_ok-play_event+in_ok-forget, in_default+in_ok-read_more+else-branch-eq0}

pub loop-init : goal.loop-init
loop-init g c =
    nothing_followed c.args.notes c.args.agent.now (g.R.Read.remaining c.args.reader.now) (g.W.Write.contents c.args.writer.now)
    c.new-tail.result.bytes.items c.new-tail.result.at c.new-tail.ensures.bytes c.new-tail.ensures.at

pub returns-in_err-first-clause-refused : goal.returns-in_err-first-clause-refused
returns-in_err-first-clause-refused g c =
    let held = g.W.Write.contents c.args.writer.now in
    let left = g.R.Read.remaining c.args.reader.now in
    let fault = c.in_err-first.field-0.0 in
    let of = subst (λ (t : List ℕ). IsOfEvent t c.loop.tail.at fault) c.as_slice.ensures.value c.in_err-first.ensures.refused in
    stops_as c.from_residual.result (λ e. InputLeaves c.args.notes c.args.agent.now left e held (g.W.Write.contents c.loop.writer)) fault (search rules)
    (event_stops c.args.notes c.args.agent.now c.loop.agent left (g.R.Read.remaining c.loop.reader) held (g.W.Write.contents c.loop.writer)
    c.loop.tail.bytes.items c.loop.tail.at fault c.loop.invariant of)

pub returns-in_err-play_event-clause-refused : goal.returns-in_err-play_event-clause-refused
returns-in_err-play_event-clause-refused g c =
    let held = g.W.Write.contents c.args.writer.now in
    let left = g.R.Read.remaining c.args.reader.now in
    let wrote = g.W.Write.contents c.play_event.new.writer in
    let fault = c.in_err-play_event.field-0.0 in
    stops_as c.from_residual-in_err-play_event.result (λ e. InputLeaves c.args.notes c.args.agent.now left e held wrote) fault (search rules)
    (taking_stops c.args.notes c.args.agent.now c.loop.agent left (g.R.Read.remaining c.loop.reader) held (g.W.Write.contents c.loop.writer) wrote
    c.loop.tail.bytes.items c.loop.tail.at fault c.loop.invariant c.in_err-play_event.ensures.refused)

pub returns-in_err-forget-clause-refused : goal.returns-in_err-forget-clause-refused
returns-in_err-forget-clause-refused g c =
    let held = g.W.Write.contents c.args.writer.now in
    let left = g.R.Read.remaining c.args.reader.now in
    let wrote = g.W.Write.contents c.play_event.new.writer in
    let fault = c.in_err-forget.field-0.0 in
    let tail = c.loop.tail.bytes.items in
    let text = c.as_slice.ensures.value in
    let found = subst (λ (o : Option (Event × ℕ)). IfSome o (λ f. Begins c.as_slice.result.now f.0 (drop f.1 c.as_slice.result.now))) c.in-Some.is c.in_ok-first.ensures.found in
    let bound = subst (λ (o : Option (Event × ℕ)). IfSome o (λ f. f.1 ≤ length c.as_slice.result.now)) c.in-Some.is c.in_ok-first.ensures.bound in
    stops_as c.from_residual-in_err-forget.result (λ e. InputLeaves c.args.notes c.args.agent.now left e held wrote) fault (search rules)
    (forgetting_stops c.args.notes c.args.agent.now c.loop.agent c.play_event.new.agent left (g.R.Read.remaining c.loop.reader) held (g.W.Write.contents c.loop.writer) wrote
    tail c.loop.tail.at c.in-Some.length c.in-Some.event fault c.loop.invariant
    (subst (λ (t : List ℕ). Begins t c.in-Some.event (drop c.in-Some.length t)) text found) (subst (λ (t : List ℕ). c.in-Some.length ≤ length t) text bound)
    c.in_ok-play_event.ensures.agent c.in_ok-play_event.ensures.written c.in_err-forget.ensures.refused)

pub returns-in_err-read_more-clause-refused : goal.returns-in_err-read_more-clause-refused
returns-in_err-read_more-clause-refused g c =
    let held = g.W.Write.contents c.args.writer.now in
    let left = g.R.Read.remaining c.args.reader.now in
    let wrote = g.W.Write.contents c.loop.writer in
    let fault = c.in_err-read_more.field-0.0 in
    stops_as c.from_residual-in_err-read_more.result (λ e. InputLeaves c.args.notes c.args.agent.now left e held wrote) fault (search rules)
    (reading_stops c.args.notes c.args.agent.now c.loop.agent left (g.R.Read.remaining c.loop.reader) held wrote
    c.loop.tail.bytes.items c.loop.tail.at fault c.loop.invariant c.in_err-read_more.ensures.refused)

pub returns-then-branch-eq0-clause-written : goal.returns-then-branch-eq0-clause-written
returns-then-branch-eq0-clause-written g c =
    let after = c.read_more.new.self in
    end_followed c.end_of.result c.args.notes c.args.agent.now c.loop.agent (g.R.Read.remaining c.args.reader.now) (g.R.Read.remaining c.loop.reader) (g.R.Read.remaining c.read_more.new.reader)
    (g.W.Write.contents c.args.writer.now) (g.W.Write.contents c.loop.writer) c.loop.tail.bytes.items after.bytes.items c.loop.tail.at after.at c.in_ok-read_more.field-0
    c.loop.invariant c.in_ok-read_more.ensures.grows c.in_ok-read_more.ensures.at c.if-branch-eq0.true
    (subst (λ (t : List ℕ). OnOk c.end_of.result (t ≡ [])) c.as_slice-then-branch-eq0.ensures.value c.end_of.ensures.done)

pub returns-then-branch-eq0-clause-refused : goal.returns-then-branch-eq0-clause-refused
returns-then-branch-eq0-clause-refused g c =
    let after = c.read_more.new.self in
    let needs = subst (λ (o : Option (Event × ℕ)). IfNone o (NeedsMore c.as_slice.result.now)) c.in_default.is c.in_ok-first.ensures.more in
    end_not_followed c.end_of.result c.args.notes c.args.agent.now c.loop.agent (g.R.Read.remaining c.args.reader.now) (g.R.Read.remaining c.loop.reader) (g.R.Read.remaining c.read_more.new.reader)
    (g.W.Write.contents c.args.writer.now) (g.W.Write.contents c.loop.writer) c.loop.tail.bytes.items after.bytes.items c.loop.tail.at after.at c.in_ok-read_more.field-0
    c.loop.invariant c.in_ok-read_more.ensures.grows c.in_ok-read_more.ensures.at c.if-branch-eq0.true
    (subst NeedsMore c.as_slice.ensures.value needs)
    (subst (λ (t : List ℕ). IfErr c.end_of.result (IsLeftOver t after.at)) c.as_slice-then-branch-eq0.ensures.value c.end_of.ensures.refused)

pub loop-preserved : goal.loop-preserved
loop-preserved g c =
    let held = g.W.Write.contents c.args.writer.now in
    let left = g.R.Read.remaining c.args.reader.now in
    let now = g.R.Read.remaining c.loop.reader in
    let wrote = g.W.Write.contents c.loop.writer in
    let tail = c.loop.tail.bytes.items in
    let text = c.as_slice.ensures.value in
    elim c.match-first.branch [
      | in-Some+in_ok-play_event+in_ok-forget w ↦
          (let found = subst (λ (o : Option (Event × ℕ)). IfSome o (λ f. Begins c.as_slice.result.now f.0 (drop f.1 c.as_slice.result.now))) w.in-Some.is c.in_ok-first.ensures.found in
          let bound = subst (λ (o : Option (Event × ℕ)). IfSome o (λ f. f.1 ≤ length c.as_slice.result.now)) w.in-Some.is c.in_ok-first.ensures.bound in
          let then = w.forget.new.self in
          same_followed c.args.notes c.args.agent.now w.play_event.new.agent c.match-first.agent left now (g.R.Read.remaining c.match-first.reader) held (g.W.Write.contents w.play_event.new.writer)
          (g.W.Write.contents c.match-first.writer) then.bytes.items c.match-first.tail.bytes.items then.at c.match-first.tail.at
          w.agent-is (ap g.R.Read.remaining w.reader-is) (ap g.W.Write.contents w.writer-is) (ap (λ (t : Tail). t.bytes.items) w.tail-is) (ap (λ (t : Tail). t.at) w.tail-is)
          (event_followed c.args.notes c.args.agent.now c.loop.agent w.play_event.new.agent left now held wrote (g.W.Write.contents w.play_event.new.writer)
          tail then.bytes.items c.loop.tail.at then.at w.in-Some.length w.in-Some.event c.loop.invariant
          (subst (λ (t : List ℕ). Begins t w.in-Some.event (drop w.in-Some.length t)) text found) (subst (λ (t : List ℕ). w.in-Some.length ≤ length t) text bound)
          w.in_ok-play_event.ensures.agent w.in_ok-play_event.ensures.written w.in_ok-forget.ensures.bytes w.in_ok-forget.ensures.at))
      | in_default+in_ok-read_more+else-branch-eq0 w ↦
          (let then = w.read_more.new.self in
          same_followed c.args.notes c.args.agent.now c.loop.agent c.match-first.agent left (g.R.Read.remaining w.read_more.new.reader) (g.R.Read.remaining c.match-first.reader) held wrote
          (g.W.Write.contents c.match-first.writer) then.bytes.items c.match-first.tail.bytes.items then.at c.match-first.tail.at
          w.agent-is (ap g.R.Read.remaining w.reader-is) (ap g.W.Write.contents w.writer-is) (ap (λ (t : Tail). t.bytes.items) w.tail-is) (ap (λ (t : Tail). t.at) w.tail-is)
          (bytes_followed c.args.notes c.args.agent.now c.loop.agent left now (g.R.Read.remaining w.read_more.new.reader) held wrote
          tail then.bytes.items c.loop.tail.at then.at w.in_ok-read_more.field-0 c.loop.invariant w.in_ok-read_more.ensures.grows w.in_ok-read_more.ensures.at))
    ]

pub returns-clause-refused : goal.returns-clause-refused
returns-clause-refused g c =
    reading_stops c.args.notes c.args.agent.now c.loop.agent (g.R.Read.remaining c.args.reader.now) (g.R.Read.remaining c.loop.reader)
    (g.W.Write.contents c.args.writer.now) (g.W.Write.contents c.loop.writer) c.loop.tail.bytes.items c.loop.tail.at Input c.loop.invariant tt

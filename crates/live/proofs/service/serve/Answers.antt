use Rattle.std.proofs.Common.{rules, ◌≡◌, None, Some, Option, subst, MatchOption}
use Rattle.live.specs.Rounds.{TableAt, end_after}
use Rattle.live.specs.Serving.{one_less}
use Rattle.live.specs.Turns.{HasTable}
use Rattle.live.specs.declared.streaks.End.{End}
use Rattle.live.proofs.ServingLaws.{ended, lives_at, none_made, one_more_made}
use Rattle.live.proofs.TraceLaws.{StandLaws, lives_on}
use Rattle.live.proofs.service.serve.Goals as goal

pub returns-in-Some-end-clause-served : goal.returns-in-Some-end-clause-served
returns-in-Some-end-clause-served g c =
    let less : one_less c.loop.turns ≡ Some c.in-Some-one_less.left = search rules in
    let ends : end_after c.go_on-round.new.streaks c.go_on-round.result ≡ Some c.in-Some-end.end = search rules in
    ended _ _ _ _ _ _ _ _ _ _ c.loop.invariant.so_far less c.go_on-round.ensures.round c.go_on-round.ensures.streaks ends

pub loop-preserved : goal.loop-preserved
loop-preserved g c =
    let less : one_less c.loop.turns ≡ Some c.in-Some-one_less.left = search rules in
    let goes_on : end_after c.go_on-round.new.streaks c.go_on-round.result ≡ None = search rules in
    let signalling = c.go_on-round.new.signalling in
    record {
      table = subst (λ (end : Option End). MatchOption end (HasTable signalling.board signalling.agent) (λ e. TableAt signalling.board signalling.agent e)) goes_on c.go_on-round.ensures.table;
      so_far = one_more_made _ _ _ _ _ _ _ _ _ c.loop.invariant.so_far less c.go_on-round.ensures.round c.go_on-round.ensures.streaks goes_on;
    }

pub loop-init : goal.loop-init
loop-init g c = record { table = c.requires; so_far = none_made _ _ }

-- ---- the trace

pub returns-then-load-clause-lives : goal.returns-then-load-clause-lives
returns-then-load-clause-lives g c =
    let laws : StandLaws = record { entries = c.agents_stand.ensures.entries; traced = c.agents_stand.ensures.traced; promised = c.agents_stand.ensures.promised; relays = c.agents_stand.ensures.relays; lives = c.agents_stand.ensures.lives } in
    lives_on laws _ _ c.loop.invariant.so_far.went c.loop.invariant.table

pub returns-in_default-clause-lives : goal.returns-in_default-clause-lives
returns-in_default-clause-lives g c =
    let laws : StandLaws = record { entries = c.agents_stand.ensures.entries; traced = c.agents_stand.ensures.traced; promised = c.agents_stand.ensures.promised; relays = c.agents_stand.ensures.relays; lives = c.agents_stand.ensures.lives } in
    lives_on laws _ _ c.loop.invariant.so_far.went c.loop.invariant.table

pub returns-in-Some-end-clause-lives : goal.returns-in-Some-end-clause-lives
returns-in-Some-end-clause-lives g c =
    let laws : StandLaws = record { entries = c.agents_stand.ensures.entries; traced = c.agents_stand.ensures.traced; promised = c.agents_stand.ensures.promised; relays = c.agents_stand.ensures.relays; lives = c.agents_stand.ensures.lives } in
    let ends : end_after c.go_on-round.new.streaks c.go_on-round.result ≡ Some c.in-Some-end.end = search rules in
    let signalling = c.go_on-round.new.signalling in
    let table : TableAt signalling.board signalling.agent c.in-Some-end.end =
    subst (λ (end : Option End). MatchOption end (HasTable signalling.board signalling.agent) (λ e. TableAt signalling.board signalling.agent e)) ends c.go_on-round.ensures.table in
    lives_at laws _ _ _ _ _ _ c.go_on-round.new.streaks _ _ c.loop.invariant.so_far c.go_on-round.ensures.round ends c.loop.invariant.table table

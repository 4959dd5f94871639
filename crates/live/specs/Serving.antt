-- What the signalling did from its start to its end: rounds, one after the other.
use Rattle.std.specs.Prelude.{◌≡◌, ◌≤◌, ◌+◌, ℕ, zero, suc, List, [], ◌∷◌, ◌++◌, length, Option, Some, None}
use Rattle.rand_chacha.specs.ChaCha.{ChaCha}
use Rattle.event_rows.specs.State.{Contents}
use Rattle.live.specs.News.{with_news}
use Rattle.live.specs.Reports.{event_report, troubles}
use Rattle.live.specs.Rounds.{Rounds, end_after, salts_after, streaks_after}
use Rattle.live.specs.Salts.{behind_salts, salt_at}
use Rattle.live.specs.States.{State}
use Rattle.live.specs.declared.news.News.{News}
use Rattle.live.specs.declared.report.Report.{Report}
use Rattle.live.specs.declared.report.Report.TheVariants.{Asked}
use Rattle.live.specs.declared.round.Round.{Round}
use Rattle.live.specs.declared.round.Round.TheVariants.{Fired, Heard, Took, Waited, Failed}
use Rattle.live.specs.declared.streaks.Streaks.{Streaks}
use Rattle.live.specs.declared.streaks.End.{End}
use Rattle.live.specs.declared.streaks.End.TheVariants.{Turns, Stopped, Socket, Memory}

-- what an event can change, with the stream of salts and what passed to and from the outside, each in order: the
-- moments of the clock, the news from the operator, and what the operator was asked and told
pub record Course : Type 0 where
  pub state : State
  pub salts : ChaCha
  pub moments : List ℕ
  pub news : List News
  pub told : List Report

-- a round, the moment at which it was made, the news that it had, and the agent after it
pub record RoundAt : Type 0 where
  pub now : ℕ
  pub news : Option News
  pub round : Round
  pub agent : Contents

-- What the operator is asked and told of a round, in order, with these counts before it: once for news; the trouble
-- that begins or is over; and its event, or that none was taken.
abbrev pub told_of : Streaks → RoundAt → List Report
told_of streaks x = Asked x.now ∷ troubles streaks (streaks_after streaks x.round) ++ event_report x.agent x.round x.now ∷ []

-- one round between these counts: the clock gave a moment for it, the operator handed in news for it, if any, and was
-- told of it, part after part, and it has the next salt of the stream
pub record Leads (streaks after : Streaks) (a b : Course) (round : Round) : Type 0 where
  pub now : ℕ
  pub given : b.moments ≡ a.moments ++ now ∷ []
  pub news : Option News
  pub made : Rounds now (salt_at a.salts) news a.state b.state round
  pub handed : b.news ≡ with_news a.news news
  pub salts : b.salts ≡ salts_after a.salts round
  pub told : b.told ≡ ((a.told ++ Asked now ∷ []) ++ troubles streaks after) ++ event_report b.state.agent round now ∷ []

-- ---- rounds, the last of them first

-- how many events they had, including those that were lost
abbrev pub events_after : ℕ → Round → ℕ
events_after n (Fired turned) = suc n
events_after n (Heard turned) = suc n
events_after n (Took source turned) = suc n
events_after n Waited = n
events_after n Failed = n

abbrev pub events_in : List RoundAt → ℕ
events_in [] = 0
events_in (x ∷ before) = events_after (events_in before) x.round

-- the stream after them: each event has a salt of its own
abbrev pub salts_behind : ChaCha → List RoundAt → ChaCha
salts_behind g rounds = behind_salts g (events_in rounds)

-- each was made at its moment, with the salt that comes after those of the rounds before it, and left its agent
abbrev pub Made : ChaCha → State → List RoundAt → State → Type 0
Made g a [] b = b ≡ a
Made g a (x ∷ before) b =
    (mid : State) × Made g a before mid × (b.agent ≡ x.agent) × Rounds x.now (salt_at (salts_behind g before)) x.news mid b x.round

-- their moments, the earliest first
abbrev pub moments_of : List RoundAt → List ℕ
moments_of [] = []
moments_of (x ∷ before) = moments_of before ++ x.now ∷ []

-- the news that they had, after the news that was handed in before
abbrev pub news_behind : List News → List RoundAt → List News
news_behind handed [] = handed
news_behind handed (x ∷ before) = with_news (news_behind handed before) x.news

abbrev pub none_failed : Streaks
none_failed = record { failed = 0; lost = 0 }

-- the counts after them
abbrev pub streaks_of : List RoundAt → Streaks
streaks_of [] = none_failed
streaks_of (x ∷ before) = streaks_after (streaks_of before) x.round

-- what the operator was asked and told in them, the earliest first
abbrev pub told_in : List RoundAt → List Report
told_in [] = []
told_in (x ∷ before) = told_in before ++ told_of (streaks_of before) x

-- none of them was the last
abbrev pub GoOn : List RoundAt → Type 0
GoOn [] = Unit {0}
GoOn (x ∷ before) = (end_after (streaks_of (x ∷ before)) x.round ≡ None) × GoOn before

-- the last of them, and none before, ended it so
abbrev pub EndBy : List RoundAt → End → Type 0
EndBy [] end = ⊥
EndBy (x ∷ before) end = (end_after (streaks_of (x ∷ before)) x.round ≡ Some end) × GoOn before

-- ---- the end

-- how many rounds are left of those that were asked for
abbrev pub AreLeft : Option ℕ → ℕ → Option ℕ → Type 0
AreLeft None made left = left ≡ None
AreLeft (Some turns) made None = ⊥
AreLeft (Some turns) made (Some left) = made + left ≡ turns

-- no more were made than were asked for, if a number was
abbrev pub AreWithin : Option ℕ → ℕ → Type 0
AreWithin None made = Unit {0}
AreWithin (Some turns) made = made ≤ turns

abbrev pub EndsAt : Option ℕ → List RoundAt → End → Type 0
EndsAt turns rounds Turns = (turns ≡ Some (length rounds)) × GoOn rounds
EndsAt turns rounds Stopped = AreWithin turns (length rounds) × GoOn rounds
EndsAt turns rounds Socket = AreWithin turns (length rounds) × EndBy rounds Socket
EndsAt turns rounds Memory = AreWithin turns (length rounds) × EndBy rounds Memory

-- These rounds were made, one for each moment that the clock gave, with the news that the operator handed in and with
-- the salts of the stream in their order. The operator was asked and told what is defined of them, in their order and
-- nothing else, and they ended this way.
pub record Served (a b : Course) (turns : Option ℕ) (end : End) : Type 0 where
  pub rounds : List RoundAt
  pub made : Made a.salts a.state rounds b.state
  pub moments : b.moments ≡ a.moments ++ moments_of rounds
  pub handed : b.news ≡ news_behind a.news rounds
  pub salts : b.salts ≡ salts_behind a.salts rounds
  pub told : b.told ≡ a.told ++ told_in rounds
  pub ends : EndsAt turns rounds end

-- one round less, or none if none is left
abbrev pub one_less : Option ℕ → Option (Option ℕ)
one_less None = Some None
one_less (Some zero) = None
one_less (Some (suc left)) = Some (Some left)

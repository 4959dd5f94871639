-- Rounds that were made so far.
use Rattle.std.proofs.Common.{◌≡◌, ◌∙◌, ℕ, zero, suc, Bool, true, false, cond, nat_le, List, [], ◌∷◌, length, Option, Some, None, ◌⊎◌, ◌++◌, inl, inr, refl, ap, sym, subst, append_assoc, arith}
use Rattle.std.proofs.lemmas.List.{append-nil}
use Rattle.rand_chacha.specs.ChaCha.{ChaCha}
use Rattle.live.specs.News.{with_news}
use Rattle.live.specs.Reports.{event_report, troubles}
use Rattle.live.specs.Rounds.{Rounds, TableAt, end_after, is_behind, max_in_a_row, salts_after, streaks_after}
use Rattle.live.specs.Salts.{behind_salts, salt_at}
use Rattle.live.specs.Serving.{AreLeft, AreWithin, Course, EndsAt, GoOn, Leads, Made, RoundAt, events_after, events_in, Served, moments_of, news_behind, none_failed, one_less, salts_behind, streaks_of, told_in, told_of}
use Rattle.live.specs.Traces.{LivesUntil}
use Rattle.live.specs.Turns.{HasTable}
use Rattle.live.proofs.TraceLaws.{Went, StandLaws, lives_on, none_went, round_more}
use Rattle.live.specs.declared.news.News.{News}
use Rattle.live.specs.declared.report.Report.{Report}
use Rattle.live.specs.declared.report.Report.TheVariants.{Asked}
use Rattle.live.specs.declared.round.Round.{Round}
use Rattle.live.specs.declared.round.Round.TheVariants.{Fired, Heard, Took, Waited, Failed}
use Rattle.live.specs.declared.streaks.Streaks.{Streaks}
use Rattle.live.specs.declared.streaks.End.{End}
use Rattle.live.specs.declared.streaks.End.TheVariants.{Turns, Stopped, Socket, Memory}

-- these rounds were made, none of them was the last, and `left` are left
pub record Going (a b : Course) (turns left : Option ℕ) (streaks : Streaks) : Type 0 where
  pub rounds : List RoundAt
  pub made : Made a.salts a.state rounds b.state
  pub moments : b.moments ≡ a.moments ++ moments_of rounds
  pub handed : b.news ≡ news_behind a.news rounds
  pub salts : b.salts ≡ salts_behind a.salts rounds
  pub told : b.told ≡ a.told ++ told_in rounds
  pub go_on : GoOn rounds
  pub are_left : AreLeft turns (length rounds) left
  pub counts : streaks ≡ streaks_of rounds
  pub went : Went a.state b.state

all_left : (turns : Option ℕ) → AreLeft turns 0 turns
all_left None = refl
all_left (Some turns) = omega (arith)

pub none_made : (a : Course) (turns : Option ℕ) → Going a a turns turns none_failed
none_made a turns = record { rounds = []; made = refl; moments = sym (append-nil a.moments); handed = refl; salts = refl; told = sym (append-nil a.told); go_on = tt; are_left = all_left turns; counts = refl; went = none_went a.state }

-- ---- how many are left

one_left : (turns left next : Option ℕ) (made : ℕ) → AreLeft turns made left → one_less left ≡ Some next → AreLeft turns (suc made) next
one_left None None next made h e = sym (cc)
one_left None (Some left) next made h e = absurd (cc)
one_left (Some turns) None next made h e = absurd h
one_left (Some turns) (Some zero) next made h e = absurd (cc)
one_left (Some turns) (Some (suc left)) None made h e = absurd (cc)
one_left (Some turns) (Some (suc left)) (Some next) made h e =
    let same : left ≡ next = cc in
    omega (arith, h, same)

none_left : (turns left : Option ℕ) (made : ℕ) → AreLeft turns made left → one_less left ≡ None → turns ≡ Some made
none_left None None made h e = absurd (cc)
none_left None (Some left) made h e = absurd (cc)
none_left (Some turns) None made h e = absurd h
none_left (Some turns) (Some zero) made h e =
    let all : turns ≡ made = omega (arith, h) in
    ap Some all
none_left (Some turns) (Some (suc left)) made h e = absurd (cc)

are_within : (turns left : Option ℕ) (made : ℕ) → AreLeft turns made left → AreWithin turns made
are_within None left made h = tt
are_within (Some turns) None made h = absurd h
are_within (Some turns) (Some left) made h = omega (arith, h)

-- ---- the end

pub was_stopped : (a b : Course) (turns left : Option ℕ) (streaks : Streaks) → Going a b turns left streaks → Served a b turns Stopped
was_stopped a b turns left streaks h =
    record { rounds = h.rounds; made = h.made; moments = h.moments; handed = h.handed; salts = h.salts; told = h.told; ends = (are_within turns left (length h.rounds) h.are_left, h.go_on) }

pub made_all : (a b : Course) (turns left : Option ℕ) (streaks : Streaks) → Going a b turns left streaks → one_less left ≡ None → Served a b turns Turns
made_all a b turns left streaks h e =
    record { rounds = h.rounds; made = h.made; moments = h.moments; handed = h.handed; salts = h.salts; told = h.told; ends = (none_left turns left (length h.rounds) h.are_left e, h.go_on) }

-- what ends the signalling after a round is a socket or memory
end_cases : (b c d : Bool) (end : End) → cond b (Some Memory) (cond c (Some Socket) (cond d (Some Memory) None)) ≡ Some end → (end ≡ Socket) ⊎ (end ≡ Memory)
end_cases true c d end e = inr (cc)
end_cases false true d end e = inl (cc)
end_cases false false true end e = inr (cc)
end_cases false false false end e = absurd (cc)

ends_by : (turns : Option ℕ) (x : RoundAt) (before : List RoundAt) (end : End) → (end ≡ Socket) ⊎ (end ≡ Memory) → AreWithin turns (length (x ∷ before)) → end_after (streaks_of (x ∷ before)) x.round ≡ Some end → GoOn before
    → EndsAt turns (x ∷ before) end
ends_by turns x before Socket which within e go_on = (within, (e, go_on))
ends_by turns x before Memory which within e go_on = (within, (e, go_on))
ends_by turns x before Turns (inl which) within e go_on = absurd (cc)
ends_by turns x before Turns (inr which) within e go_on = absurd (cc)
ends_by turns x before Stopped (inl which) within e go_on = absurd (cc)
ends_by turns x before Stopped (inr which) within e go_on = absurd (cc)

-- ---- one round more

-- what the operator was told of a round, as one list
parts_told : (told : List Report) (streaks after : Streaks) (x : RoundAt) → after ≡ streaks_after streaks x.round
    → ((told ++ Asked x.now ∷ []) ++ troubles streaks after) ++ event_report x.agent x.round x.now ∷ [] ≡ told ++ told_of streaks x
parts_told told streaks after x counted =
    let of_trouble : List Report = troubles streaks (streaks_after streaks x.round) in
    let of_event : List Report = event_report x.agent x.round x.now ∷ [] in
    ap (λ (y : Streaks). ((told ++ Asked x.now ∷ []) ++ troubles streaks y) ++ of_event) counted ∙ append_assoc (told ++ Asked x.now ∷ []) of_trouble of_event
    ∙ append_assoc told (Asked x.now ∷ []) (of_trouble ++ of_event)

count_more : (rounds : List RoundAt) (x : RoundAt) (streaks after : Streaks) → streaks ≡ streaks_of rounds → after ≡ streaks_after streaks x.round → after ≡ streaks_of (x ∷ rounds)
count_more rounds x streaks after counts next = next ∙ ap (λ (y : Streaks). streaks_after y x.round) counts

-- what a course has once these rounds were made, whether or not the last of them ends it
record Lead (a c : Course) (rounds : List RoundAt) : Type 0 where
  pub made : Made a.salts a.state rounds c.state
  pub moments : c.moments ≡ a.moments ++ moments_of rounds
  pub handed : c.news ≡ news_behind a.news rounds
  pub salts : c.salts ≡ salts_behind a.salts rounds
  pub told : c.told ≡ a.told ++ told_in rounds

-- the board has what the agent has
front_cases : (b : Bool) (rest : Option End) → cond b (Some Memory) rest ≡ None → b ≡ false
front_cases true rest e = absurd (cc)
front_cases false rest e = refl

is_in_front : (x : Streaks) (round : Round) → end_after x round ≡ None → is_behind round ≡ false
is_in_front x round e = front_cases (is_behind round) _ e

salts_more : (g : ChaCha) (n : ℕ) (round : Round) → salts_after (behind_salts g n) round ≡ behind_salts g (events_after n round)
salts_more g n (Fired turned) = refl
salts_more g n (Heard turned) = refl
salts_more g n (Took source turned) = refl
salts_more g n Waited = refl
salts_more g n Failed = refl

lead_more : (a b c : Course) (turns left : Option ℕ) (streaks after : Streaks) (round : Round) (h : Going a b turns left streaks) (leads : Leads streaks after b c round) → after ≡ streaks_after streaks round
    → Lead a c (record { now = leads.now; news = leads.news; round = round; agent = c.state.agent } ∷ h.rounds)
lead_more a b c turns left streaks after round h leads counted =
    let x : RoundAt = record { now = leads.now; news = leads.news; round = round; agent = c.state.agent } in
    record {
      made = (b.state, h.made, refl, subst (λ (g : ChaCha). Rounds leads.now (salt_at g) leads.news b.state c.state round) h.salts leads.made);
      moments = leads.given ∙ ap (λ (l : List ℕ). l ++ leads.now ∷ []) h.moments ∙ append_assoc a.moments (moments_of h.rounds) (leads.now ∷ []);
      handed = leads.handed ∙ ap (λ (l : List News). with_news l leads.news) h.handed;
      salts = leads.salts ∙ ap (λ (g : ChaCha). salts_after g round) h.salts ∙ salts_more a.salts (events_in h.rounds) round;
      told = leads.told ∙ parts_told b.told streaks after x counted ∙ ap (λ (y : Streaks). b.told ++ told_of y x) h.counts ∙ ap (λ (l : List Report). l ++ told_of (streaks_of h.rounds) x) h.told
          ∙ append_assoc a.told (told_in h.rounds) (told_of (streaks_of h.rounds) x);
    }

pub one_more_made : (a b c : Course) (turns left next : Option ℕ) (streaks after : Streaks) (round : Round) → Going a b turns left streaks
    → one_less left ≡ Some next → Leads streaks after b c round → after ≡ streaks_after streaks round → end_after after round ≡ None → Going a c turns next after
one_more_made a b c turns left next streaks after round h less leads counted goes_on =
    let x : RoundAt = record { now = leads.now; news = leads.news; round = round; agent = c.state.agent } in
    let counts = count_more h.rounds x streaks after h.counts counted in
    let lead = lead_more a b c turns left streaks after round h leads counted in
    record {
      rounds = x ∷ h.rounds;
      made = lead.made;
      moments = lead.moments;
      handed = lead.handed;
      salts = lead.salts;
      told = lead.told;
      go_on = (subst (λ (y : Streaks). end_after y round ≡ None) counts goes_on, h.go_on);
      are_left = one_left turns left next (length h.rounds) h.are_left less;
      counts = counts;
      went = round_more leads.now (salt_at b.salts) leads.news a.state b.state c.state round h.went leads.made (is_in_front after round goes_on);
    }

pub ended : (a b c : Course) (turns left next : Option ℕ) (streaks after : Streaks) (round : Round) (end : End) → Going a b turns left streaks
    → one_less left ≡ Some next → Leads streaks after b c round → after ≡ streaks_after streaks round → end_after after round ≡ Some end → Served a c turns end
ended a b c turns left next streaks after round end h less leads counted ends =
    let x : RoundAt = record { now = leads.now; news = leads.news; round = round; agent = c.state.agent } in
    let counts = count_more h.rounds x streaks after h.counts counted in
    let lead = lead_more a b c turns left streaks after round h leads counted in
    let ends_there = subst (λ (y : Streaks). end_after y round ≡ Some end) counts ends in
    let within = are_within turns next (length (x ∷ h.rounds)) (one_left turns left next (length h.rounds) h.are_left less) in
    record {
      rounds = x ∷ h.rounds;
      made = lead.made;
      moments = lead.moments;
      handed = lead.handed;
      salts = lead.salts;
      told = lead.told;
      ends = ends_by turns x h.rounds end (end_cases (is_behind round) (nat_le max_in_a_row after.failed) (nat_le max_in_a_row after.lost) end ends) within ends_there h.go_on;
    }

-- ---- the trace of what happened

socket_cases : (b : Bool) (rest : Option End) → cond b (Some Memory) rest ≡ Some Socket → b ≡ false
socket_cases true rest e = absurd (cc)
socket_cases false rest e = refl

one_of : {end : End} → (end ≡ Socket) ⊎ (end ≡ Memory) → (end ≡ Socket → ⊥) → (end ≡ Memory → ⊥) → ⊥
one_of (inl h) not_socket not_memory = not_socket h
one_of (inr h) not_socket not_memory = not_memory h

neither : (b c d : Bool) (end : End) → cond b (Some Memory) (cond c (Some Socket) (cond d (Some Memory) None)) ≡ Some end → (end ≡ Socket → ⊥) → (end ≡ Memory → ⊥) → ⊥
neither b c d end e not_socket not_memory = one_of (end_cases b c d end e) not_socket not_memory

-- it lives on after a round that left the board with what the agent has; if memory ended it, it lived until its last
-- round
pub lives_at : (laws : StandLaws) (a b c : Course) (turns left : Option ℕ) (streaks after : Streaks) (round : Round) (end : End) → Going a b turns left streaks → Leads streaks after b c round → end_after after round ≡ Some end
    → HasTable b.state.lists b.state.agent → TableAt c.state.lists c.state.agent end → LivesUntil a.state c.state end
lives_at laws a b c turns left streaks after round Socket h leads e before table =
    lives_on laws a.state c.state (round_more leads.now (salt_at b.salts) leads.news a.state b.state c.state round h.went leads.made (socket_cases (is_behind round) _ e)) table
lives_at laws a b c turns left streaks after round Memory h leads e before table =
    record { mid = b.state; lives = lives_on laws a.state b.state h.went before; now = leads.now; salt = salt_at b.salts; news = leads.news; round = round; last = leads.made }
lives_at laws a b c turns left streaks after round Turns h leads e before table = absurd (neither (is_behind round) (nat_le max_in_a_row after.failed) (nat_le max_in_a_row after.lost) Turns e (λ q. cc) (λ q. cc))
lives_at laws a b c turns left streaks after round Stopped h leads e before table = absurd (neither (is_behind round) (nat_le max_in_a_row after.failed) (nat_le max_in_a_row after.lost) Stopped e (λ q. cc) (λ q. cc))

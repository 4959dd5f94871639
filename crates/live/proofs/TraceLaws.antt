-- What happened so far, and one round more.
use Rattle.std.proofs.Common.{◌≡◌, ◌∙◌, ℕ, ◌+◌, false, List, [], ◌∷◌, ◌++◌, length, Option, Some, None, refl, ap, sym, subst, append_assoc}
use Rattle.std.proofs.lemmas.List.{append-nil}
use Rattle.std.proofs.lemmas.List.Elements.{All-append, All-cons, All-nil, All-push}
use Rattle.std.specs.List.{All}
use Rattle.sip_uri.specs.declared.uri.Addr.{Addr}
use Rattle.call_trace.specs.declared.datagram.Datagram.{Datagram}
use Rattle.events.specs.declared.event.Event.{Event}
use Rattle.events.specs.declared.event.What.TheVariants.{Due}
use Rattle.events.specs.declared.sent.Sent.{Sent}
use Rattle.plans.specs.declared.taken.Taken.{Taken}
use Rattle.port_pool.specs.RelayTable.{Rows}
use Rattle.event_rows.specs.Rows.{row}
use Rattle.event_rows.specs.State.{Contents, office}
use Rattle.event_rows.specs.Trace.{AreEntries, Entry, after_entries, after_entry}
use Rattle.message_laws.specs.Datagrams.{EntersFromSource, IsNoDatagram}
use Rattle.message_laws.specs.Knowledge.{sends_of}
use Rattle.message_laws.specs.Traces.{AreTrace}
use Rattle.media_laws.specs.Keeping.{HasPromisedCalls, RelaysLive}
use Rattle.media_laws.specs.Living.{ListsLive}
use Rattle.media_laws.specs.Standing.{AgentStands}
use Rattle.live.specs.Arrivals.{Arrival, comes}
use Rattle.live.specs.News.{what_of}
use Rattle.live.specs.Rounds.{Fires, Hears, Rests, Rounds, Takes, event, is_behind, is_behind_turn}
use Rattle.live.specs.Sending.{Tried}
use Rattle.live.specs.States.{State}
use Rattle.live.specs.Traces.{Happening, Happens, IsHappening, IsOf, KeepsLive, LivesOn, arrivals_of, entries_of, with_first}
use Rattle.live.specs.Turns.{Carries, HasTable}
use Rattle.live.specs.declared.news.News.{News}
use Rattle.live.specs.declared.news.News.TheVariants.{Silent, Users}
use Rattle.live.specs.declared.round.Round.{Round}
use Rattle.live.specs.declared.round.Round.TheVariants.{Fired, Heard, Took, Waited, Failed}
use Rattle.live.specs.declared.turn.Turned.{Turned}
use Rattle.live.specs.declared.turn.Turned.TheVariants.{Done, Lost, Behind}

-- ---- one happening after others

first_more : {T : Type 0} (x : Option T) (xs ys : List T) → with_first x (xs ++ ys) ≡ with_first x xs ++ ys
first_more None xs ys = refl
first_more (Some x) xs ys = refl

arrivals_more : (hs ks : List Happening) → arrivals_of (hs ++ ks) ≡ arrivals_of hs ++ arrivals_of ks
arrivals_more [] ks = refl
arrivals_more (h ∷ hs) ks = ap (with_first h.arrival) (arrivals_more hs ks) ∙ first_more h.arrival (arrivals_of hs) (arrivals_of ks)

entries_more : (hs ks : List Happening) → entries_of (hs ++ ks) ≡ entries_of hs ++ entries_of ks
entries_more [] ks = refl
entries_more (h ∷ hs) ks = ap (with_first h.entry) (entries_more hs ks) ∙ first_more h.entry (entries_of hs) (entries_of ks)

sends_more : (xs ys : List Entry) → sends_of (xs ++ ys) ≡ sends_of xs ++ sends_of ys
sends_more [] ys = refl
sends_more (x ∷ xs) ys = ap (λ (l : List Sent). x.sends ++ l) (sends_more xs ys) ∙ sym (append_assoc x.sends (sends_of xs) (sends_of ys))

are_entries_more : (s : Contents) (xs ys : List Entry) → AreEntries s xs → AreEntries (after_entries s xs) ys → AreEntries s (xs ++ ys)
are_entries_more s [] ys h k = k
are_entries_more s (x ∷ xs) ys h k = (h.0, are_entries_more (after_entry s x) xs ys h.1 k)

after_more : (s : Contents) (xs ys : List Entry) → after_entries s (xs ++ ys) ≡ after_entries (after_entries s xs) ys
after_more s [] ys = refl
after_more s (x ∷ xs) ys = after_more (after_entry s x) xs ys

-- nothing
pub none_happened : (a : State) → Happens a a []
none_happened a = record { each = All-nil IsHappening; taken = sym (append-nil a.wire.taken); asked = sym (append-nil a.wire.tried.asked); entries = tt; sources = All-nil EntersFromSource; agent = refl }

-- a state with the same agent, whose wire took and was asked to send the same
same_happened : (a b c : State) (hs : List Happening) → Happens a b hs → c.agent ≡ b.agent → c.wire.taken ≡ b.wire.taken → c.wire.tried ≡ b.wire.tried → Happens a c hs
same_happened a b c hs h agent taken tried = record {
  each = h.each;
  taken = taken ∙ h.taken;
  asked = ap (λ (t : Tried). t.asked) tried ∙ h.asked;
  entries = h.entries;
  sources = h.sources;
  agent = agent ∙ h.agent;
}

-- ---- one more

-- it came, if it came, and its entry, if it has one, is the agent's
record Comes (b c : State) (h : Happening) : Type 0 where
  pub of : IsHappening h
  pub taken : c.wire.taken ≡ b.wire.taken ++ arrivals_of (h ∷ [])
  pub asked : c.wire.tried.asked ≡ b.wire.tried.asked ++ sends_of (entries_of (h ∷ []))
  pub entries : AreEntries b.agent (entries_of (h ∷ []))
  pub sources : All EntersFromSource (entries_of (h ∷ []))
  pub agent : c.agent ≡ after_entries b.agent (entries_of (h ∷ []))

one_more : (a b c : State) (hs : List Happening) (x : Happening) → Happens a b hs → Comes b c x → Happens a c (hs ++ x ∷ [])
one_more a b c hs x h k =
    let more : entries_of (hs ++ x ∷ []) ≡ entries_of hs ++ entries_of (x ∷ []) = entries_more hs (x ∷ []) in
    record {
      each = All-push IsHappening hs x h.each k.of;
      taken = k.taken ∙ ap (λ (l : List Arrival). l ++ arrivals_of (x ∷ [])) h.taken ∙ append_assoc a.wire.taken (arrivals_of hs) (arrivals_of (x ∷ [])) ∙ ap (λ (l : List Arrival). a.wire.taken ++ l) (sym (arrivals_more hs (x ∷ [])));
      asked = k.asked ∙ ap (λ (l : List Sent). l ++ sends_of (entries_of (x ∷ []))) h.asked ∙ append_assoc a.wire.tried.asked (sends_of (entries_of hs)) (sends_of (entries_of (x ∷ [])))
          ∙ ap (λ (l : List Sent). a.wire.tried.asked ++ l) (sym (sends_more (entries_of hs) (entries_of (x ∷ []))) ∙ ap sends_of (sym more));
      entries = subst (AreEntries a.agent) (sym more)
          (are_entries_more a.agent (entries_of hs) (entries_of (x ∷ [])) h.entries (subst (λ (s : Contents). AreEntries s (entries_of (x ∷ []))) h.agent k.entries));
      sources = subst (All EntersFromSource) (sym more) (All-append EntersFromSource (entries_of hs) (entries_of (x ∷ [])) h.sources k.sources);
      agent = k.agent ∙ ap (λ (s : Contents). after_entries s (entries_of (x ∷ []))) h.agent ∙ sym (after_more a.agent (entries_of hs) (entries_of (x ∷ []))) ∙ ap (after_entries a.agent) (sym more);
    }

-- ---- what happens in a round

-- the entry of an event that the agent took
abbrev entry_of : Event → State → Taken → Entry
entry_of e b taken = record { event = e; answer = Some taken; sends = (row b.agent e).plan.sends }

carried : (e : Event) (b c : State) (taken : Taken) (failed : ℕ) (arrival : Option Arrival) → Carries e b c taken failed → IsOf arrival (Some (entry_of e b taken)) → c.wire.taken ≡ b.wire.taken ++ with_first arrival []
    → Comes b c (record { arrival = arrival; entry = Some (entry_of e b taken) })
carried e b c taken failed arrival h of took = record {
  of = of;
  taken = took;
  asked = h.wire.asked ∙ ap (λ (l : List Sent). b.wire.tried.asked ++ l) (sym (append-nil (row b.agent e).plan.sends));
  entries = (record { answer = h.answer; sends = refl }, tt);
  sources = All-cons EntersFromSource (entry_of e b taken) [] h.source (All-nil EntersFromSource);
  agent = h.agent;
}

lost : (b c : State) (d : Arrival) → c.agent ≡ b.agent → c.wire.tried ≡ b.wire.tried → c.wire.taken ≡ b.wire.taken ++ d ∷ [] → Comes b c (record { arrival = Some d; entry = None })
lost b c d agent tried taken = record {
  of = tt;
  taken = taken;
  asked = ap (λ (t : Tried). t.asked) tried ∙ sym (append-nil b.wire.tried.asked);
  entries = tt;
  sources = All-nil EntersFromSource;
  agent = agent;
}

-- what happened, with what a round adds
pub record Went (a c : State) : Type 0 where
  pub happenings : List Happening
  pub happens : Happens a c happenings

fired_more : (now salt : ℕ) (a b c : State) (turned : Turned) (hs : List Happening) → Happens a b hs → Fires now salt b c turned → is_behind_turn turned ≡ false → Went a c
fired_more now salt a b c (Done taken failed) hs h k front =
    record { happenings = hs ++ _; happens = one_more a b c hs _ h (carried (event now salt Due) b c taken failed None k.turns tt (k.wire.taken ∙ sym (append-nil b.wire.taken))) }
fired_more now salt a b c Lost hs h k front = record { happenings = hs; happens = same_happened a b c hs h k.turns.0 k.wire.taken k.turns.1.wire }
fired_more now salt a b c Behind hs h k front = absurd (cc)

no_datagram : (news : News) → IsNoDatagram (what_of news)
no_datagram (Silent number) = tt
no_datagram (Users users) = tt

heard_more : (now salt : ℕ) (news : News) (a b c : State) (turned : Turned) (hs : List Happening) → Happens a b hs → Hears now salt news b c turned → is_behind_turn turned ≡ false → Went a c
heard_more now salt news a b c (Done taken failed) hs h k front = record {
  happenings = hs ++ _;
  happens = one_more a b c hs _ h (carried (event now salt (what_of news)) b c taken failed None k.turns (no_datagram news) (k.wire.taken ∙ sym (append-nil b.wire.taken)));
}
heard_more now salt news a b c Lost hs h k front = record { happenings = hs; happens = same_happened a b c hs h k.turns.0 k.wire.taken k.turns.1.wire }
heard_more now salt news a b c Behind hs h k front = absurd (cc)

taken_more : (now salt : ℕ) (source : Addr) (a b c : State) (turned : Turned) (hs : List Happening) → Happens a b hs → Takes now salt source b c turned → is_behind_turn turned ≡ false → Went a c
taken_more now salt source a b c (Done taken failed) hs h k front =
    record { happenings = hs ++ _; happens = one_more a b c hs _ h (carried (event now salt (comes k.arrival)) b c taken failed (Some k.arrival) k.turns refl k.taken) }
taken_more now salt source a b c Lost hs h k front = record { happenings = hs ++ _; happens = one_more a b c hs _ h (lost b c k.arrival k.turns.0 k.turns.1.wire k.taken) }
taken_more now salt source a b c Behind hs h k front = absurd (cc)

rests_more : (a b c : State) (hs : List Happening) → Happens a b hs → Rests b c → Went a c
rests_more a b c hs h k = record { happenings = hs; happens = same_happened a b c hs h k.agent k.taken k.tried }

pub round_more : (now salt : ℕ) (news : Option News) (a b c : State) (round : Round) → Went a b → Rounds now salt news b c round → is_behind round ≡ false → Went a c
round_more now salt None a b c (Fired turned) h k front = fired_more now salt a b c turned h.happenings h.happens k front
round_more now salt None a b c (Heard turned) h k front = absurd k
round_more now salt None a b c (Took source turned) h k front = taken_more now salt source a b c turned h.happenings h.happens k front
round_more now salt None a b c Waited h k front = rests_more a b c h.happenings h.happens k.rests
round_more now salt None a b c Failed h k front = rests_more a b c h.happenings h.happens k.rests
round_more now salt (Some news) a b c (Heard turned) h k front = heard_more now salt news a b c turned h.happenings h.happens k front
round_more now salt (Some news) a b c (Fired turned) h k front = absurd k
round_more now salt (Some news) a b c (Took source turned) h k front = absurd k
round_more now salt (Some news) a b c Waited h k front = absurd k
round_more now salt (Some news) a b c Failed h k front = absurd k

pub none_went : (a : State) → Went a a
none_went a = record { happenings = []; happens = none_happened a }

-- ---- what the agent's invariant gives

-- the laws of agents whose invariant holds after a trace
pub record StandLaws : Type 0 where
  pub entries : (s : Contents) (entries : List Entry) (t rest : List Datagram) (k : ℕ) → AgentStands s t k → AreEntries s entries → All EntersFromSource entries → AreTrace k entries rest
      → AgentStands (after_entries s entries) (t ++ rest) (k + length entries)
  pub traced : (s : Contents) (entries : List Entry) (t : List Datagram) (k : ℕ) → AgentStands s t k → AreEntries s entries → All EntersFromSource entries → (rest : List Datagram) × AreTrace k entries rest
  pub promised : (s : Contents) (t : List Datagram) (k : ℕ) → AgentStands s t k → HasPromisedCalls (office s) t k
  pub relays : (s : Contents) (t : List Datagram) (k : ℕ) → AgentStands s t k → RelaysLive s.range.ip s.calls.pool.rows t
  pub lives : (s : Contents) (t : List Datagram) (k : ℕ) → AgentStands s t k → ListsLive s.calls.calls t

keeps_live : (laws : StandLaws) (b : State) (t : List Datagram) (k : ℕ) → HasTable b.lists b.agent → AgentStands b.agent t k → KeepsLive b t k
keeps_live laws b t k table stands = record {
  stands = stands;
  promised = laws.promised b.agent t k stands;
  relays = subst (λ (rows : Rows). RelaysLive b.agent.range.ip rows t) (sym table) (laws.relays b.agent t k stands);
  lives = laws.lives b.agent t k stands;
}

pub lives_on : (laws : StandLaws) (a b : State) → Went a b → HasTable b.lists b.agent → LivesOn a b
lives_on laws a b w table = record {
  happenings = w.happenings;
  happens = w.happens;
  keeps = λ t k stands. record {
    trace = laws.traced a.agent (entries_of w.happenings) t k stands w.happens.entries w.happens.sources;
    keeps = λ rest are. keeps_live laws b (t ++ rest) (k + length (entries_of w.happenings)) table
        (subst (λ (s : Contents). AgentStands s (t ++ rest) (k + length (entries_of w.happenings))) (sym w.happens.agent)
        (laws.entries a.agent (entries_of w.happenings) t rest k stands w.happens.entries w.happens.sources are));
  };
}

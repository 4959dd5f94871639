-- What is kept after any entries of a new agent.
use Rattle.std.proofs.Common.{◌≡◌, ◌∙◌, ℕ, suc, ◌+◌, List, [], ◌∷◌, ◌++◌, length, Option, Some, None, ap, refl, sym, subst, arith}
use Rattle.std.specs.List.{All}
use Rattle.std.proofs.lemmas.List.{append_assoc}
use Rattle.std.proofs.lemmas.List.Elements.{All-head, All-tail}
use Rattle.event_rows.specs.Rows.{after, moment_after, only_counts, row}
use Rattle.event_rows.specs.State.{Contents, after_event, office}
use Rattle.event_rows.specs.Trace.{AreEntries, Entry, IsEntryWith, after_answer, after_entries, after_entry}
use Rattle.call_trace.specs.declared.call.Call.{Call}
use Rattle.call_trace.specs.declared.datagram.Datagram.{Datagram}
use Rattle.call_trace.specs.declared.datagram.Message.{Message}
use Rattle.call_trace.specs.Events.{passed}
use Rattle.events.specs.declared.event.Event.{Event}
use Rattle.events.specs.declared.event.What.{What}
use Rattle.events.specs.declared.event.What.TheVariants as whats
use Rattle.events.specs.declared.sent.Sent.{Sent}
use Rattle.plans.specs.CallRows.{of_plan}
use Rattle.plans.specs.Effect.{Effect}
use Rattle.plans.specs.Office.{Office}
use Rattle.plans.specs.Plan.{nothing}
use Rattle.plans.specs.Note.{note_of_taken}
use Rattle.plans.specs.declared.taken.Taken.{Taken}
use Rattle.plans.specs.declared.taken.Taken.TheVariants.{Done, Dropped, Idle, Shed}
use Rattle.message_laws.specs.Datagrams.{ComesFromSource, EntersFromSource}
use Rattle.message_laws.specs.Knowledge.{sends_of}
use Rattle.message_laws.specs.Numbers.{begun_at, begun_in, begun_of}
use Rattle.message_laws.proofs.TokenUse.Events.{few_tokens}
use Rattle.message_laws.specs.Messages.{AreMessages}
use Rattle.calls.specs.State.{Standing}
use Rattle.event_rows.specs.Lifetimes.{with_lifetime}
use Rattle.message_laws.proofs.Messages.Lifetimes.{same_calls}
use Rattle.message_laws.specs.Traces.{AreTrace, IsPassed, IsShownWith, IsTaken}
use Rattle.transactions.specs.declared.transaction.Transaction.{Transaction}
use Rattle.media_laws.specs.Standing.{IsUpheld, UpholdsCalls}
use Rattle.media_laws.proofs.WholePromise.Invariant.{EventsAreMoves}
use Rattle.media_laws.proofs.WholePromise.Counted.{counted_done, counted_row}
use Rattle.media_laws.proofs.WholePromise.Invariant.{event_upheld, idle_upheld, same_upheld}
use Rattle.media_laws.proofs.WholePromise.Knowing.{Laws}

-- ---- what shows nothing

none_passed : (k : ℕ) (taken : Option Message) (ms : List Message) → taken ≡ None → ms ≡ [] → passed k taken ms ≡ []
none_passed k taken ms none nothing = subst (λ o. passed k o ms ≡ []) (sym none) (subst (λ xs. passed k None xs ≡ []) (sym nothing) refl)

none_went : (ms : List Message) → AreMessages [] ms → ms ≡ []
none_went [] h = refl
none_went (m ∷ ms) h = absurd h

none_taken : (what : What) (why : Taken) (taken : Option Message) → (why ≡ Done → ⊥) → IsTaken what why taken → taken ≡ None
none_taken (whats.Datagram source bytes) Done taken other h = absurd (other refl)
none_taken (whats.Datagram source bytes) (Dropped why) taken other h = h
none_taken (whats.Datagram source bytes) Shed taken other h = h
none_taken (whats.Datagram source bytes) Idle taken other h = h
none_taken whats.Due why taken other h = h
none_taken (whats.Silent number) why taken other h = h
none_taken (whats.Users users) why taken other h = h

abbrev with_calls : Contents → Standing → ℕ → Office
with_calls s calls made = record {
  registrar = s.registrar;
  table = s.table;
  calls = calls;
  acks = s.acks;
  server = s.server;
  range = s.range;
  least = s.least;
  tokens = made;
}

same_tokens : (s : Contents) → s.tokens + 0 ≡ s.tokens
same_tokens s = omega arith

-- what has no effect leaves the agent as it was, except for the moment and the tally
same_office : (s : Contents) (now : ℕ) (why : Taken) → office (after_event s now (of_plan (office s) (nothing why))) ≡ office s
unfolding after_event
same_office s now why =
    ap (with_calls s (with_lifetime s.lifetime now (note_of_taken why) s.calls)) (same_tokens s) ∙ ap (λ (calls : Standing). with_calls s calls s.tokens) (same_calls s.lifetime now why s.calls)

-- ---- an event

module _ (laws : Laws) (law : EventsAreMoves) (s : Contents) (e : Event) (begun : List Transaction) (sent : List Sent) (t : List Datagram) (calls : List Call) (k : ℕ) (h : IsUpheld (office s) begun sent t calls k) (from : ComesFromSource e.what) where
  -- one that is only counted leaves all as it was
  counted_upheld : (now : ℕ) (why : Taken) (x : Effect) (taken : Option Message) (ms : List Message) → (why ≡ Done → ⊥) → x ≡ of_plan (office s) (nothing why) → IsPassed e.what x.plan.taken x.plan.sends taken ms
      → UpholdsCalls (office (after_event s now x)) (begun ++ begun_of x.plan.changes) (sent ++ x.plan.sends) (t ++ passed k taken ms) (suc k)
  counted_upheld now why x taken ms other is shows =
      let took : IsTaken e.what why taken = subst (λ (y : Effect). IsTaken e.what y.plan.taken taken) is shows.took in
      let went : AreMessages [] ms = subst (λ (y : Effect). AreMessages y.plan.sends ms) is shows.went in (
        calls,
        same_upheld (office s) (office (after_event s now x)) begun (begun_of x.plan.changes) sent x.plan.sends t (passed k taken ms) calls (suc k)
            (ap (λ y. office (after_event s now y)) is ∙ same_office s now why) (ap (λ (y : Effect). begun_of y.plan.changes) is) (ap (λ (y : Effect). y.plan.sends) is)
            (none_passed k taken ms (none_taken e.what why taken other took) (none_went ms went)) (idle_upheld laws (office s) begun sent t calls k h),
      )

  event_by : (why : Option Taken) → only_counts s e ≡ why → (taken : Option Message) (ms : List Message) → IsPassed e.what (row s e).plan.taken (row s e).plan.sends taken ms
      → UpholdsCalls (office (after s e)) (begun ++ begun_of (row s e).plan.changes) (sent ++ (row s e).plan.sends) (t ++ passed k taken ms) (suc k)
  event_by None is taken ms shows = event_upheld laws s begun sent t calls k h (few_tokens s e is) e from taken ms shows law
  event_by (Some why) is taken ms shows = counted_upheld (moment_after s e) why (row s e) taken ms (counted_done s e why is) (counted_row s e why is) shows

  pub one_event : (taken : Option Message) (ms : List Message) → IsPassed e.what (row s e).plan.taken (row s e).plan.sends taken ms
      → UpholdsCalls (office (after s e)) (begun ++ begun_of (row s e).plan.changes) (sent ++ (row s e).plan.sends) (t ++ passed k taken ms) (suc k)
  one_event taken ms shows = event_by (only_counts s e) refl taken ms shows

-- ---- an entry

pub one_entry : Laws → EventsAreMoves → (s : Contents) (x : Entry) (answer : Option Taken) (begun : List Transaction) (sent : List Sent) (t : List Datagram) (calls : List Call) (k : ℕ) (taken : Option Message) (ms : List Message)
    → IsEntryWith s x answer → EntersFromSource x → IsShownWith answer x.event.what x.sends taken ms → IsUpheld (office s) begun sent t calls k
    → UpholdsCalls (office (after_answer s x.event answer)) (begun ++ begun_at s x.event answer) (sent ++ x.sends) (t ++ passed k taken ms) (suc k)
one_entry laws law s x None begun sent t calls k taken ms lost from shown h =
    (calls, same_upheld (office s) (office s) begun [] sent x.sends t (passed k taken ms) calls (suc k) refl refl lost.sends (none_passed k taken ms shown.took shown.went) (idle_upheld laws (office s) begun sent t calls k h))
one_entry laws law s x (Some answer) begun sent t calls k taken ms is from shown h =
    let went : AreMessages (row s x.event).plan.sends ms = subst (λ xs. AreMessages xs ms) is.sends shown.went in
    let took : IsTaken x.event.what (row s x.event).plan.taken taken = subst (λ a. IsTaken x.event.what a taken) is.answer shown.took in
    subst (λ xs. UpholdsCalls (office (after s x.event)) (begun ++ begun_of (row s x.event).plan.changes) (sent ++ xs) (t ++ passed k taken ms) (suc k)) (sym is.sends)
    (one_event laws law s x.event begun sent t calls k h from taken ms (record { took = took; went = went }))

-- ---- a list of entries

joined : (s : Office) (b c d : List Transaction) (u v w : List Sent) (t p r rest : List Datagram) (k n m : ℕ) → rest ≡ p ++ r → n ≡ m → UpholdsCalls s ((b ++ c) ++ d) ((u ++ v) ++ w) ((t ++ p) ++ r) n
    → UpholdsCalls s (b ++ (c ++ d)) (u ++ (v ++ w)) (t ++ rest) m
joined s b c d u v w t p r rest k n m whole count h =
    subst (UpholdsCalls s (b ++ (c ++ d)) (u ++ (v ++ w)) (t ++ rest)) count
    (subst (λ xs. UpholdsCalls s (b ++ (c ++ d)) (u ++ (v ++ w)) xs n) (append_assoc t p r ∙ ap (λ (xs : List Datagram). t ++ xs) (sym whole))
    (subst (λ xs. UpholdsCalls s (b ++ (c ++ d)) xs ((t ++ p) ++ r) n) (append_assoc u v w) (subst (λ xs. UpholdsCalls s xs ((u ++ v) ++ w) ((t ++ p) ++ r) n) (append_assoc b c d) h)))

pub entries_upheld : Laws → EventsAreMoves → (s : Contents) (xs : List Entry) (begun : List Transaction) (sent : List Sent) (t rest : List Datagram) (calls : List Call) (k : ℕ) → AreEntries s xs → All EntersFromSource xs → AreTrace k xs rest
    → IsUpheld (office s) begun sent t calls k → UpholdsCalls (office (after_entries s xs)) (begun ++ begun_in s xs) (sent ++ sends_of xs) (t ++ rest) (k + length xs)
entries_upheld laws law s [] begun sent t rest calls k are from trace h =
    let same : k ≡ k + 0 = omega arith in
    subst (UpholdsCalls (office s) (begun ++ []) (sent ++ []) (t ++ rest)) same (calls, same_upheld (office s) (office s) begun [] sent [] t rest calls k refl refl refl trace h)
entries_upheld laws law s (x ∷ xs) begun sent t rest calls k are from trace h =
    let shows = trace.3 in
    let next = one_entry laws law s x x.answer begun sent t calls k trace.0 trace.1 are.0 (All-head EntersFromSource x xs from) shows.shown.shown h in
    let count : suc k + length xs ≡ k + suc (length xs) = omega arith in
    joined (office (after_entries (after_entry s x) xs)) begun (begun_at s x.event x.answer) (begun_in (after_entry s x) xs) sent x.sends (sends_of xs) t (passed k trace.0 trace.1) trace.2 rest k
    (suc k + length xs) (k + suc (length xs)) shows.whole count
    (entries_upheld laws law (after_entry s x) xs (begun ++ begun_at s x.event x.answer) (sent ++ x.sends) (t ++ passed k trace.0 trace.1) trace.2 next.0 (suc k) are.1 (All-tail EntersFromSource x xs from) trace.4 next.1)

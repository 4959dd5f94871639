-- Each timer that is set has a line, whatever is done.
use Rattle.std.proofs.Common.{◌≡◌, ◌≢◌, ℕ, ◌<◌, Bool, true, false, cond, not, ◌&&◌, ◌||◌, eqb, ◌+◌, List, [], ◌∷◌, ◌++◌, length, get_or, set, filter, find, Option, Some, None, option_map, is_some, nat_lt, refl, ap, sym, subst, ◌∙◌, inl, inr, arith}
use Rattle.std.specs.Prelude.{IfSome, IsSome}
use Rattle.std.specs.List.{All, list_all}
use Rattle.std.proofs.lemmas.Bool.{false≢true, and_parts, and_from, not-true, cases_eq, cond_both, eq-eqb, eqb-true}
use Rattle.std.proofs.lemmas.List.{get_or-set_other, get_or-set_same}
use Rattle.std.proofs.lemmas.List.Elements.{All-nil, All-cons, All-head, All-tail, All-filter, All-set, All-push, All-weaker, filter_passes}
use Rattle.std.proofs.lemmas.List.Sums.{AllPass-from_list_all}
use Rattle.timers.specs.declared.timers.Timer.{Timer}
use Rattle.timers.specs.Queue.{put, without, moment}
use Rattle.sip_uri.specs.declared.uri.Addr.{Addr}
use Rattle.sip_message.specs.declared.message.Parts.{Parts}
use Rattle.transaction_machines.specs.declared.input.Input.TheVariants as inputs
use Rattle.transaction_machines.specs.declared.input.TimerKind.{TimerKind}
use Rattle.transaction_machines.specs.declared.input.TimerKind.TheVariants.{A, B, D, E, F, G, H, I, J, K, L, M, N}
use Rattle.transactions.specs.declared.outcome.Fired.TheVariants as fires
use Rattle.transaction_machines.specs.declared.state.State.{State}
use Rattle.transaction_machines.specs.declared.step.Sending.{Sending}
use Rattle.transaction_machines.specs.declared.step.Sending.TheVariants.{Nothing, Again, Fresh}
use Rattle.transaction_machines.specs.declared.step.Told.{Told}
use Rattle.transaction_machines.specs.declared.step.Told.TheVariants.{Silent, Up, TimedOut, Ended}
use Rattle.transaction_machines.specs.declared.step.Start.{Start}
use Rattle.transaction_machines.specs.declared.step.Starts.{Starts}
use Rattle.transaction_machines.specs.declared.step.Starts.TheVariants as starts
use Rattle.transaction_machines.specs.declared.step.Stops.{Stops}
use Rattle.transaction_machines.specs.declared.step.Stops.TheVariants as stops
use Rattle.transaction_machines.specs.declared.step.Step.{Step}
use Rattle.index.specs.declared.print.PrintKey.{PrintKey}
use Rattle.transactions.specs.declared.rules.TableRules.{TableRules}
use Rattle.transactions.specs.declared.transaction.TimerId.{TimerId}
use Rattle.transactions.specs.declared.transaction.Transaction.{Transaction}
use Rattle.transaction_machines.specs.Machines.{row_of}
use Rattle.transactions.specs.Slots.{at, free_number}
use Rattle.transaction_machines.specs.Inputs.{place_of}
use Rattle.transactions.specs.Timing.{same_timer, timer_of, stopped_by, start, started}
use Rattle.transactions.specs.Transactions.{went, latest, outgoing, sent}
use Rattle.transactions.specs.Waiting.{begins_dialog, limited, starts_within}
use Rattle.transactions.specs.Contents.{Contents, opened, stepped, placed, placed_with, fired_by, fired_step, fired_of, has_come, is_due}
use Rattle.transaction_machines.specs.Lines.{has_line, repeats, every_kind, is_stopped, runs_on, starts_with_lines, stops_every, starts_none, follows_to, follows}
use Rattle.transactions.specs.Fireable.{has_line_at, has_sent, IsFireable}
use Rattle.transactions.proofs.LastingLaws.{within, placed_other, placed_own}
use Rattle.transaction_machines.proofs.RowLaws.{row_fires, fires_by}

abbrev HasLine : List (Option Transaction) → Timer TimerId → Type 0
HasLine slots timer = has_line_at (at slots timer.key.id) timer.key.kind ≡ true

-- ---- all kinds of timers

abbrev kind_at : ℕ → TimerKind
kind_at n = get_or every_kind n A

at_place : (kind : TimerKind) → (kind_at (place_of kind) ≡ kind) × (place_of kind < length every_kind)
at_place A = (refl, omega arith)
at_place B = (refl, omega arith)
at_place D = (refl, omega arith)
at_place E = (refl, omega arith)
at_place F = (refl, omega arith)
at_place G = (refl, omega arith)
at_place H = (refl, omega arith)
at_place I = (refl, omega arith)
at_place J = (refl, omega arith)
at_place K = (refl, omega arith)
at_place L = (refl, omega arith)
at_place M = (refl, omega arith)
at_place N = (refl, omega arith)

same_kind : (a b : TimerKind) → place_of a ≡ place_of b → a ≡ b
same_kind a b e = sym (at_place a).0 ∙ ap kind_at e ∙ (at_place b).0

all_kinds : (f : TimerKind → Bool) → list_all f every_kind ≡ true → (kind : TimerKind) → f kind ≡ true
all_kinds f h kind = subst (λ k. f k ≡ true) (at_place kind).0 (AllPass-from_list_all f every_kind h (place_of kind) A (at_place kind).1)

same_timer_is : (a b : TimerId) → same_timer a b ≡ true → a ≡ b
same_timer_is a b h =
    let parts = and_parts (eqb a.id b.id) (eqb (place_of a.kind) (place_of b.kind)) h in
    let ids = eqb-true a.id b.id parts.0 in
    let kinds = same_kind a.kind b.kind (eqb-true (place_of a.kind) (place_of b.kind) parts.1) in
    ap (λ n. record { id = n; kind = a.kind }) ids ∙ ap (λ k. record { id = b.id; kind = k }) kinds

-- ---- lists of timers

filtered : (keep : Timer TimerId → Bool) (P Q : Timer TimerId → Type 0) → ((x : Timer TimerId) → P x → keep x ≡ true → Q x) → (xs : List (Timer TimerId)) → All P xs → All Q (filter keep xs)
filtered keep P Q step xs h = λ k d lt. step (get_or (filter keep xs) k d) (All-filter keep P xs h k d lt) (filter_passes keep xs k d lt)

all_put : (P : Timer TimerId → Type 0) (timer : Timer TimerId) → P timer → (ts : List (Timer TimerId)) → All P ts → All P (put ts timer)
all_put P timer p [] h = All-cons P timer [] p (All-nil P)
all_put P timer p (t ∷ ts) h =
    cond_both (nat_lt timer.at t.at) (timer ∷ t ∷ ts) (t ∷ put ts timer) (λ l. All P l)
    (λ e. All-cons P timer (t ∷ ts) p h)
    (λ e. All-cons P t (put ts timer) (All-head P t ts h) (all_put P timer p ts (All-tail P t ts h)))

start_all : (slots : List (Option Transaction)) (id : ℕ) (u : Transaction) (s : Start) (now : ℕ) (timers : List (Timer TimerId))
    → at slots id ≡ Some u → has_line u.state s.kind ≡ true → All (HasLine slots) timers → All (HasLine slots) (start timers id s now)
start_all slots id u s now timers there line h =
    let left = without same_timer timers (timer_of id s.kind) in
    all_put (HasLine slots) (record { key = timer_of id s.kind; at = now + s.after }) (ap (λ o. has_line_at o s.kind) there ∙ line) left
    (All-filter (λ t. not (same_timer t.key (timer_of id s.kind))) (HasLine slots) timers h)

started_all : (slots : List (Option Transaction)) (id : ℕ) (u : Transaction) (ss : Starts) (now : ℕ) (timers : List (Timer TimerId))
    → at slots id ≡ Some u → starts_with_lines u.state ss ≡ true → All (HasLine slots) timers → All (HasLine slots) (started timers id ss now)
started_all slots id u starts.NoTimer now timers there lines h = h
started_all slots id u (starts.One s) now timers there lines h = start_all slots id u s now timers there lines h
started_all slots id u (starts.Two s t) now timers there lines h =
    let both = and_parts (has_line u.state s.kind) (has_line u.state t.kind) lines in
    start_all slots id u t now (start timers id s now) there both.1 (start_all slots id u s now timers there both.0 h)

-- who is not stopped
not_stopped_by : (own a b : Bool) → own ≡ true → not (own && a) ≡ true → not (own && b) ≡ true → (a || b) ≡ false
not_stopped_by true a b e h k = rw (not-true a h, not-true b k) refl
not_stopped_by false a b e h k = absurd (false≢true e)

stopped_all : (P Q : Timer TimerId → Type 0) (timers : List (Timer TimerId)) (id : ℕ) (s : Stops)
    → ((x : Timer TimerId) → P x → (x.key.id ≡ id → is_stopped s x.key.kind ≡ false) → Q x) → All P timers → All Q (stopped_by timers id s)
stopped_all P Q timers id stops.NoTimer step h = All-weaker P Q (λ x p. step x p (λ e. refl)) timers h
stopped_all P Q timers id stops.Retransmission step h =
    let keeps_a = λ (t : Timer TimerId). not (same_timer t.key (timer_of id A)) in
    let keeps_b = λ (t : Timer TimerId). not (same_timer t.key (timer_of id B)) in
    filtered keeps_b (λ x. P x × (keeps_a x ≡ true)) Q
    (λ x p b. step x p.0 (λ e. not_stopped_by (eqb x.key.id id) (eqb (place_of x.key.kind) 0) (eqb (place_of x.key.kind) 1) (eq-eqb x.key.id id e) p.1 b))
    (filter keeps_a timers)
    (filtered keeps_a P (λ x. P x × (keeps_a x ≡ true)) (λ x p a. (p, a)) timers h)
stopped_all P Q timers id stops.Every step h =
    filtered (λ t. not (eqb t.key.id id)) P Q (λ x p other. step x p (λ e. absurd (false≢true (sym (ap not (eq-eqb x.key.id id e)) ∙ other)))) timers h

-- ---- a line

others_same : (slots : List (Option Transaction)) (id n : ℕ) (y : Option Transaction) → n ≢ id → at (set slots id y) n ≡ at slots n
others_same slots id n y other = get_or-set_other slots id n y None other

-- a timer that is not stopped has a line afterwards
still_by : (slots : List (Option Transaction)) (id : ℕ) (t : Transaction) (y : Option Transaction) (x : Timer TimerId)
    → at slots id ≡ Some t → (has_line t.state x.key.kind ≡ true → has_line_at y x.key.kind ≡ true) → x.key.id ≡ id → HasLine slots x → HasLine (set slots id y) x
still_by slots id t y x there own e line =
    let before : has_line_at (at slots id) x.key.kind ≡ true = subst (λ n. has_line_at (at slots n) x.key.kind ≡ true) e line in
    let line_then = own (sym (ap (λ o. has_line_at o x.key.kind) there) ∙ before) in
    let now_there : at (set slots id y) id ≡ y = get_or-set_same slots id y None (within slots id t there) in
    subst (λ n. has_line_at (at (set slots id y) n) x.key.kind ≡ true) (sym e) (ap (λ o. has_line_at o x.key.kind) now_there ∙ line_then)

still : (slots : List (Option Transaction)) (id : ℕ) (t : Transaction) (y : Option Transaction) (s : Stops) (x : Timer TimerId)
    → at slots id ≡ Some t → ((kind : TimerKind) → is_stopped s kind ≡ false → has_line t.state kind ≡ true → has_line_at y kind ≡ true)
    → HasLine slots x → (x.key.id ≡ id → is_stopped s x.key.kind ≡ false) → HasLine (set slots id y) x
still slots id t y s x there own line kept = elim (cases_eq x.key.id id) [
  | inl e ↦ still_by slots id t y x there (own x.key.kind (kept e)) e line
  | inr other ↦ ap (λ o. has_line_at o x.key.kind) (others_same slots id x.key.id y other) ∙ line
]

runs_by : (stops had has : Bool) → stops ≡ false → had ≡ true → (stops || not had || has) ≡ true → has ≡ true
runs_by stops had has e h k = sym (rw (e, h) refl) ∙ k

every_stopped_by : (s : Stops) (kind : TimerKind) → stops_every s ≡ true → is_stopped s kind ≡ true
every_stopped_by stops.NoTimer kind h = absurd (false≢true h)
every_stopped_by stops.Retransmission kind h = absurd (false≢true h)
every_stopped_by stops.Every kind h = refl

none_started : (ss : Starts) (timers : List (Timer TimerId)) (id now : ℕ) → starts_none ss ≡ true → started timers id ss now ≡ timers
none_started starts.NoTimer timers id now h = refl
none_started (starts.One s) timers id now h = absurd (false≢true h)
none_started (starts.Two s t) timers id now h = absurd (false≢true h)

has_sent_by : (given was is last : Bool) → (given || not is || was) ≡ true → (not was || last) ≡ true → (not is || (given || last)) ≡ true
has_sent_by true was true last h k = refl
has_sent_by true was false last h k = refl
has_sent_by false true true last h k = k
has_sent_by false true false last h k = refl
has_sent_by false false true last h k = absurd (false≢true h)
has_sent_by false false false last h k = refl

latest_some : (fresh last : Option (List ℕ)) → is_some (latest fresh last) ≡ (is_some fresh || is_some last)
latest_some None last = refl
latest_some (Some bytes) last = refl

sent_then : (t : Transaction) (fresh : Option (List ℕ)) (next : State) → (is_some fresh || not (repeats next) || repeats t.state) ≡ true
    → has_sent (Some t) ≡ true → has_sent (Some (went t fresh next)) ≡ true
sent_then t fresh next h k =
    ap (λ b. not (repeats next) || b) (latest_some fresh t.last) ∙ has_sent_by (is_some fresh) (repeats t.state) (repeats next) (is_some t.last) h k

by_next : (table : Contents) (id : ℕ) (t : Transaction) (step : Step) (fresh : Option (List ℕ)) (now : ℕ) (next : Option State)
    → IsFireable table.slots table.timers → at table.slots id ≡ Some t → follows_to t.state (is_some fresh) step next ≡ true
    → IsFireable (set table.slots id (option_map (went t fresh) next)) (started (stopped_by table.timers id step.stops) id step.starts now)
by_next table id t step fresh now None fireable there h =
    let both = and_parts (stops_every step.stops) (starts_none step.starts) h in
    let slots = set table.slots id None in
    record {
      lines = subst (λ l. All (HasLine slots) l) (sym (none_started step.starts (stopped_by table.timers id step.stops) id now both.1))
          (stopped_all (HasLine table.slots) (HasLine slots) table.timers id step.stops
          (λ x line kept. still table.slots id t None step.stops x there
          (λ kind not_stopped had. absurd (false≢true (sym not_stopped ∙ every_stopped_by step.stops kind both.0))) line kept)
          fireable.lines);
      sent = All-set (λ slot. has_sent slot ≡ true) table.slots id None refl fireable.sent;
    }
by_next table id t step fresh now (Some next) fireable there h =
    let u = went t fresh next in
    let slots = set table.slots id (Some u) in
    let last = and_parts _ _ h in
    let starts_then = and_parts _ _ last.0 in
    let sides = and_parts _ _ starts_then.0 in
    let there_then : at slots id ≡ Some u = get_or-set_same table.slots id (Some u) None (within table.slots id t there) in
    let sent_before : has_sent (Some t) ≡ true = subst (λ o. has_sent o ≡ true) there (fireable.sent id None (within table.slots id t there)) in
    record {
      lines = started_all slots id u step.starts now (stopped_by table.timers id step.stops) there_then starts_then.1
          (stopped_all (HasLine table.slots) (HasLine slots) table.timers id step.stops
          (λ x line kept. still table.slots id t (Some u) step.stops x there
          (λ kind not_stopped had. runs_by (is_stopped step.stops kind) (has_line t.state kind) (has_line next kind) not_stopped had
          (all_kinds (runs_on t.state step.stops next) sides.1 kind)) line kept)
          fireable.lines);
      sent = All-set (λ slot. has_sent slot ≡ true) table.slots id (Some u) (sent_then t fresh next last.1 sent_before) fireable.sent;
    }

-- after a line
pub fireable_stepped : (table : Contents) (id : ℕ) (t : Transaction) (step : Step) (fresh : Option (List ℕ)) (now : ℕ)
    → IsFireable table.slots table.timers → at table.slots id ≡ Some t → follows t.state (is_some fresh) step ≡ true
    → IsFireable (stepped table id t step fresh now).slots (stepped table id t step fresh now).timers
unfolding follows
fireable_stepped table id t step fresh now fireable there h = by_next table id t step fresh now step.next fireable there h

some_there : (o : Option Transaction) → IsSome o → (t : Transaction) × (o ≡ Some t)
some_there None some = absurd (false≢true some)
some_there (Some t) some = (t, refl)

-- whatever the table keeps to
no_rules : TableRules
no_rules = record { first_wait = 0; share = None }

-- whatever the key of its prints
no_key : PrintKey
no_key = record { first = 0; second = 0 }

-- the same, of what the code made of slots and timers
pub fireable_carried : (slots slots_then : List (Option Transaction)) (timers reserved left timers_then : List (Timer TimerId)) (id : ℕ) (step : Step) (fresh : Option (List ℕ)) (now : ℕ)
    → IsFireable slots timers → IsSome (at slots id)
    → ((t : Transaction) → at slots id ≡ Some t → follows t.state (is_some fresh) step ≡ true)
    → ((t : Transaction) → at slots id ≡ Some t → slots_then ≡ set slots id (option_map (went t fresh) step.next))
    → reserved ≡ timers → left ≡ stopped_by reserved id step.stops → timers_then ≡ started left id step.starts now
    → IsFireable slots_then timers_then
fireable_carried slots slots_then timers reserved left timers_then id step fresh now fireable some follow written e f g =
    let one = some_there (at slots id) some in
    rw (written one.0 one.1, g, f, e) (fireable_stepped (record { slots = slots; timers = timers; rules = no_rules; key = no_key }) id one.0 step fresh now fireable one.1 (follow one.0 one.1))

-- ---- a new transaction

nobody_has : (kind : TimerKind) (o : Option Transaction) → o ≡ None → has_line_at o kind ≡ true → ⊥
nobody_has kind o e h = false≢true (sym (ap (λ p. has_line_at p kind) e) ∙ h)

kept_line : (slots : List (Option Transaction)) (u : Transaction) (x : Timer TimerId) (o : Option Transaction) → at slots x.key.id ≡ o → HasLine slots x
    → HasLine (placed slots (free_number slots) u) x
kept_line slots u x None there line = absurd (nobody_has x.key.kind (at slots x.key.id) there line)
kept_line slots u x (Some t) there line = ap (λ o. has_line_at o x.key.kind) (placed_other slots x.key.id u t there ∙ sym there) ∙ line

placed_sent_by : (slots : List (Option Transaction)) (place : ℕ) (u : Transaction) (b : Bool) → has_sent (Some u) ≡ true → All (λ slot. has_sent slot ≡ true) slots
    → All (λ slot. has_sent slot ≡ true) (cond b (set slots place (Some u)) (slots ++ Some u ∷ []))
placed_sent_by slots place u true h all = All-set (λ slot. has_sent slot ≡ true) slots place (Some u) h all
placed_sent_by slots place u false h all = All-push (λ slot. has_sent slot ≡ true) slots (Some u) all h

fireable_with : (table : Contents) (u : Transaction) (ss : Starts) (now : ℕ) → IsFireable table.slots table.timers
    → starts_with_lines u.state ss ≡ true → has_sent (Some u) ≡ true
    → IsFireable (placed_with table u ss now).slots (placed_with table u ss now).timers
fireable_with table u ss now fireable lines sent_once =
    let place = free_number table.slots in
    let slots = placed table.slots place u in
    record {
      lines = started_all slots place u ss now table.timers (placed_own table.slots u) lines
          (All-weaker (HasLine table.slots) (HasLine slots) (λ x line. kept_line table.slots u x (at table.slots x.key.id) refl line) table.timers fireable.lines);
      sent = placed_sent_by table.slots place u (nat_lt place (length table.slots)) sent_once fireable.sent;
    }

-- each timer has a line however soon it is due
lines_limited : (wait : ℕ) (state : State) (ss : Starts) → starts_with_lines state ss ≡ true → starts_with_lines state (limited wait ss) ≡ true
lines_limited wait state starts.NoTimer h = h
lines_limited wait state (starts.One s) h = h
lines_limited wait state (starts.Two s t) h = h

pub lines_within : (wait : ℕ) (parts : Parts) (state : State) (ss : Starts) → starts_with_lines state ss ≡ true
    → starts_with_lines state (starts_within wait parts ss) ≡ true
unfolding starts_within
lines_within wait parts state ss h = by (begins_dialog parts) where
  by : (b : Bool) → starts_with_lines state (cond b (limited wait ss) ss) ≡ true
  by true = lines_limited wait state ss h
  by false = h

pub fireable_opened : (table : Contents) (u : Transaction) (ss : Starts) (now : ℕ) → IsFireable table.slots table.timers
    → starts_with_lines u.state ss ≡ true → has_sent (Some u) ≡ true
    → IsFireable (opened table u ss now).slots (opened table u ss now).timers
fireable_opened table u ss now fireable lines sent_once =
    fireable_with table u (starts_within table.rules.first_wait u.parts ss) now fireable (lines_within table.rules.first_wait u.parts u.state ss lines) sent_once

pub fireable_placed : (slots slots_then : List (Option Transaction)) (timers reserved timers_then : List (Timer TimerId)) (id : ℕ) (u : Transaction) (ss : Starts) (now : ℕ)
    → IsFireable slots timers → starts_with_lines u.state ss ≡ true → has_sent (Some u) ≡ true
    → id ≡ free_number slots → slots_then ≡ placed slots id u → reserved ≡ timers → timers_then ≡ started reserved id ss now
    → IsFireable slots_then timers_then
fireable_placed slots slots_then timers reserved timers_then id u ss now fireable lines sent_once e f g h =
    rw (f, h, g, e) (fireable_with (record { slots = slots; timers = timers; rules = no_rules; key = no_key }) u ss now fireable lines sent_once)

-- ---- a timer that is due

found_by : (P : Timer TimerId → Type 0) (timer : TimerId) (now : ℕ) (t : Timer TimerId) (ts : List (Timer TimerId)) (b : Bool) → same_timer t.key timer ≡ b → P t
    → (has_come now (moment same_timer ts timer) ≡ true → (x : Timer TimerId) × (x.key ≡ timer) × P x)
    → has_come now (option_map (λ x. x.at) (cond b (Some t) (find (λ x. same_timer x.key timer) ts))) ≡ true
    → (x : Timer TimerId) × (x.key ≡ timer) × P x
found_by P timer now t ts true e p rest come = (t, same_timer_is t.key timer e, p)
found_by P timer now t ts false e p rest come = rest come

-- what is due is set, and is one of all
found : (P : Timer TimerId → Type 0) (timer : TimerId) (now : ℕ) (timers : List (Timer TimerId)) → All P timers
    → has_come now (moment same_timer timers timer) ≡ true → (x : Timer TimerId) × (x.key ≡ timer) × P x
found P timer now [] h due = absurd (false≢true due)
found P timer now (t ∷ ts) h due =
    found_by P timer now t ts (same_timer t.key timer) refl (All-head P t ts h) (λ come. found P timer now ts (All-tail P t ts h) come) due

due_line : (slots : List (Option Transaction)) (timers : List (Timer TimerId)) (timer : TimerId) (now : ℕ) → All (HasLine slots) timers
    → has_come now (moment same_timer timers timer) ≡ true → has_line_at (at slots timer.id) timer.kind ≡ true
due_line slots timers timer now lines due =
    let one = found (HasLine slots) timer now timers lines due in
    subst (λ key. has_line_at (at slots key.id) key.kind ≡ true) one.1 one.2

mapped : (place : Addr) (last : Option (List ℕ)) → is_some last ≡ true → is_some (option_map fires.Send (option_map (outgoing place) last)) ≡ true
mapped place None h = absurd (false≢true h)
mapped place (Some bytes) h = refl

last_sent : (is last : Bool) → is ≡ true → (not is || last) ≡ true → last ≡ true
last_sent true last e h = h
last_sent false last e h = absurd (false≢true e)

fired_some : (t : Transaction) (told : Told) (send : Sending) → fires_by t.state told send ≡ true → has_sent (Some t) ≡ true → is_some (fired_by told (sent t None send)) ≡ true
fired_some t TimedOut send h k = refl
fired_some t Ended send h k = refl
fired_some t Up send h k = absurd (false≢true h)
fired_some t Silent Nothing h k = absurd (false≢true h)
fired_some t Silent Fresh h k = absurd (false≢true h)
fired_some t Silent Again h k = mapped t.place t.last (last_sent (repeats t.state) (is_some t.last) h k)

fires_line : (t : Transaction) (line : Option Step) → is_some line ≡ true → IfSome line (λ step. fires_by t.state step.told step.send ≡ true) → has_sent (Some t) ≡ true
    → is_some (fired_step t line) ≡ true
fires_line t None some h k = absurd (false≢true some)
fires_line t (Some step) some h k = fired_some t step.told step.send h k

fires_at : (slots : List (Option Transaction)) (timer : TimerId) (o : Option Transaction) → at slots timer.id ≡ o → has_line_at o timer.kind ≡ true
    → All (λ slot. has_sent slot ≡ true) slots → is_some (fired_of o timer.kind) ≡ true
fires_at slots timer None there line all = absurd (false≢true line)
fires_at slots timer (Some t) there line all =
    fires_line t (row_of t.state (inputs.Fires timer.kind)) line (row_fires t.state timer.kind)
    (subst (λ o. has_sent o ≡ true) there (all timer.id None (within slots timer.id t there)))

-- a timer that is due does something
pub due_fires : (table : Contents) (timer : TimerId) (now : ℕ) → IsFireable table.slots table.timers → is_due table timer now ≡ true
    → is_some (fired_of (at table.slots timer.id) timer.kind) ≡ true
due_fires table timer now fireable due =
    fires_at table.slots timer (at table.slots timer.id) refl (due_line table.slots table.timers timer now fireable.lines due) fireable.sent

pub fires_then : (slots : List (Option Transaction)) (timers : List (Timer TimerId)) (rules : TableRules) (key : PrintKey) (table : Contents) (timer : TimerId) (now : ℕ)
    → IsFireable slots timers → record { slots = slots; timers = timers; rules = rules; key = key } ≡ table → true ≡ is_due table timer now
    → (found : Option Transaction) → found ≡ at slots timer.id → is_some (fired_of found timer.kind) ≡ true
fires_then slots timers rules key table timer now fireable view due found there =
    ap (λ o. is_some (fired_of o timer.kind)) there
    ∙ due_fires (record { slots = slots; timers = timers; rules = rules; key = key }) timer now fireable (ap (λ v. is_due v timer now) view ∙ sym due)

-- ---- what is fresh where it is asked for

given_too : (state : State) (given : Bool) (step : Step) (next : Option State) → follows_to state false step next ≡ true → follows_to state given step next ≡ true
given_too state given step None h = h
given_too state false step (Some next) h = h
given_too state true step (Some next) h = and_from _ true (and_parts _ _ h).0 refl

follows_more : (state : State) (asked given : Bool) (step : Step) → (asked ≡ true → given ≡ true) → follows state asked step ≡ true → follows state given step ≡ true
unfolding follows
follows_more state true given step e h = subst (λ b. follows_to state b step step.next ≡ true) (sym (e refl)) h
follows_more state false given step e h = given_too state given step step.next h

pub follows_by : (slots : List (Option Transaction)) (id : ℕ) (found : Transaction) (asked given : Bool) (step : Step)
    → (asked ≡ true → given ≡ true) → Some found ≡ at slots id → follows found.state asked step ≡ true
    → (t : Transaction) → at slots id ≡ Some t → follows t.state given step ≡ true
follows_by slots id found asked given step e there h t at_id =
    let some : Some found ≡ Some t = there ∙ at_id in
    let same : found ≡ t = cc in
    subst (λ u. follows u.state given step ≡ true) same (follows_more found.state asked given step e h)

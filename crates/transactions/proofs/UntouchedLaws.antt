-- A call that gives a transaction no input leaves it as it was, with its timers.
use Rattle.std.proofs.Common.{◌≡◌, ◌≢◌, ℕ, Bool, true, false, cond, not, eqb, nat_lt, List, [], ◌∷◌, filter, Option, Some, None, option_map, codes, position, refl, ap, sym, ◌∙◌}
use Rattle.std.proofs.lemmas.Bool.{false≢true, and_left, eq-eqb, eqb-true, ne_eqb}
use Rattle.timers.specs.declared.timers.Timer.{Timer}
use Rattle.timers.specs.Queue.{put, without}
use Rattle.sip_uri.specs.declared.uri.Addr.{Addr}
use Rattle.sip_message.specs.declared.message.Message.TheVariants as Kinds
use Rattle.sip_message.specs.declared.message.Request.{Request}
use Rattle.sip_message.specs.declared.message.Response.{Response}
use Rattle.sip_message.specs.Words.{is_method}
use Rattle.sip_writing.specs.Writing.{message_text}
use Rattle.transaction_machines.specs.declared.input.Input.{Input}
use Rattle.transaction_machines.specs.declared.input.Input.TheVariants as inputs
use Rattle.transaction_machines.specs.declared.input.TimerKind.{TimerKind}
use Rattle.transaction_machines.specs.declared.input.TimerKind.TheVariants.{A, B}
use Rattle.transaction_machines.specs.declared.step.Start.{Start}
use Rattle.transaction_machines.specs.declared.step.Starts.{Starts}
use Rattle.transaction_machines.specs.declared.step.Starts.TheVariants as starts
use Rattle.transaction_machines.specs.declared.step.Stops.{Stops}
use Rattle.transaction_machines.specs.declared.step.Stops.TheVariants as stops
use Rattle.transaction_machines.specs.declared.step.Step.{Step}
use Rattle.transaction_machines.specs.Inputs.{place_of}
use Rattle.transaction_machines.specs.Machines.{row_of}
use Rattle.transactions.specs.declared.change.Entry.TheVariants.{Opens, Leaves}
use Rattle.transactions.specs.declared.transaction.TimerId.{TimerId}
use Rattle.transactions.specs.declared.transaction.Transaction.{Transaction}
use Rattle.transactions.specs.Slots.{at, free_number, is_asked, is_answered}
use Rattle.transactions.specs.Timing.{same_timer, timer_of, stopped_by, start, started}
use Rattle.transactions.specs.Waiting.{starts_within}
use Rattle.transactions.specs.Transactions.{served, asking, asking_timers}
use Rattle.transactions.specs.Contents.{Contents, stepped_by, table_at, ack_at, input_of, response_input, answer_input}
use Rattle.transactions.specs.Changes.{entered, request_change, response_change, change_of, after_message}
use Rattle.transactions.specs.Calls as calls
use Rattle.transactions.specs.Calls.{Call, tells}
use Rattle.transactions.specs.Untouched.{is_told, own_timers, IsUntouched, LeavesOthers}
use Rattle.transactions.proofs.LastingLaws.{not_free, other_left, placed_other}

-- ---- the timers of another transaction

own_put : (id : ℕ) (timer : Timer TimerId) (ts : List (Timer TimerId)) → eqb timer.key.id id ≡ false → own_timers id (put ts timer) ≡ own_timers id ts
own_put id timer [] e = rw e refl
own_put id timer (t ∷ ts) e =
    elim (nat_lt timer.at t.at) as (λ b. own_timers id (cond b (timer ∷ t ∷ ts) (t ∷ put ts timer)) ≡ own_timers id (t ∷ ts)) [
      | true ↦ rw e refl
      | false ↦ ap (λ xs. cond (eqb t.key.id id) (t ∷ xs) xs) (own_put id timer ts e)
    ]

kept_by : {X : Type 0} (own : X → Bool) (x : X) (xs ys : List X) (keep mine : Bool) → (mine ≡ true → keep ≡ true) → own x ≡ mine → filter own xs ≡ ys
    → filter own (cond keep (x ∷ xs) xs) ≡ cond mine (x ∷ ys) ys
kept_by own x xs ys true mine h e same = ap (λ b. cond b (x ∷ filter own xs) (filter own xs)) e ∙ ap (λ zs. cond mine (x ∷ zs) zs) same
kept_by own x xs ys false true h e same = absurd (false≢true (h refl))
kept_by own x xs ys false false h e same = same

-- what keeps all of them leaves them
own_filter : {X : Type 0} (own keep : X → Bool) → ((x : X) → own x ≡ true → keep x ≡ true) → (xs : List X) → filter own (filter keep xs) ≡ filter own xs
own_filter own keep h [] = refl
own_filter own keep h (x ∷ xs) = kept_by own x (filter keep xs) (filter own xs) (keep x) (own x) (h x) refl (own_filter own keep h xs)

not_own : (id place n : ℕ) → place ≢ id → eqb n id ≡ true → eqb n place ≡ false
not_own id place n other e = ne_eqb n place (λ same. other (sym same ∙ eqb-true n id e))

own_without : (id place : ℕ) (kind : TimerKind) (ts : List (Timer TimerId)) → place ≢ id → own_timers id (without same_timer ts (timer_of place kind)) ≡ own_timers id ts
own_without id place kind ts other =
    own_filter (λ t. eqb t.key.id id) (λ t. not (same_timer t.key (timer_of place kind)))
    (λ t e. ap not (and_left (eqb t.key.id place) (eqb (place_of t.key.kind) (place_of kind)) (not_own id place t.key.id other e))) ts

own_stopped : (id place : ℕ) (ts : List (Timer TimerId)) (s : Stops) → place ≢ id → own_timers id (stopped_by ts place s) ≡ own_timers id ts
own_stopped id place ts stops.NoTimer other = refl
own_stopped id place ts stops.Retransmission other =
    own_without id place B (without same_timer ts (timer_of place A)) other ∙ own_without id place A ts other
own_stopped id place ts stops.Every other =
    own_filter (λ t. eqb t.key.id id) (λ t. not (eqb t.key.id place)) (λ t e. ap not (not_own id place t.key.id other e)) ts

own_start : (id place : ℕ) (ts : List (Timer TimerId)) (s : Start) (now : ℕ) → place ≢ id → own_timers id (start ts place s now) ≡ own_timers id ts
own_start id place ts s now other = own_put id _ (without same_timer ts (timer_of place s.kind)) (ne_eqb place id other) ∙ own_without id place s.kind ts other

own_started : (id place : ℕ) (ts : List (Timer TimerId)) (ss : Starts) (now : ℕ) → place ≢ id → own_timers id (started ts place ss now) ≡ own_timers id ts
own_started id place ts starts.NoTimer now other = refl
own_started id place ts (starts.One s) now other = own_start id place ts s now other
own_started id place ts (starts.Two s t) now other = own_start id place (start ts place s now) t now other ∙ own_start id place ts s now other

-- ---- another transaction gets an input

own_stepped : (table : Contents) (place id : ℕ) (u : Transaction) (fresh : Option (List ℕ)) (now : ℕ) (line : Option Step) → place ≢ id
    → own_timers id (stepped_by table place u fresh now line).timers ≡ own_timers id table.timers
own_stepped table place id u fresh now None other = refl
own_stepped table place id u fresh now (Some step) other =
    own_started id place (stopped_by table.timers place step.stops) step.starts now other ∙ own_stopped id place table.timers step.stops other

own_told : (table : Contents) (place id : ℕ) (o : Option Transaction) (input : Input) (fresh : Option (List ℕ)) (now : ℕ) → place ≢ id
    → own_timers id (table_at table place o input fresh now).timers ≡ own_timers id table.timers
own_told table place id None input fresh now other = refl
own_told table place id (Some u) input fresh now other = own_stepped table place id u fresh now (row_of u.state input) other

apart : (place id : ℕ) → eqb place id ≡ false → place ≢ id
apart place id e same = false≢true (sym e ∙ eq-eqb place id same)

told_untouched : (table : Contents) (place id : ℕ) (t : Transaction) (input : Input) (fresh : Option (List ℕ)) (now : ℕ) → at table.slots id ≡ Some t → eqb place id ≡ false
    → IsUntouched table (table_at table place (at table.slots place) input fresh now) id t
told_untouched table place id t input fresh now there e =
    let other = apart place id e in
    record {
      same = other_left table place id (at table.slots place) input fresh now (λ is. other (sym is)) ∙ there;
      timers = own_told table place id (at table.slots place) input fresh now other;
    }

left_alone : (table : Contents) (id : ℕ) (t : Transaction) → at table.slots id ≡ Some t → IsUntouched table table id t
left_alone table id t there = record { same = there; timers = refl }

begun_untouched : (table : Contents) (u : Transaction) (ss : Starts) (now id : ℕ) (t : Transaction) (b : Bool) → at table.slots id ≡ Some t
    → IsUntouched table (entered now table (cond b Leaves (Opens u ss))) id t
begun_untouched table u ss now id t true there = left_alone table id t there
begun_untouched table u ss now id t false there = record {
  same = placed_other table.slots id u t there;
  timers = own_started id (free_number table.slots) table.timers (starts_within table.rules.first_wait u.parts ss) now (λ is. not_free table.slots id t there (sym is));
}

request_untouched : (table : Contents) (r : Request) (source : Addr) (now id : ℕ) (t : Transaction) (number : Option ℕ) → at table.slots id ≡ Some t
    → is_told id (option_map (tells (input_of r.parts)) number) ≡ false → IsUntouched table (entered now table (request_change r source number)) id t
request_untouched table r source now id t None there e =
    begun_untouched table (served r source) starts.NoTimer now id t (is_method (codes "ACK") r.parts) there
request_untouched table r source now id t (Some place) there e = told_untouched table place id t (input_of r.parts) None now there e

response_untouched : (table : Contents) (r : Response) (now id : ℕ) (t : Transaction) (number : Option ℕ) → at table.slots id ≡ Some t
    → is_told id (option_map (tells (response_input r)) number) ≡ false → IsUntouched table (entered now table (response_change table r number)) id t
response_untouched table r now id t None there e = left_alone table id t there
response_untouched table r now id t (Some place) there e =
    told_untouched table place id t (response_input r) (ack_at (at table.slots place) r) now there e

pub untouched : (table : Contents) (call : Call) → LeavesOthers table call
unfolding after_message change_of
untouched table (calls.Receive (Kinds.Request r) source now) id t there e = request_untouched table r source now id t (position (is_asked r.parts) table.slots) there e
untouched table (calls.Receive (Kinds.Response r) source now) id t there e = response_untouched table r now id t (position (is_answered r.parts) table.slots) there e
untouched table (calls.Start r to now) id t there e =
    begun_untouched table (asking r to (message_text (Kinds.Request r))) (asking_timers r.parts) now id t (is_method (codes "ACK") r.parts) there
untouched table (calls.Answer place r now) id t there e = told_untouched table place id t (answer_input r) (Some (message_text (Kinds.Response r))) now there e
untouched table (calls.Abandon place now) id t there e = told_untouched table place id t inputs.Abandon None now there e
untouched table (calls.Fire timer now) id t there e = told_untouched table timer.id id t (inputs.Fires timer.kind) None now there e
untouched table calls.Leave id t there e = left_alone table id t there

-- What a list of calls leaves of a transaction.
use Rattle.std.proofs.Common.{◌≡◌, ◌≢◌, ℕ, ◌<◌, Bool, true, false, cond, ◌&&◌, eqb, not, List, [], ◌∷◌, ◌++◌, length, set, Option, Some, None, option_map, codes, nat_lt, is_some, is_none, position, refl, ap, sym, subst, ◌∙◌, inl, inr, arith}
use Rattle.std.specs.Prelude.{IfSome, IsSome}
use Rattle.std.specs.Cmp.{booleans_Decides}
use Rattle.std.proofs.Math.Seq.{get_or-append_seam}
use Rattle.std.proofs.lemmas.Bool.{false≢true, and_parts, and_from, and_left, cases_lt, cases_eq, eq-eqb, ne_eqb, ltb-true, ltb-false}
use Rattle.std.proofs.lemmas.List.{get_or-set_other, get_or-set_same, get_or_append_left, get_or_past}
use Rattle.std.proofs.lemmas.List.Folds.{list_any_at}
use Rattle.std.proofs.lemmas.List.Sums.{prefix_len-le-length, passes_at_first}
use Rattle.sip_uri.specs.declared.uri.Addr.{Addr}
use Rattle.sip_message.specs.declared.message.Message.TheVariants as Kinds
use Rattle.sip_writing.specs.Writing.{message_text}
use Rattle.sip_message.specs.declared.message.Parts.{Parts}
use Rattle.sip_message.specs.declared.message.Request.{Request}
use Rattle.sip_message.specs.declared.message.Response.{Response}
use Rattle.transactions.specs.declared.change.Entry.TheVariants.{Opens, Leaves}
use Rattle.transaction_machines.specs.declared.input.Input.{Input}
use Rattle.transaction_machines.specs.declared.input.Input.TheVariants as inputs
use Rattle.transactions.specs.declared.outcome.Verdict.TheVariants as verdicts
use Rattle.transaction_machines.specs.declared.state.State.{State}
use Rattle.transaction_machines.specs.declared.step.Starts.{Starts}
use Rattle.transaction_machines.specs.declared.step.Starts.TheVariants.{NoTimer}
use Rattle.transaction_machines.specs.declared.step.Step.{Step}
use Rattle.transactions.specs.declared.transaction.Transaction.{Transaction}
use Rattle.transaction_machines.specs.Machines.{row_of, is_server}
use Rattle.sip_message.specs.Words.{is_method}
use Rattle.transactions.specs.Matching.{is_copy}
use Rattle.transactions.specs.Places.{KeepsSide}
use Rattle.transactions.specs.Slots.{at, is_asked, is_answered, free_number}
use Rattle.transactions.specs.Transactions.{went, served, served_state, asking, asking_timers}
use Rattle.transactions.specs.Contents.{Contents, stepped_by, table_at, placed, stray, reception_of, request_reception, input_of, response_input, answer_input, ack_at, IsNew}
use Rattle.transactions.specs.Changes.{entered, request_change, response_change, change_of, after_message}
use Rattle.transactions.specs.Calls.{Call, Receive, Start, Answer, Abandon, Fire, Leave, after, after_all, tells, noticed, is_end, is_ended}
use Rattle.transaction_machines.specs.Lines.{follows, follows_to, is_answer}
use Rattle.transactions.specs.Once.{IsLeftBy, IsLeft, Lasts, NewOnce}
use Rattle.transactions.proofs.OnceLaws.{begins, none_asked, no_ack, by_transaction, served_side}
use Rattle.transaction_machines.proofs.RowLaws.{row_follows}

-- ---- a line keeps the side

side_to : (state : State) (given : Bool) (step : Step) (next : State) → follows_to state given step (Some next) ≡ true → is_server next ≡ is_server state
side_to state given step next h =
    let two = (and_parts _ _ h).0 in
    let three = (and_parts _ _ two).0 in
    (booleans_Decides (is_server next) (is_server state)).0 (and_parts _ _ three).0

keeps_to : (state : State) (given : Bool) (step : Step) (next : Option State) → follows_to state given step next ≡ true → IfSome next (λ s. is_server s ≡ is_server state)
keeps_to state given step None h = tt
keeps_to state given step (Some next) h = side_to state given step next h

pub sides_kept : (slots : List (Option Transaction)) (id : ℕ) (given : Bool) (step : Step) → ((t : Transaction) → at slots id ≡ Some t → follows t.state given step ≡ true)
    → IfSome step.next (KeepsSide slots id)
unfolding follows
sides_kept slots id given step follow = by step.next (λ t there. keeps_to t.state given step step.next (follow t there)) where
  by : (next : Option State) → ((t : Transaction) → at slots id ≡ Some t → IfSome next (λ s. is_server s ≡ is_server t.state)) → IfSome next (KeepsSide slots id)
  by None keeps = tt
  by (Some state) keeps = λ t there. keeps t there

-- ---- slots

pub none_some : (t : Transaction) → None ≡ Some t → ⊥
none_some t e = false≢true (ap is_some e)

pub within : (slots : List (Option Transaction)) (id : ℕ) (t : Transaction) → at slots id ≡ Some t → id < length slots
within slots id t there = elim (cases_lt id (length slots)) [
  | inl lt ↦ lt
  | inr le ↦ absurd (none_some t (sym (get_or_past slots id None le) ∙ there))
]

free_at : (slots : List (Option Transaction)) → free_number slots < length slots → is_none (at slots (free_number slots)) ≡ true
free_at slots lt = passes_at_first is_none slots None lt

-- a free number is not that of a transaction
pub not_free : (slots : List (Option Transaction)) (id : ℕ) (t : Transaction) → at slots id ≡ Some t → id ≢ free_number slots
not_free slots id t there e =
    let lt = subst (λ n. n < length slots) e (within slots id t there) in
    let taken = subst (λ n. at slots n ≡ Some t) e there in
    false≢true (sym (ap is_none taken) ∙ free_at slots lt)

placed_other_by : (slots : List (Option Transaction)) (place id : ℕ) (u t : Transaction) (b : Bool) → at slots id ≡ Some t → id ≢ place
    → at (cond b (set slots place (Some u)) (slots ++ Some u ∷ [])) id ≡ Some t
placed_other_by slots place id u t true there other = get_or-set_other slots place id (Some u) None other ∙ there
placed_other_by slots place id u t false there other = get_or_append_left slots (Some u ∷ []) None id (within slots id t there) ∙ there

pub placed_other : (slots : List (Option Transaction)) (id : ℕ) (u t : Transaction) → at slots id ≡ Some t → at (placed slots (free_number slots) u) id ≡ Some t
placed_other slots id u t there =
    placed_other_by slots (free_number slots) id u t (nat_lt (free_number slots) (length slots)) there (not_free slots id t there)

placed_own_by : (slots : List (Option Transaction)) (place : ℕ) (u : Transaction) (b : Bool) → (b ≡ true → place < length slots) → (b ≡ false → place ≡ length slots)
    → at (cond b (set slots place (Some u)) (slots ++ Some u ∷ [])) place ≡ Some u
placed_own_by slots place u true lt last = get_or-set_same slots place (Some u) None (lt refl)
placed_own_by slots place u false lt last = ap (λ n. at (slots ++ Some u ∷ []) n) (last refl) ∙ get_or-append_seam slots (Some u) [] None

pub placed_own : (slots : List (Option Transaction)) (u : Transaction) → at (placed slots (free_number slots) u) (free_number slots) ≡ Some u
placed_own slots u =
    let place = free_number slots in
    let most = prefix_len-le-length (λ o. not (is_none o)) slots in
    placed_own_by slots place u (nat_lt place (length slots)) (λ e. ltb-true place (length slots) e) (λ e. omega (arith, ltb-false place (length slots) e, most))

-- ---- one call

left_as : (t : Transaction) (b : Bool) (o : Option Transaction) → b ≡ false → o ≡ Some t → IsLeftBy t b o
left_as t b o e h = rw (e, h) (record { side = refl; uri = refl; parts = refl; place = refl })

gone_as : (t : Transaction) (b : Bool) (o : Option Transaction) → b ≡ true → o ≡ None → IsLeftBy t b o
gone_as t b o e h = rw (e, h) refl

went_as : (t : Transaction) (fresh : Option (List ℕ)) (next : State) (b : Bool) (o : Option Transaction) → is_server next ≡ is_server t.state
    → b ≡ false → o ≡ Some (went t fresh next) → IsLeftBy t b o
went_as t fresh next b o side e h = rw (e, h) (record { side = side; uri = refl; parts = refl; place = refl })

-- transaction id itself takes a line
by_next : (slots : List (Option Transaction)) (id : ℕ) (t : Transaction) (given : Bool) (fresh : Option (List ℕ)) (step : Step) (next : Option State) (b : Bool)
    → id < length slots → follows_to t.state given step next ≡ true → b ≡ is_none next
    → IsLeftBy t b (at (set slots id (option_map (went t fresh) next)) id)
by_next slots id t given fresh step None b lt h e = gone_as t b _ e (get_or-set_same slots id None None lt)
by_next slots id t given fresh step (Some next) b lt h e =
    went_as t fresh next b _ (side_to t.state given step next h) e (get_or-set_same slots id (Some (went t fresh next)) None lt)

by_line : (table : Contents) (id : ℕ) (t : Transaction) (given : Bool) (fresh : Option (List ℕ)) (now : ℕ) (line : Option Step) (b : Bool)
    → at table.slots id ≡ Some t → IfSome line (λ step. follows t.state given step ≡ true) → b ≡ is_end line
    → IsLeftBy t b (at (stepped_by table id t fresh now line).slots id)
unfolding follows
by_line table id t given fresh now None b there h e = left_as t b _ e there
by_line table id t given fresh now (Some step) b there h e = by_next table.slots id t given fresh step step.next b (within table.slots id t there) h e

pub own_left : (table : Contents) (id : ℕ) (t : Transaction) (o : Option Transaction) (input : Input) (fresh : Option (List ℕ)) (now : ℕ) (b : Bool)
    → at table.slots id ≡ Some t → o ≡ Some t → b ≡ is_end (row_of t.state input) → IsLeftBy t b (at (table_at table id o input fresh now).slots id)
own_left table id t o input fresh now b there h e =
    rw h (by_line table id t (is_answer input) fresh now (row_of t.state input) b there (row_follows t.state input) e)

-- another transaction takes a line
stepped_other : (table : Contents) (place id : ℕ) (u : Transaction) (fresh : Option (List ℕ)) (now : ℕ) (line : Option Step) → id ≢ place
    → at (stepped_by table place u fresh now line).slots id ≡ at table.slots id
stepped_other table place id u fresh now None other = refl
stepped_other table place id u fresh now (Some step) other = get_or-set_other table.slots place id (option_map (went u fresh) step.next) None other

pub other_left : (table : Contents) (place id : ℕ) (o : Option Transaction) (input : Input) (fresh : Option (List ℕ)) (now : ℕ) → id ≢ place
    → at (table_at table place o input fresh now).slots id ≡ at table.slots id
other_left table place id None input fresh now other = refl
other_left table place id (Some u) input fresh now other = stepped_other table place id u fresh now (row_of u.state input) other

told_left : (table : Contents) (place id : ℕ) (t : Transaction) (input : Input) (fresh : Option (List ℕ)) (now : ℕ) → at table.slots id ≡ Some t
    → IsLeftBy t (is_ended t id (Some (tells input place))) (at (table_at table place (at table.slots place) input fresh now).slots id)
told_left table place id t input fresh now there = elim (cases_eq place id) [
  | inl e ↦ subst (λ n. IsLeftBy t (is_ended t id (Some (tells input n))) (at (table_at table n (at table.slots n) input fresh now).slots id)) (sym e)
      (own_left table id t (at table.slots id) input fresh now (is_ended t id (Some (tells input id))) there there
      (ap (λ b. b && is_end (row_of t.state input)) (eq-eqb id id refl)))
  | inr other ↦ left_as t (is_ended t id (Some (tells input place))) _
      (and_left (eqb place id) (is_end (row_of t.state input)) (ne_eqb place id other))
      (other_left table place id (at table.slots place) input fresh now (λ e. other (sym e)) ∙ there)
]

begun_left : (table : Contents) (u : Transaction) (starts : Starts) (now id : ℕ) (t : Transaction) (b : Bool) → at table.slots id ≡ Some t
    → at (entered now table (cond b Leaves (Opens u starts))).slots id ≡ Some t
begun_left table u starts now id t true there = there
begun_left table u starts now id t false there = placed_other table.slots id u t there

request_left : (table : Contents) (r : Request) (source : Addr) (now id : ℕ) (t : Transaction) (number : Option ℕ) → at table.slots id ≡ Some t
    → IsLeftBy t (is_ended t id (option_map (tells (input_of r.parts)) number)) (at (entered now table (request_change r source number)).slots id)
request_left table r source now id t None there =
    left_as t false _ refl (begun_left table (served r source) NoTimer now id t (is_method (codes "ACK") r.parts) there)
request_left table r source now id t (Some place) there = told_left table place id t (input_of r.parts) None now there

response_left : (table : Contents) (r : Response) (now id : ℕ) (t : Transaction) (number : Option ℕ) → at table.slots id ≡ Some t
    → IsLeftBy t (is_ended t id (option_map (tells (response_input r)) number)) (at (entered now table (response_change table r number)).slots id)
response_left table r now id t None there = left_as t false _ refl there
response_left table r now id t (Some place) there = told_left table place id t (response_input r) (ack_at (at table.slots place) r) now there

pub left : (table : Contents) (call : Call) (id : ℕ) → IsLeft table call id
unfolding after_message change_of
left table (Receive (Kinds.Request r) source now) id t there = request_left table r source now id t (position (is_asked r.parts) table.slots) there
left table (Receive (Kinds.Response r) source now) id t there = response_left table r now id t (position (is_answered r.parts) table.slots) there
left table (Start r to now) id t there =
    left_as t false _ refl
    (begun_left table (asking r to (message_text (Kinds.Request r))) (asking_timers r.parts) now id t (is_method (codes "ACK") r.parts) there)
left table (Answer place r now) id t there = told_left table place id t (answer_input r) (Some (message_text (Kinds.Response r))) now there
left table (Abandon place now) id t there = told_left table place id t inputs.Abandon None now there
left table (Fire timer now) id t there = told_left table timer.id id t (inputs.Fires timer.kind) None now there
left table Leave id t there = left_as t false _ refl there

-- ---- a list of calls

asked_by : (parts : Parts) (t : Transaction) (b : Bool) (o : Option Transaction) → IsLeftBy t b o → IsSome o → is_asked parts (Some t) ≡ true → is_asked parts o ≡ true
unfolding is_asked
asked_by parts t true o h some asked = absurd (false≢true (sym (ap is_some h) ∙ some))
asked_by parts t false None h some asked = absurd h
asked_by parts t false (Some u) h some asked = rw (h.side, h.parts) asked

nobody_asked : (parts : Parts) → is_asked parts None ≡ false
unfolding is_asked
nobody_asked parts = refl

asked_left_by : (parts : Parts) (table : Contents) (call : Call) (id : ℕ) (o : Option Transaction) → at table.slots id ≡ o → is_asked parts o ≡ true
    → IsSome (at (after table call).slots id) → is_asked parts (at (after table call).slots id) ≡ true
asked_left_by parts table call id None there asked some = absurd (false≢true (sym (nobody_asked parts) ∙ asked))
asked_left_by parts table call id (Some t) there asked some =
    asked_by parts t (is_ended t id (noticed table call)) (at (after table call).slots id) (left table call id t there) some asked

lasts_now : (id : ℕ) (table : Contents) (calls : List Call) → Lasts id table calls → IsSome (at table.slots id)
lasts_now id table [] h = h
lasts_now id table (call ∷ calls) h = h.0

lasting : (parts : Parts) (id : ℕ) (table : Contents) (calls : List Call) → Lasts id table calls → is_asked parts (at table.slots id) ≡ true
    → is_asked parts (at (after_all table calls).slots id) ≡ true
lasting parts id table [] h asked = asked
lasting parts id table (call ∷ calls) h asked =
    lasting parts id (after table call) calls h.1
    (asked_left_by parts table call id (at table.slots id) refl asked (lasts_now id (after table call) calls h.1))

asked_within : (parts : Parts) (slots : List (Option Transaction)) (id : ℕ) → is_asked parts (at slots id) ≡ true → id < length slots
asked_within parts slots id asked = elim (cases_lt id (length slots)) [
  | inl lt ↦ lt
  | inr le ↦ absurd (false≢true (sym (nobody_asked parts) ∙ sym (ap (is_asked parts) (get_or_past slots id None le)) ∙ asked))
]

-- ---- who is new

copy_asked : (r copy : Request) (source : Addr) → is_copy copy.parts r.parts ≡ true → is_asked copy.parts (Some (served r source)) ≡ true
unfolding is_asked
copy_asked r copy source h = and_from (is_server (served_state r.parts)) (is_copy copy.parts r.parts) (served_side r.parts) h

begun_number : (table : Contents) (b : Bool) (id : ℕ) → (cond b stray (record { verdict = verdicts.New (free_number table.slots); before = None; send = None })).verdict ≡ verdicts.New id
    → free_number table.slots ≡ id
begun_number table true id h = absurd (cc)
begun_number table false id h = cc

new_number : (table : Contents) (r : Request) (number : Option ℕ) (id : ℕ) → (request_reception table r number).verdict ≡ verdicts.New id → free_number table.slots ≡ id
new_number table r None id h = begun_number table (is_method (codes "ACK") r.parts) id h
new_number table r (Some place) id h = absurd (by_transaction place (at table.slots place) (input_of r.parts) None (subst IsNew (sym h) tt))

served_at : (table : Contents) (r : Request) (source : Addr) (now : ℕ) (b : Bool) → b ≡ false
    → at (entered now table (cond b Leaves (Opens (served r source) NoTimer))).slots (free_number table.slots) ≡ Some (served r source)
served_at table r source now true e = absurd (cc)
served_at table r source now false e = placed_own table.slots (served r source)

begun_at : (table : Contents) (r : Request) (source : Addr) (now : ℕ) (number : Option ℕ) → number ≡ None → is_method (codes "ACK") r.parts ≡ false
    → at (entered now table (request_change r source number)).slots (free_number table.slots) ≡ Some (served r source)
begun_at table r source now None e h = served_at table r source now (is_method (codes "ACK") r.parts) h
begun_at table r source now (Some place) e h = absurd (cc)

new_at : (table : Contents) (r : Request) (source : Addr) (now id : ℕ) → (reception_of table (Kinds.Request r)).verdict ≡ verdicts.New id
    → at (after_message table (Kinds.Request r) source now).slots id ≡ Some (served r source)
unfolding reception_of after_message change_of
new_at table r source now id h =
    let number = position (is_asked r.parts) table.slots in
    let new = subst IsNew (sym h) tt in
    subst (λ n. at (entered now table (request_change r source number)).slots n ≡ Some (served r source)) (new_number table r number id h)
    (begun_at table r source now number (none_asked table r new) (no_ack table r number new))

pub new_once : (table : Contents) (r : Request) (source : Addr) (now : ℕ) (calls : List Call) → NewOnce table r source now calls
new_once table r source now calls id new lasts copy same again =
    let then = after_message table (Kinds.Request r) source now in
    let last = after_all then calls in
    let there : is_asked copy.parts (at then.slots id) ≡ true = ap (is_asked copy.parts) (new_at table r source now id new) ∙ copy_asked r copy source same in
    let asked = lasting copy.parts id then calls lasts there in
    let stand = list_any_at (is_asked copy.parts) last.slots id None (asked_within copy.parts last.slots id asked) asked in
    false≢true (sym (begins last copy again) ∙ stand)

-- Where the transactions after changes come from.
use Rattle.std.proofs.Common.{◌≡◌, ◌≢◌, ◌∙◌, ℕ, ◌<◌, ◌≤◌, ◌-◌, zero, suc, Bool, true, false, cond, not, ◌||◌, List, [], ◌∷◌, ◌++◌, length, get_or, Option, Some, None, option_map, nat_lt, refl, ap, sym, subst, inl, inr, arith}
use Rattle.std.specs.Prelude.{IfSome, slice_set, ◌⊎◌}
use Rattle.std.proofs.lemmas.Bool.{false≢true, cases_eq, cases_lt, ltb-true}
use Rattle.std.proofs.lemmas.List.{get_or-append_right, get_or-set_other, get_or-set_same, get_or_append_left, get_or_past}
use Rattle.std.proofs.lemmas.Option.{none-some, same_Some}
use Rattle.transaction_machines.specs.declared.input.Input.{Input}
use Rattle.transaction_machines.specs.declared.input.Input.TheVariants as inputs
use Rattle.transaction_machines.specs.declared.state.State.{State}
use Rattle.transaction_machines.specs.declared.step.Starts.{Starts}
use Rattle.transaction_machines.specs.declared.step.Step.{Step}
use Rattle.transaction_machines.specs.Machines.{KeepsSide, is_server, row_of}
use Rattle.transactions.specs.declared.change.Entry.{Entry}
use Rattle.transactions.specs.declared.change.Entry.TheVariants.{Opens, Tells, Answers, Leaves}
use Rattle.transactions.specs.declared.transaction.Transaction.{Transaction}
use Rattle.transactions.specs.Changes.{entered, entered_all}
use Rattle.transactions.specs.Contents.{Contents, stepped_by, table_at}
use Rattle.transactions.specs.Slots.{at, free_number}
use Rattle.transactions.specs.Transactions.{went}
use Rattle.message_laws.specs.Waiting.{waits}
use Rattle.message_laws.proofs.AwaitedOffers.Lines.{GoesOnIf, goes_on, waits_next}
use Rattle.message_laws.proofs.TokenUse.Sides.{keeps_side}

-- the same request, further on
pub record IsLater (t u : Transaction) : Type 0 where
  pub parts : u.parts ≡ t.parts
  pub side : is_server u.state ≡ is_server t.state
  pub waited : waits u.state ≡ true → waits t.state ≡ true

-- a change begins it
abbrev pub OpensIn : Transaction → List Entry → Type 0
OpensIn t [] = ⊥
OpensIn t (Opens v starts ∷ changes) = (v ≡ t) ⊎ OpensIn t changes
OpensIn t (Tells id input fresh ∷ changes) = OpensIn t changes
OpensIn t (Answers id class bytes ∷ changes) = OpensIn t changes
OpensIn t (Leaves ∷ changes) = OpensIn t changes

pub data CameFrom (slots : List (Option Transaction)) (changes : List Entry) (j : ℕ) (u : Transaction) : Type 0 where
  stayed : (t : Transaction) → at slots j ≡ Some t → IsLater t u → CameFrom slots changes j u
  began : (t : Transaction) → OpensIn t changes → IsLater t u → CameFrom slots changes j u

pub later_self : (t : Transaction) → IsLater t t
later_self t = record { parts = refl; side = refl; waited = λ h. h }

later_then : (t u v : Transaction) → IsLater t u → IsLater u v → IsLater t v
later_then t u v one two = record { parts = two.parts ∙ one.parts; side = two.side ∙ one.side; waited = λ h. one.waited (two.waited h) }

implies : (a b : Bool) → (not a || b) ≡ true → a ≡ true → b ≡ true
implies true b h e = h
implies false b h e = absurd (false≢true e)

-- ---- a line

went_later : (t u : Transaction) (fresh : Option (List ℕ)) (next : Option State) → (not (waits_next next) || waits t.state) ≡ true → KeepsSide t.state next
    → option_map (went t fresh) next ≡ Some u → IsLater t u
went_later t u fresh None h side e = absurd (none-some u e)
went_later t u fresh (Some next) h side e =
    let same : went t fresh next ≡ u = same_Some (went t fresh next) u e in
    subst (IsLater t) same (record { parts = refl; side = side; waited = λ w. implies (waits next) (waits t.state) h w })

stepped_later : (table : Contents) (id j : ℕ) (t u : Transaction) (fresh : Option (List ℕ)) (now : ℕ) (line : Option Step) → GoesOnIf t.state line → IfSome line (λ step. KeepsSide t.state step.next)
    → at table.slots id ≡ Some t → id < length table.slots → j ≡ id → at (stepped_by table id t fresh now line).slots j ≡ Some u → IsLater t u
stepped_later table id j t u fresh now None on side there within same e =
    subst (IsLater t) (same_Some t u (sym there ∙ ap (at table.slots) (sym same) ∙ e)) (later_self t)
stepped_later table id j t u fresh now (Some step) on side there within same e =
    let next = option_map (went t fresh) step.next in
    went_later t u fresh step.next on.waited side (sym (get_or-set_same table.slots id next None within) ∙ ap (at (slice_set table.slots id next)) (sym same) ∙ e)

stepped_other : (table : Contents) (id j : ℕ) (t : Transaction) (fresh : Option (List ℕ)) (now : ℕ) (line : Option Step) → j ≢ id → at (stepped_by table id t fresh now line).slots j ≡ at table.slots j
stepped_other table id j t fresh now None other = refl
stepped_other table id j t fresh now (Some step) other = get_or-set_other table.slots id j (option_map (went t fresh) step.next) None other

pub inside : (slots : List (Option Transaction)) (id : ℕ) (t : Transaction) → at slots id ≡ Some t → id < length slots
inside slots id t there = elim (cases_lt id (length slots)) [
  | inl lt ↦ lt
  | inr le ↦ absurd (none-some t (sym (get_or_past slots id None le) ∙ there))
]

told_came : (table : Contents) (id j : ℕ) (u : Transaction) (o : Option Transaction) (input : Input) (fresh : Option (List ℕ)) (now : ℕ) (changes : List Entry) → at table.slots id ≡ o
    → at (table_at table id o input fresh now).slots j ≡ Some u → CameFrom table.slots changes j u
told_came table id j u None input fresh now changes there e = stayed u e (later_self u)
told_came table id j u (Some t) input fresh now changes there e = elim (cases_eq j id) [
  | inl same ↦ stayed t (ap (at table.slots) same ∙ there)
      (stepped_later table id j t u fresh now (row_of t.state input) (goes_on t.state input) (keeps_side t.state input) there (inside table.slots id t there) same e)
  | inr other ↦ stayed u (sym (stepped_other table id j t fresh now (row_of t.state input) other) ∙ e) (later_self u)
]

-- ---- a transaction begins

last_of : (t u : Transaction) (k : ℕ) → get_or (Some t ∷ []) k None ≡ Some u → (t ≡ u) × (k ≡ 0)
last_of t u zero e = (same_Some t u e, refl)
last_of t u (suc k) e = absurd (none-some u e)

-- where a transaction that begins is put
abbrev pub spot : List (Option Transaction) → ℕ
spot slots = cond (nat_lt (free_number slots) (length slots)) (free_number slots) (length slots)

pub data Placed (slots : List (Option Transaction)) (t : Transaction) (put j : ℕ) (u : Transaction) : Type 0 where
  before : at slots j ≡ Some u → Placed slots t put j u
  here : t ≡ u → j ≡ put → Placed slots t put j u

placed_from : (slots : List (Option Transaction)) (place j : ℕ) (t u : Transaction) (b : Bool) → nat_lt place (length slots) ≡ b
    → at (cond b (slice_set slots place (Some t)) (slots ++ Some t ∷ [])) j ≡ Some u → Placed slots t (cond b place (length slots)) j u
placed_from slots place j t u true lt e = elim (cases_eq j place) [
  | inl same ↦ here (same_Some t u (sym (get_or-set_same slots place (Some t) None (ltb-true place (length slots) lt)) ∙ ap (at (slice_set slots place (Some t))) (sym same) ∙ e)) same
  | inr other ↦ before (sym (get_or-set_other slots place j (Some t) None other) ∙ e)
]
placed_from slots place j t u false lt e = elim (cases_lt j (length slots)) [
  | inl within ↦ before (sym (get_or_append_left slots (Some t ∷ []) None j within) ∙ e)
  | inr past ↦ last_placed slots t u j past (last_of t u (j - length slots) (sym (get_or-append_right slots (Some t ∷ []) (length slots) j None refl past) ∙ e))
]
  where
    last_placed : (slots : List (Option Transaction)) (t u : Transaction) (j : ℕ) → length slots ≤ j → (t ≡ u) × (j - length slots ≡ 0) → Placed slots t (length slots) j u
    last_placed slots t u j past last = here last.0 (omega (arith, past, last.1))

pub opened_at : (now : ℕ) (table : Contents) (t u : Transaction) (starts : Starts) (j : ℕ) → at (entered now table (Opens t starts)).slots j ≡ Some u → Placed table.slots t (spot table.slots) j u
opened_at now table t u starts j e = placed_from table.slots (free_number table.slots) j t u (nat_lt (free_number table.slots) (length table.slots)) refl e

placed_came : (slots : List (Option Transaction)) (t u : Transaction) (put j : ℕ) (starts : Starts) (changes : List Entry) → Placed slots t put j u → CameFrom slots (Opens t starts ∷ changes) j u
placed_came slots t u put j starts changes (before e) = stayed u e (later_self u)
placed_came slots t u put j starts changes (here same at_put) = began u (inl same) (later_self u)

-- ---- one change, and all

pub one_came : (now : ℕ) (table : Contents) (change : Entry) (changes : List Entry) (j : ℕ) (u : Transaction) → at (entered now table change).slots j ≡ Some u → CameFrom table.slots (change ∷ changes) j u
one_came now table (Opens t starts) changes j u e =
    placed_came table.slots t u (spot table.slots) j starts changes (opened_at now table t u starts j e)
one_came now table (Tells id input fresh) changes j u e = told_came table id j u (at table.slots id) input fresh now _ refl e
one_came now table (Answers id class bytes) changes j u e = told_came table id j u (at table.slots id) (inputs.Answer class) (Some bytes) now _ refl e
one_came now table Leaves changes j u e = stayed u e (later_self u)

opens_more : (t : Transaction) (change : Entry) (changes : List Entry) → OpensIn t changes → OpensIn t (change ∷ changes)
opens_more t (Opens v starts) changes h = inr h
opens_more t (Tells id input fresh) changes h = h
opens_more t (Answers id class bytes) changes h = h
opens_more t Leaves changes h = h

later_came : (slots : List (Option Transaction)) (changes : List Entry) (j : ℕ) (t u : Transaction) → IsLater t u → CameFrom slots changes j t → CameFrom slots changes j u
later_came slots changes j t u later (stayed v there first) = stayed v there (later_then v t u first later)
later_came slots changes j t u later (began v opens first) = began v opens (later_then v t u first later)

pub all_came : (now : ℕ) (table : Contents) (changes : List Entry) (j : ℕ) (u : Transaction) → at (entered_all now table changes).slots j ≡ Some u → CameFrom table.slots changes j u
all_came now table [] j u e = stayed u e (later_self u)
all_came now table (change ∷ changes) j u e = after_one now table change changes j u (all_came now (entered now table change) changes j u e)
  where
    after_one : (now : ℕ) (table : Contents) (change : Entry) (changes : List Entry) (j : ℕ) (u : Transaction) → CameFrom (entered now table change).slots changes j u → CameFrom table.slots (change ∷ changes) j u
    after_one now table change changes j u (stayed t there later) = later_came table.slots (change ∷ changes) j t u later (one_came now table change changes j t there)
    after_one now table change changes j u (began t opens later) = began t (opens_more t change changes opens) later

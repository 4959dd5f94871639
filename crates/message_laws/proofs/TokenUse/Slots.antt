-- The transactions after changes.
use Rattle.std.proofs.Common.{◌≡◌, ◌∙◌, ℕ, Bool, true, false, cond, List, [], ◌∷◌, ◌++◌, length, Option, Some, None, option_map, nat_lt, refl, sym, subst, inl, inr}
use Rattle.std.specs.Prelude.{IfSome, slice_set}
use Rattle.std.specs.List.{All}
use Rattle.std.proofs.lemmas.Bool.{cases_lt}
use Rattle.std.proofs.lemmas.List.{get_or_past}
use Rattle.std.proofs.lemmas.List.Elements.{All-push, All-set}
use Rattle.std.proofs.lemmas.Option.{none-some}
use Rattle.transaction_machines.specs.declared.input.Input.{Input}
use Rattle.transaction_machines.specs.declared.input.Input.TheVariants as inputs
use Rattle.transaction_machines.specs.declared.state.State.{State}
use Rattle.transaction_machines.specs.declared.step.Step.{Step}
use Rattle.transaction_machines.specs.Machines.{KeepsSide, row_of}
use Rattle.transactions.specs.declared.change.Entry.{Entry}
use Rattle.transactions.specs.declared.change.Entry.TheVariants.{Opens, Tells, Answers, Leaves}
use Rattle.transactions.specs.declared.transaction.Transaction.{Transaction}
use Rattle.transactions.specs.Changes.{entered, entered_all}
use Rattle.transactions.specs.Contents.{Contents, stepped_by, table_at}
use Rattle.transactions.specs.Slots.{at, free_number}
use Rattle.transactions.specs.Transactions.{went}
use Rattle.message_laws.specs.Entries.{EnterOwn, EntersOwn}
use Rattle.message_laws.specs.Tokens.{IsOwn, IsOwnIf}
use Rattle.message_laws.proofs.TokenUse.Sides.{keeps_side}

-- the transaction of a number
pub own_at : (made : ℕ) (slots : List (Option Transaction)) (id : ℕ) (t : Transaction) → All (IsOwnIf made) slots → at slots id ≡ Some t → IsOwn made t
own_at made slots id t all there = elim (cases_lt id (length slots)) [
  | inl lt ↦ subst (IsOwnIf made) there (all id None lt)
  | inr le ↦ absurd (none-some t (sym (get_or_past slots id None le) ∙ there))
]

-- ---- a transaction takes a line

own_went : (made : ℕ) (t : Transaction) (fresh : Option (List ℕ)) (next : Option State) → KeepsSide t.state next → IsOwn made t → IsOwnIf made (option_map (went t fresh) next)
own_went made t fresh None side own = tt
own_went made t fresh (Some next) side own = λ client. own (sym side ∙ client)

stepped_own : (made : ℕ) (table : Contents) (id : ℕ) (t : Transaction) (fresh : Option (List ℕ)) (now : ℕ) (line : Option Step) → IfSome line (λ step. KeepsSide t.state step.next)
    → IsOwn made t → All (IsOwnIf made) table.slots → All (IsOwnIf made) (stepped_by table id t fresh now line).slots
stepped_own made table id t fresh now None side own all = all
stepped_own made table id t fresh now (Some step) side own all =
    All-set (IsOwnIf made) table.slots id (option_map (went t fresh) step.next) (own_went made t fresh step.next side own) all

told_own : (made : ℕ) (table : Contents) (id : ℕ) (o : Option Transaction) (input : Input) (fresh : Option (List ℕ)) (now : ℕ) → at table.slots id ≡ o
    → All (IsOwnIf made) table.slots → All (IsOwnIf made) (table_at table id o input fresh now).slots
told_own made table id None input fresh now there all = all
told_own made table id (Some t) input fresh now there all =
    stepped_own made table id t fresh now (row_of t.state input) (keeps_side t.state input) (own_at made table.slots id t all there) all

-- ---- a transaction begins

placed_own_by : (made : ℕ) (slots : List (Option Transaction)) (id : ℕ) (t : Transaction) (b : Bool) → IsOwn made t → All (IsOwnIf made) slots
    → All (IsOwnIf made) (cond b (slice_set slots id (Some t)) (slots ++ Some t ∷ []))
placed_own_by made slots id t true own all = All-set (IsOwnIf made) slots id (Some t) own all
placed_own_by made slots id t false own all = All-push (IsOwnIf made) slots (Some t) all own

-- ---- changes

entered_own : (made now : ℕ) (table : Contents) (change : Entry) → EntersOwn made change → All (IsOwnIf made) table.slots → All (IsOwnIf made) (entered now table change).slots
entered_own made now table (Opens t starts) own all =
    placed_own_by made table.slots (free_number table.slots) t (nat_lt (free_number table.slots) (length table.slots)) own all
entered_own made now table (Tells id input fresh) own all = told_own made table id (at table.slots id) input fresh now refl all
entered_own made now table (Answers id class bytes) own all = told_own made table id (at table.slots id) (inputs.Answer class) (Some bytes) now refl all
entered_own made now table Leaves own all = all

pub all_entered_own : (made now : ℕ) (table : Contents) (changes : List Entry) → EnterOwn made changes → All (IsOwnIf made) table.slots
    → All (IsOwnIf made) (entered_all now table changes).slots
all_entered_own made now table [] own all = all
all_entered_own made now table (change ∷ changes) own all =
    all_entered_own made now (entered now table change) changes own.1 (entered_own made now table change own.0 all)

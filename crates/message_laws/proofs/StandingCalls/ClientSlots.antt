-- The transactions after changes: those of the server's own keep their requests.
use Rattle.std.proofs.Common.{◌≡◌, ◌∙◌, ℕ, Bool, true, false, cond, List, [], ◌∷◌, ◌++◌, length, Option, Some, None, option_map, nat_lt, refl, sym, subst, inl, inr}
use Rattle.std.specs.Prelude.{IfSome, slice_set}
use Rattle.std.specs.List.{All}
use Rattle.std.proofs.lemmas.Bool.{cases_lt}
use Rattle.std.proofs.lemmas.List.{get_or_past}
use Rattle.std.proofs.lemmas.List.Elements.{All-push, All-set}
use Rattle.std.proofs.lemmas.Option.{none-some}
use Rattle.transaction_machines.specs.declared.input.Input.{Input}
use Rattle.transaction_machines.specs.declared.input.Input.TheVariants as inputs
use Rattle.transaction_machines.specs.declared.state.State.{State}
use Rattle.transaction_machines.specs.declared.step.Step.{Step}
use Rattle.transaction_machines.specs.Machines.{KeepsSide, row_of}
use Rattle.transactions.specs.declared.change.Entry.{Entry}
use Rattle.transactions.specs.declared.change.Entry.TheVariants.{Opens, Tells, Answers, Leaves}
use Rattle.transactions.specs.declared.transaction.Transaction.{Transaction}
use Rattle.transactions.specs.Changes.{entered, entered_all}
use Rattle.transactions.specs.Contents.{Contents, stepped_by, table_at}
use Rattle.transactions.specs.Slots.{at, free_number}
use Rattle.transactions.specs.Transactions.{went}
use Rattle.message_laws.proofs.AwaitedOffers.Coming.{OpensIn}
use Rattle.message_laws.proofs.TokenUse.Sides.{keeps_side}
use Rattle.message_laws.specs.SoundClients.{IsSoundClient, IsSoundClientIf}

-- the transaction of a number
pub client_at : (slots : List (Option Transaction)) (id : ℕ) (t : Transaction) → All IsSoundClientIf slots → at slots id ≡ Some t → IsSoundClient t
client_at slots id t all there = elim (cases_lt id (length slots)) [
  | inl lt ↦ subst IsSoundClientIf there (all id None lt)
  | inr le ↦ absurd (none-some t (sym (get_or_past slots id None le) ∙ there))
]

-- ---- a transaction takes a line

went_sound : (t : Transaction) (fresh : Option (List ℕ)) (next : Option State) → KeepsSide t.state next → IsSoundClient t → IsSoundClientIf (option_map (went t fresh) next)
went_sound t fresh None side h = tt
went_sound t fresh (Some next) side h = λ client. h (sym side ∙ client)

stepped_sound : (table : Contents) (id : ℕ) (t : Transaction) (fresh : Option (List ℕ)) (now : ℕ) (line : Option Step) → IfSome line (λ step. KeepsSide t.state step.next) → IsSoundClient t
    → All IsSoundClientIf table.slots → All IsSoundClientIf (stepped_by table id t fresh now line).slots
stepped_sound table id t fresh now None side h all = all
stepped_sound table id t fresh now (Some step) side h all = All-set IsSoundClientIf table.slots id (option_map (went t fresh) step.next) (went_sound t fresh step.next side h) all

told_sound : (table : Contents) (id : ℕ) (o : Option Transaction) (input : Input) (fresh : Option (List ℕ)) (now : ℕ) → at table.slots id ≡ o → All IsSoundClientIf table.slots
    → All IsSoundClientIf (table_at table id o input fresh now).slots
told_sound table id None input fresh now there all = all
told_sound table id (Some t) input fresh now there all =
    stepped_sound table id t fresh now (row_of t.state input) (keeps_side t.state input) (client_at table.slots id t all there) all

-- ---- a transaction begins

placed_sound : (slots : List (Option Transaction)) (id : ℕ) (t : Transaction) (b : Bool) → IsSoundClient t → All IsSoundClientIf slots
    → All IsSoundClientIf (cond b (slice_set slots id (Some t)) (slots ++ Some t ∷ []))
placed_sound slots id t true h all = All-set IsSoundClientIf slots id (Some t) h all
placed_sound slots id t false h all = All-push IsSoundClientIf slots (Some t) all h

-- ---- changes

pub entered_sound : (now : ℕ) (table : Contents) (changes : List Entry) → ((t : Transaction) → OpensIn t changes → IsSoundClient t) → All IsSoundClientIf table.slots
    → All IsSoundClientIf (entered_all now table changes).slots
entered_sound now table [] began all = all
entered_sound now table (Opens t starts ∷ changes) began all =
    entered_sound now (entered now table (Opens t starts)) changes (λ u k. began u (inr k))
    (placed_sound table.slots (free_number table.slots) t (nat_lt (free_number table.slots) (length table.slots)) (began t (inl refl)) all)
entered_sound now table (Tells id input fresh ∷ changes) began all =
    entered_sound now (entered now table (Tells id input fresh)) changes began (told_sound table id (at table.slots id) input fresh now refl all)
entered_sound now table (Answers id class bytes ∷ changes) began all =
    entered_sound now (entered now table (Answers id class bytes)) changes began (told_sound table id (at table.slots id) (inputs.Answer class) (Some bytes) now refl all)
entered_sound now table (Leaves ∷ changes) began all = entered_sound now (entered now table Leaves) changes began all

-- A transaction keeps its machine: those of INVITEs are of INVITEs, after any changes of which each begins one that
-- fits.
use Rattle.std.proofs.Common.{◌≡◌, ◌∙◌, ℕ, Bool, true, false, cond, List, [], ◌∷◌, ◌++◌, length, nat_lt, Option, Some, None, option_map, refl, sym, subst, inl, inr}
use Rattle.std.specs.Option.{IfSome}
use Rattle.std.specs.Prelude.{slice_set}
use Rattle.std.specs.List.{All}
use Rattle.std.proofs.lemmas.Bool.{cases_lt, false≢true}
use Rattle.std.proofs.lemmas.List.{get_or_past}
use Rattle.std.proofs.lemmas.List.Elements.{All-push, All-set}
use Rattle.std.proofs.lemmas.Option.{none-some}
use Rattle.sip_message.specs.declared.message.Parts.{Parts}
use Rattle.sip_message.specs.declared.words.Class.TheVariants.{Failure, Provisional, Success}
use Rattle.transaction_machines.specs.declared.input.Input.{Input}
use Rattle.transaction_machines.specs.declared.input.Input.TheVariants as inputs
use Rattle.transaction_machines.specs.declared.input.TimerKind.TheVariants as kinds
use Rattle.transaction_machines.specs.declared.other_client.OtherClient.TheVariants as others
use Rattle.transaction_machines.specs.declared.state.State.{State}
use Rattle.transaction_machines.specs.declared.state.State.TheVariants as machine
use Rattle.transaction_machines.specs.declared.step.Step.{Step}
use Rattle.transaction_machines.specs.Machines.{KeepsSide, is_server, row_of}
use Rattle.transaction_machines.specs.OtherClient.{other_client_row}
use Rattle.transactions.specs.Changes.{entered, entered_all}
use Rattle.transactions.specs.Contents.{Contents, stepped_by, table_at}
use Rattle.transactions.specs.Slots.{at, free_number}
use Rattle.transactions.specs.Transactions.{went}
use Rattle.transactions.specs.declared.change.Entry.{Entry}
use Rattle.transactions.specs.declared.change.Entry.TheVariants.{Answers, Leaves, Opens, Tells}
use Rattle.transactions.specs.declared.transaction.Transaction.{Transaction}
use Rattle.call_rules.specs.Speaking.{is_invite}
use Rattle.message_laws.proofs.AwaitedOffers.Coming.{OpensIn}
use Rattle.message_laws.proofs.TokenUse.Sides.{keeps_side}
use Rattle.media_laws.specs.Machines.{FitsMachine, FitsMachineIf}

-- the transaction of a number
pub machine_at : (slots : List (Option Transaction)) (id : ℕ) (x : Transaction) → All FitsMachineIf slots → at slots id ≡ Some x → FitsMachine x.state x.parts
machine_at slots id x all there = elim (cases_lt id (length slots)) [
  | inl lt ↦ subst FitsMachineIf there (all id None lt)
  | inr le ↦ absurd (none-some x (sym (get_or_past slots id None le) ∙ there))
]

-- one of another's request fits
pub server_fits : (state : State) (parts : Parts) → (is_server state ≡ false → ⊥) → FitsMachine state parts
server_fits (machine.InviteClient state) parts h = absurd (h refl)
server_fits (machine.InviteServer state) parts h = tt
server_fits (machine.OtherClient state) parts h = tt
server_fits (machine.OtherServer state) parts h = tt

-- one of an INVITE does, whichever it is
invite_fits : (state : State) (parts : Parts) → is_invite parts ≡ true → FitsMachine state parts
invite_fits (machine.InviteClient state) parts h = h
invite_fits (machine.InviteServer state) parts h = tt
invite_fits (machine.OtherClient state) parts h = tt
invite_fits (machine.OtherServer state) parts h = tt

-- ---- a line

abbrev IsOther : Option State → Type 0
IsOther None = Unit {0}
IsOther (Some (machine.InviteClient state)) = ⊥
IsOther (Some (machine.InviteServer state)) = Unit {0}
IsOther (Some (machine.OtherClient state)) = Unit {0}
IsOther (Some (machine.OtherServer state)) = Unit {0}

other_next : (state : _) (input : Input) → IfSome (other_client_row state input) (λ step. IsOther step.next)
unfolding other_client_row
other_next (others.Trying interval) (inputs.Fires kinds.E) = tt
other_next (others.Trying interval) (inputs.Fires kinds.F) = tt
other_next (others.Trying interval) (inputs.Response Provisional) = tt
other_next others.Proceeding (inputs.Response Provisional) = tt
other_next others.Proceeding (inputs.Fires kinds.E) = tt
other_next others.Proceeding (inputs.Fires kinds.F) = tt
other_next (others.Trying interval) (inputs.Response Success) = tt
other_next (others.Trying interval) (inputs.Response Failure) = tt
other_next others.Proceeding (inputs.Response Success) = tt
other_next others.Proceeding (inputs.Response Failure) = tt
other_next others.Completed (inputs.Fires kinds.K) = tt
other_next state input = tt

-- what may follow
abbrev FitsNext : Parts → Option State → Type 0
FitsNext parts None = Unit {0}
FitsNext parts (Some next) = FitsMachine next parts

by_invite : (parts : Parts) (next : Option State) → is_invite parts ≡ true → FitsNext parts next
by_invite parts None h = tt
by_invite parts (Some next) h = invite_fits next parts h

by_server : (parts : Parts) (state : State) (next : Option State) → is_server state ≡ true → KeepsSide state next → FitsNext parts next
by_server parts state None h side = tt
by_server parts state (Some next) h side = server_fits next parts (λ client. false≢true (sym client ∙ (side ∙ h)))

by_other : (parts : Parts) (next : Option State) → IsOther next → FitsNext parts next
by_other parts None h = tt
by_other parts (Some (machine.InviteClient state)) h = absurd h
by_other parts (Some (machine.InviteServer state)) h = tt
by_other parts (Some (machine.OtherClient state)) h = tt
by_other parts (Some (machine.OtherServer state)) h = tt

line_if : (parts : Parts) (P : Option State → Type 0) → ((next : Option State) → P next → FitsNext parts next) → (line : Option Step) → IfSome line (λ step. P step.next) → IfSome line (λ step. FitsNext parts step.next)
line_if parts P f None h = tt
line_if parts P f (Some step) h = f step.next h

any_line : (parts : Parts) (line : Option Step) → ((next : Option State) → FitsNext parts next) → IfSome line (λ step. FitsNext parts step.next)
any_line parts None f = tt
any_line parts (Some step) f = f step.next

next_fits : (state : State) (parts : Parts) (input : Input) → FitsMachine state parts → IfSome (row_of state input) (λ step. FitsNext parts step.next)
unfolding row_of
next_fits (machine.InviteClient state) parts input h = any_line parts _ (λ next. by_invite parts next h)
next_fits (machine.InviteServer state) parts input h =
    line_if parts (KeepsSide (machine.InviteServer state)) (λ next. by_server parts (machine.InviteServer state) next refl) _ (keeps_side (machine.InviteServer state) input)
next_fits (machine.OtherClient state) parts input h = line_if parts IsOther (by_other parts) _ (other_next state input)
next_fits (machine.OtherServer state) parts input h =
    line_if parts (KeepsSide (machine.OtherServer state)) (λ next. by_server parts (machine.OtherServer state) next refl) _ (keeps_side (machine.OtherServer state) input)

-- ---- changes

went_fits : (x : Transaction) (fresh : Option (List ℕ)) (next : Option State) → FitsNext x.parts next → FitsMachineIf (option_map (went x fresh) next)
went_fits x fresh None h = tt
went_fits x fresh (Some next) h = h

stepped_fit : (table : Contents) (id : ℕ) (x : Transaction) (fresh : Option (List ℕ)) (now : ℕ) (line : Option Step) → IfSome line (λ step. FitsNext x.parts step.next) → All FitsMachineIf table.slots
    → All FitsMachineIf (stepped_by table id x fresh now line).slots
stepped_fit table id x fresh now None h all = all
stepped_fit table id x fresh now (Some step) h all = All-set FitsMachineIf table.slots id (option_map (went x fresh) step.next) (went_fits x fresh step.next h) all

told_fit : (table : Contents) (id : ℕ) (o : Option Transaction) (input : Input) (fresh : Option (List ℕ)) (now : ℕ) → at table.slots id ≡ o → All FitsMachineIf table.slots
    → All FitsMachineIf (table_at table id o input fresh now).slots
told_fit table id None input fresh now there all = all
told_fit table id (Some x) input fresh now there all = stepped_fit table id x fresh now (row_of x.state input) (next_fits x.state x.parts input (machine_at table.slots id x all there)) all

placed_fit : (slots : List (Option Transaction)) (id : ℕ) (x : Transaction) (b : Bool) → FitsMachine x.state x.parts → All FitsMachineIf slots → All FitsMachineIf (cond b (slice_set slots id (Some x)) (slots ++ Some x ∷ []))
placed_fit slots id x true h all = All-set FitsMachineIf slots id (Some x) h all
placed_fit slots id x false h all = All-push FitsMachineIf slots (Some x) all h

-- each that begins fits
abbrev pub OpensFit : List Entry → Type 0
OpensFit changes = (x : Transaction) → OpensIn x changes → FitsMachine x.state x.parts

pub entered_fit : (now : ℕ) (table : Contents) (changes : List Entry) → OpensFit changes → All FitsMachineIf table.slots → All FitsMachineIf (entered_all now table changes).slots
entered_fit now table [] began all = all
entered_fit now table (Opens x starts ∷ changes) began all =
    entered_fit now (entered now table (Opens x starts)) changes (λ u h. began u (inr h))
    (placed_fit table.slots (free_number table.slots) x (nat_lt (free_number table.slots) (length table.slots)) (began x (inl refl)) all)
entered_fit now table (Tells id input fresh ∷ changes) began all =
    entered_fit now (entered now table (Tells id input fresh)) changes began (told_fit table id (at table.slots id) input fresh now refl all)
entered_fit now table (Answers id class bytes ∷ changes) began all =
    entered_fit now (entered now table (Answers id class bytes)) changes began (told_fit table id (at table.slots id) (inputs.Answer class) (Some bytes) now refl all)
entered_fit now table (Leaves ∷ changes) began all = entered_fit now (entered now table Leaves) changes began all

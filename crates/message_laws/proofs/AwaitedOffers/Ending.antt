-- A timer ends a transaction that had its 2xx, or does nothing to it; and a 2xx makes it one.
use Rattle.std.proofs.Common.{◌≡◌, ◌≢◌, ◌∙◌, ℕ, Bool, true, false, List, [], ◌∷◌, Option, Some, None, option_map, position, is_some, refl, ap, sym, subst, inl, inr}
use Rattle.std.proofs.lemmas.Bool.{cases_eq, false≢true}
use Rattle.std.proofs.lemmas.List.{get_or-set_same}
use Rattle.std.proofs.lemmas.Option.{none-some, same_Some}
use Rattle.sip_message.specs.declared.message.Message.TheVariants as Kinds
use Rattle.sip_message.specs.declared.message.Response.{Response}
use Rattle.sip_message.specs.declared.words.Class.TheVariants.{Success}
use Rattle.sip_message.specs.Words.{class_of}
use Rattle.transaction_machines.specs.declared.input.Input.{Input}
use Rattle.transaction_machines.specs.declared.input.Input.TheVariants as inputs
use Rattle.transaction_machines.specs.declared.input.TimerKind.{TimerKind}
use Rattle.transaction_machines.specs.declared.input.TimerKind.TheVariants.{A, B, D, E, F, G, H, I, J, K, L, M, N}
use Rattle.transaction_machines.specs.declared.invite_client.InviteClient.{InviteClient}
use Rattle.transaction_machines.specs.declared.invite_client.InviteClient.TheVariants as clients
use Rattle.transaction_machines.specs.declared.other_client.OtherClient.{OtherClient}
use Rattle.transaction_machines.specs.declared.other_client.OtherClient.TheVariants as others
use Rattle.transaction_machines.specs.declared.state.State.{State}
use Rattle.transaction_machines.specs.declared.state.State.TheVariants as machine
use Rattle.transaction_machines.specs.declared.step.Step.{Step}
use Rattle.transaction_machines.specs.declared.step.Told.TheVariants.{Ended}
use Rattle.transaction_machines.specs.InviteClient.{invite_client_row}
use Rattle.transaction_machines.specs.OtherClient.{other_client_row}
use Rattle.transaction_machines.specs.Machines.{is_server, row_of}
use Rattle.transactions.specs.declared.change.Entry.{Entry}
use Rattle.transactions.specs.declared.change.Entry.TheVariants.{Tells}
use Rattle.transactions.specs.declared.outcome.Fired.{Fired}
use Rattle.transactions.specs.declared.outcome.Fired.TheVariants as fires
use Rattle.transactions.specs.declared.outcome.Verdict.{Verdict}
use Rattle.transactions.specs.declared.outcome.Verdict.TheVariants as verdicts
use Rattle.transactions.specs.declared.transaction.TimerId.{TimerId}
use Rattle.transactions.specs.declared.transaction.Transaction.{Transaction}
use Rattle.transactions.specs.Changes.{entered, entered_all, fire_of}
use Rattle.transactions.specs.Contents.{Contents, ack_at, fired_of, fired_step, reception_at, reception_by, reception_of, response_input, response_reception, stepped_by, table_at}
use Rattle.transactions.specs.Slots.{at, is_answered}
use Rattle.transactions.specs.Transactions.{went}
use Rattle.message_laws.specs.Acks.{IsAnswered, had_final}
use Rattle.message_laws.proofs.AwaitedOffers.Coming.{inside}
use Rattle.message_laws.proofs.AwaitedOffers.Firing.{NoneFires, StaysIf, all_answered, told_elsewhere, went_answered}

-- ---- a timer

-- it ends silently
abbrev EndsIf : Option Step → Type 0
EndsIf None = Unit {0}
EndsIf (Some step) = (step.next ≡ None) × (step.told ≡ Ended)

invite_ends : (state : InviteClient) (kind : TimerKind) → had_final (machine.InviteClient state) ≡ true → EndsIf (invite_client_row state (inputs.Fires kind))
unfolding invite_client_row
invite_ends (clients.Calling interval abandoned) kind h = absurd (false≢true h)
invite_ends clients.Proceeding kind h = absurd (false≢true h)
invite_ends clients.Completed kind h = absurd (false≢true h)
invite_ends clients.Accepted M h = (refl, refl)
invite_ends clients.Accepted A h = tt
invite_ends clients.Accepted B h = tt
invite_ends clients.Accepted D h = tt
invite_ends clients.Accepted E h = tt
invite_ends clients.Accepted F h = tt
invite_ends clients.Accepted G h = tt
invite_ends clients.Accepted H h = tt
invite_ends clients.Accepted I h = tt
invite_ends clients.Accepted J h = tt
invite_ends clients.Accepted K h = tt
invite_ends clients.Accepted L h = tt
invite_ends clients.Accepted N h = tt

other_ends : (state : OtherClient) (kind : TimerKind) → had_final (machine.OtherClient state) ≡ true → EndsIf (other_client_row state (inputs.Fires kind))
unfolding other_client_row
other_ends (others.Trying interval) kind h = absurd (false≢true h)
other_ends others.Proceeding kind h = absurd (false≢true h)
other_ends others.Completed K h = (refl, refl)
other_ends others.Completed A h = tt
other_ends others.Completed B h = tt
other_ends others.Completed D h = tt
other_ends others.Completed E h = tt
other_ends others.Completed F h = tt
other_ends others.Completed G h = tt
other_ends others.Completed H h = tt
other_ends others.Completed I h = tt
other_ends others.Completed J h = tt
other_ends others.Completed L h = tt
other_ends others.Completed M h = tt
other_ends others.Completed N h = tt

line_ends : (state : State) (kind : TimerKind) → had_final state ≡ true → EndsIf (row_of state (inputs.Fires kind))
unfolding row_of
line_ends (machine.InviteClient state) kind h = invite_ends state kind h
line_ends (machine.InviteServer state) kind h = absurd (false≢true h)
line_ends (machine.OtherClient state) kind h = other_ends state kind h
line_ends (machine.OtherServer state) kind h = absurd (false≢true h)

-- so a timer that does anything else is none of it
abbrev pub is_end : Option Fired → Bool
is_end None = false
is_end (Some (fires.Send out)) = false
is_end (Some fires.TimedOut) = false
is_end (Some fires.Ended) = true

fired_ends : (t : Transaction) (line : Option Step) → EndsIf line → is_some (fired_step t line) ≡ true → fired_step t line ≡ Some fires.Ended
fired_ends t None ends some = absurd (false≢true some)
fired_ends t (Some step) ends some = rw ends.1 refl

pub fires_other : (t : Transaction) (kind : TimerKind) (fired : Fired) → had_final t.state ≡ true → fired_step t (row_of t.state (inputs.Fires kind)) ≡ Some fired → is_end (Some fired) ≡ false → ⊥
fires_other t kind fired h is other =
    let ends = fired_ends t (row_of t.state (inputs.Fires kind)) (line_ends t.state kind h) (ap is_some is) in
    false≢true (sym other ∙ ap is_end (sym is ∙ ends))

-- ---- after it

pub fired_answered : (now : ℕ) (table : Contents) (timer : TimerId) (changes : List Entry) (id : ℕ) → NoneFires changes
    → ((t : Transaction) → at table.slots timer.id ≡ Some t → had_final t.state ≡ true → ⊥) → IsAnswered table.slots id → IsAnswered (entered_all now table (fire_of timer ∷ changes)).slots id
fired_answered now table timer changes id none other a = elim (cases_eq id timer.id) [
  | inl same ↦ absurd (other a.transaction (ap (at table.slots) (sym same) ∙ a.stands) a.final)
  | inr differ ↦ all_answered now (entered now table (fire_of timer)) changes id none (
      record { transaction = a.transaction; stands = told_elsewhere table id timer.id (at table.slots timer.id) (inputs.Fires timer.kind) None now differ ∙ a.stands; final = a.final }
      )
]

pub ended_answered : (now : ℕ) (table : Contents) (timer : TimerId) (id : ℕ) → id ≢ timer.id → IsAnswered table.slots id → IsAnswered (entered_all now table (fire_of timer ∷ [])).slots id
ended_answered now table timer id differ a =
    record { transaction = a.transaction; stands = told_elsewhere table id timer.id (at table.slots timer.id) (inputs.Fires timer.kind) None now differ ∙ a.stands; final = a.final }

stepped_gone : (table : Contents) (id : ℕ) (t : Transaction) (now : ℕ) (line : Option Step) → at table.slots id ≡ Some t → EndsIf line → is_some (fired_step t line) ≡ true → at (stepped_by table id t None now line).slots id ≡ None
stepped_gone table id t now None there ends some = absurd (false≢true some)
stepped_gone table id t now (Some step) there ends some = get_or-set_same table.slots id (option_map (went t None) step.next) None (inside table.slots id t there) ∙ ap (option_map (went t None)) ends.0

gone_by : (table : Contents) (timer : TimerId) (t : Transaction) (now : ℕ) (o : Option Transaction) → o ≡ Some t → at table.slots timer.id ≡ Some t → had_final t.state ≡ true
    → fired_of o timer.kind ≡ Some fires.Ended → at (table_at table timer.id o (inputs.Fires timer.kind) None now).slots timer.id ≡ None
gone_by table timer t now None is there h fired = absurd (none-some t is)
gone_by table timer t now (Some x) is there h fired =
    let final : had_final x.state ≡ true = ap (λ (y : Transaction). had_final y.state) (same_Some x t is) ∙ h in
    stepped_gone table timer.id x now (row_of x.state (inputs.Fires timer.kind)) (there ∙ sym is) (line_ends x.state timer.kind final) (ap is_some fired)

pub ended_gone : (now : ℕ) (table : Contents) (timer : TimerId) → fired_of (at table.slots timer.id) timer.kind ≡ Some fires.Ended → IsAnswered table.slots timer.id
    → at (entered_all now table (fire_of timer ∷ [])).slots timer.id ≡ None
ended_gone now table timer fired a = gone_by table timer a.transaction now (at table.slots timer.id) a.stands a.stands a.final fired

-- ---- a 2xx

success_invite : (state : InviteClient) → StaysIf (invite_client_row state (inputs.Response Success))
unfolding invite_client_row
success_invite (clients.Calling interval abandoned) = (machine.InviteClient clients.Accepted, refl, refl)
success_invite clients.Proceeding = (machine.InviteClient clients.Accepted, refl, refl)
success_invite clients.Completed = tt
success_invite clients.Accepted = (machine.InviteClient clients.Accepted, refl, refl)

success_other : (state : OtherClient) → StaysIf (other_client_row state (inputs.Response Success))
unfolding other_client_row
success_other (others.Trying interval) = (machine.OtherClient others.Completed, refl, refl)
success_other others.Proceeding = (machine.OtherClient others.Completed, refl, refl)
success_other others.Completed = tt

success_line : (state : State) → is_server state ≡ false → StaysIf (row_of state (inputs.Response Success))
unfolding row_of
success_line (machine.InviteClient state) client = success_invite state
success_line (machine.InviteServer state) client = absurd (false≢true (sym client))
success_line (machine.OtherClient state) client = success_other state
success_line (machine.OtherServer state) client = absurd (false≢true (sym client))

is_up : Verdict → Bool
is_up (verdicts.New id) = false
is_up verdicts.Repeat = false
is_up verdicts.Swallowed = false
is_up (verdicts.Up id) = true
is_up verdicts.Stray = false

-- a response that goes up met a line
up_line : (id : ℕ) (t : Transaction) (input : Input) (fresh : Option (List ℕ)) (line : Option Step) → is_up (reception_by id t input fresh line).verdict ≡ true → is_some line ≡ true
unfolding is_up
up_line id t input fresh None up = absurd (false≢true up)
up_line id t input fresh (Some step) up = refl

up_at : (id : ℕ) (t : Transaction) (input : Input) (fresh : Option (List ℕ)) (o : Option Transaction) → o ≡ Some t → is_up (reception_at id o input fresh).verdict ≡ true → is_some (row_of t.state input) ≡ true
up_at id t input fresh None is up = absurd (none-some t is)
up_at id t input fresh (Some x) is up = subst (λ (y : Transaction). is_some (row_of y.state input) ≡ true) (same_Some x t is) (up_line id x input fresh (row_of x.state input) up)

up_in : (table : Contents) (r : Response) (id : ℕ) (t : Transaction) (found : Option ℕ) → found ≡ Some id → at table.slots id ≡ Some t → is_up (response_reception table r found).verdict ≡ true
    → is_some (row_of t.state (response_input r)) ≡ true
up_in table r id t None is there up = absurd (none-some id is)
up_in table r id t (Some at_id) is there up =
    let same : at_id ≡ id = same_Some at_id id is in
    up_at at_id t (response_input r) (ack_at (at table.slots at_id) r) (at table.slots at_id) (ap (at table.slots) same ∙ there) up

pub response_line : (table : Contents) (r : Response) (id : ℕ) (t : Transaction) → position (is_answered r.parts) table.slots ≡ Some id → at table.slots id ≡ Some t
    → (reception_of table (Kinds.Response r)).verdict ≡ verdicts.Up id → is_some (row_of t.state (response_input r)) ≡ true
unfolding reception_of is_up
response_line table r id t found there up = up_in table r id t (position (is_answered r.parts) table.slots) found there (ap is_up up)

stepped_final : (table : Contents) (id : ℕ) (t : Transaction) (fresh : Option (List ℕ)) (now : ℕ) (line : Option Step) → at table.slots id ≡ Some t → StaysIf line → is_some line ≡ true
    → IsAnswered (stepped_by table id t fresh now line).slots id
stepped_final table id t fresh now None there stays some = absurd (false≢true some)
stepped_final table id t fresh now (Some step) there stays some =
    went_answered (stepped_by table id t fresh now (Some step)).slots id t fresh step.next stays.0 stays.1 stays.2
    (get_or-set_same table.slots id (option_map (went t fresh) step.next) None (inside table.slots id t there))

final_by : (table : Contents) (id : ℕ) (t : Transaction) (input : Input) (fresh : Option (List ℕ)) (now : ℕ) (o : Option Transaction) → o ≡ Some t → at table.slots id ≡ Some t → StaysIf (row_of t.state input)
    → is_some (row_of t.state input) ≡ true → IsAnswered (table_at table id o input fresh now).slots id
final_by table id t input fresh now None is there stays some = absurd (none-some t is)
final_by table id t input fresh now (Some x) is there stays some =
    let same : t ≡ x = sym (same_Some x t is) in
    stepped_final table id x fresh now (row_of x.state input) (there ∙ sym is) (subst (λ (y : Transaction). StaysIf (row_of y.state input)) same stays)
    (subst (λ (y : Transaction). is_some (row_of y.state input) ≡ true) same some)

pub success_answered : (now : ℕ) (table : Contents) (r : Response) (id : ℕ) (t : Transaction) (fresh : Option (List ℕ)) (changes : List Entry) → at table.slots id ≡ Some t → is_server t.state ≡ false
    → class_of r.status ≡ Success → is_some (row_of t.state (response_input r)) ≡ true → NoneFires changes
    → IsAnswered (entered_all now table (Tells id (response_input r) fresh ∷ changes)).slots id
success_answered now table r id t fresh changes there client class some none =
    all_answered now (entered now table (Tells id (response_input r) fresh)) changes id none
    (final_by table id t (response_input r) fresh now (at table.slots id) there there (subst (λ k. StaysIf (row_of t.state (inputs.Response k))) (sym class) (success_line t.state client)) some)

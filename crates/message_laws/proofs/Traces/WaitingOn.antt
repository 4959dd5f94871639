-- Who waits for a final response waits on, until one comes.
use Rattle.std.proofs.Common.{◌≡◌, ◌∙◌, ℕ, true, false, List, [], ◌∷◌, Option, Some, None, option_map, refl, sym, ap, subst, inl, inr}
use Rattle.std.specs.Prelude.{IfSome, slice_set}
use Rattle.std.proofs.lemmas.Bool.{cases_eq, false≢true}
use Rattle.std.proofs.lemmas.List.{get_or-set_same}
use Rattle.std.proofs.lemmas.Option.{none-some, same_Some}
use Rattle.sip_message.specs.declared.words.Class.TheVariants.{Provisional, Success, Failure}
use Rattle.transaction_machines.specs.declared.input.Input.{Input}
use Rattle.transaction_machines.specs.declared.input.Input.TheVariants.{Abandon, Answer, Fires, Response}
use Rattle.transaction_machines.specs.declared.input.TimerKind.TheVariants.{A, B, E, F, N}
use Rattle.transaction_machines.specs.declared.invite_client.InviteClient.{InviteClient}
use Rattle.transaction_machines.specs.declared.invite_client.InviteClient.TheVariants as clients
use Rattle.transaction_machines.specs.declared.other_client.OtherClient.{OtherClient}
use Rattle.transaction_machines.specs.declared.other_client.OtherClient.TheVariants as others
use Rattle.transaction_machines.specs.declared.state.State.{State}
use Rattle.transaction_machines.specs.declared.state.State.TheVariants as machine
use Rattle.transaction_machines.specs.declared.step.Step.{Step}
use Rattle.transaction_machines.specs.InviteClient.{invite_client_row}
use Rattle.transaction_machines.specs.OtherClient.{other_client_row}
use Rattle.transaction_machines.specs.Machines.{KeepsSide, is_server, row_of}
use Rattle.transactions.specs.Changes.{entered, entered_all}
use Rattle.transactions.specs.Contents.{Contents, stepped_by, table_at}
use Rattle.transactions.specs.Slots.{at}
use Rattle.transactions.specs.Transactions.{went}
use Rattle.transactions.specs.declared.change.Entry.{Entry}
use Rattle.transactions.specs.declared.change.Entry.TheVariants.{Opens, Tells, Answers, Leaves}
use Rattle.transactions.specs.declared.transaction.Transaction.{Transaction}
use Rattle.call_trace.specs.Listed.{AllOf}
use Rattle.message_laws.specs.Numbers.{begun_of}
use Rattle.message_laws.specs.OpenRequests.{IsAmong}
use Rattle.message_laws.specs.Waiting.{waits}
use Rattle.message_laws.proofs.AwaitedOffers.Coming.{Placed, before, here, inside, opened_at, spot}
use Rattle.message_laws.proofs.AwaitedOffers.Firing.{told_elsewhere}
use Rattle.message_laws.proofs.TokenUse.Sides.{keeps_side}
use Rattle.message_laws.proofs.Traces.Saying.{EntryIsCalm, is_final_input}

-- ---- a line

abbrev WaitsNext : Option State → Type 0
WaitsNext None = Unit {0}
WaitsNext (Some state) = waits state ≡ true

abbrev WaitsOn : Option Step → Type 0
WaitsOn None = Unit {0}
WaitsOn (Some step) = WaitsNext step.next

invite_waits : (state : InviteClient) (input : Input) → waits (machine.InviteClient state) ≡ true → is_final_input input ≡ false → WaitsOn (invite_client_row state input)
unfolding invite_client_row
invite_waits clients.Completed input w f = absurd (false≢true w)
invite_waits clients.Accepted input w f = absurd (false≢true w)
invite_waits (clients.Calling interval abandoned) (Response Provisional) w f = refl
invite_waits clients.Proceeding (Response Provisional) w f = refl
invite_waits state (Response Success) w f = absurd (false≢true (sym f))
invite_waits state (Response Failure) w f = absurd (false≢true (sym f))
invite_waits (clients.Calling interval abandoned) Abandon w f = refl
invite_waits clients.Proceeding Abandon w f = refl
invite_waits (clients.Calling interval false) (Fires A) w f = refl
invite_waits (clients.Calling interval true) (Fires A) w f = refl
invite_waits (clients.Calling interval false) (Fires B) w f = tt
invite_waits (clients.Calling interval true) (Fires B) w f = tt
invite_waits (clients.Calling interval abandoned) (Fires N) w f = tt
invite_waits clients.Proceeding (Fires N) w f = tt
invite_waits state input w f = tt

other_waits : (state : OtherClient) (input : Input) → waits (machine.OtherClient state) ≡ true → is_final_input input ≡ false → WaitsOn (other_client_row state input)
unfolding other_client_row
other_waits others.Completed input w f = absurd (false≢true w)
other_waits (others.Trying interval) (Response Provisional) w f = refl
other_waits others.Proceeding (Response Provisional) w f = refl
other_waits state (Response Success) w f = absurd (false≢true (sym f))
other_waits state (Response Failure) w f = absurd (false≢true (sym f))
other_waits (others.Trying interval) (Fires E) w f = refl
other_waits others.Proceeding (Fires E) w f = refl
other_waits (others.Trying interval) (Fires F) w f = tt
other_waits others.Proceeding (Fires F) w f = tt
other_waits state input w f = tt

line_waits : (state : State) (input : Input) → waits state ≡ true → is_final_input input ≡ false → WaitsOn (row_of state input)
unfolding row_of
line_waits (machine.InviteClient state) input w f = invite_waits state input w f
line_waits (machine.InviteServer state) input w f = absurd (false≢true w)
line_waits (machine.OtherClient state) input w f = other_waits state input w f
line_waits (machine.OtherServer state) input w f = absurd (false≢true w)

-- ---- the same request, which waits on

pub record IsSame (t u : Transaction) : Type 0 where
  pub parts : u.parts ≡ t.parts
  pub side : is_server u.state ≡ is_server t.state

pub record WaitsStill (t u : Transaction) : Type 0 where
  pub same : IsSame t u
  pub waited : waits t.state ≡ true → waits u.state ≡ true

self_waits : (t : Transaction) → WaitsStill t t
self_waits t = record { same = record { parts = refl; side = refl }; waited = λ w. w }

then_waits : (t u v : Transaction) → WaitsStill t u → WaitsStill u v → WaitsStill t v
then_waits t u v one two = record { same = record { parts = two.same.parts ∙ one.same.parts; side = two.same.side ∙ one.same.side }; waited = λ w. two.waited (one.waited w) }

pub data QuietFrom (slots : List (Option Transaction)) (changes : List Entry) (j : ℕ) (u : Transaction) : Type 0 where
  stayed : (t : Transaction) → at slots j ≡ Some t → WaitsStill t u → QuietFrom slots changes j u
  began : (t : Transaction) → IsAmong (begun_of changes) t → WaitsStill t u → QuietFrom slots changes j u

went_waits : (t u : Transaction) (fresh : Option (List ℕ)) (next : Option State) → KeepsSide t.state next → (waits t.state ≡ true → WaitsNext next) → option_map (went t fresh) next ≡ Some u → WaitsStill t u
went_waits t u fresh None side h e = absurd (none-some u e)
went_waits t u fresh (Some state) side h e = subst (WaitsStill t) (same_Some (went t fresh state) u e) (record { same = record { parts = refl; side = side }; waited = h })

stepped_waits : (table : Contents) (id j : ℕ) (t u : Transaction) (fresh : Option (List ℕ)) (now : ℕ) (line : Option Step) → IfSome line (λ step. KeepsSide t.state step.next) → (waits t.state ≡ true → WaitsOn line)
    → at table.slots id ≡ Some t → j ≡ id → at (stepped_by table id t fresh now line).slots j ≡ Some u → WaitsStill t u
stepped_waits table id j t u fresh now None side h there same e = subst (WaitsStill t) (same_Some t u (sym there ∙ ap (at table.slots) (sym same) ∙ e)) (self_waits t)
stepped_waits table id j t u fresh now (Some step) side h there same e =
    let next = option_map (went t fresh) step.next in
    went_waits t u fresh step.next side h (sym (get_or-set_same table.slots id next None (inside table.slots id t there)) ∙ ap (at (slice_set table.slots id next)) (sym same) ∙ e)

told_waits : (table : Contents) (id j : ℕ) (u : Transaction) (o : Option Transaction) (input : Input) (fresh : Option (List ℕ)) (now : ℕ) (changes : List Entry) → is_final_input input ≡ false → at table.slots id ≡ o
    → at (table_at table id o input fresh now).slots j ≡ Some u → QuietFrom table.slots changes j u
told_waits table id j u None input fresh now changes calm there e = stayed u e (self_waits u)
told_waits table id j u (Some t) input fresh now changes calm there e = elim (cases_eq j id) [
  | inl same ↦ stayed t (ap (at table.slots) same ∙ there) (stepped_waits table id j t u fresh now (row_of t.state input) (keeps_side t.state input) (λ w. line_waits t.state input w calm) there same e)
  | inr other ↦ stayed u (sym (told_elsewhere table j id (Some t) input fresh now other) ∙ e) (self_waits u)
]

placed_waits : (slots : List (Option Transaction)) (t u : Transaction) (put j : ℕ) (starts : _) (changes : List Entry) → Placed slots t put j u → QuietFrom slots (Opens t starts ∷ changes) j u
placed_waits slots t u put j starts changes (before e) = stayed u e (self_waits u)
placed_waits slots t u put j starts changes (here same at_put) = began u (inl same) (self_waits u)

one_waits : (now : ℕ) (table : Contents) (change : Entry) (changes : List Entry) (j : ℕ) (u : Transaction) → EntryIsCalm change → at (entered now table change).slots j ≡ Some u → QuietFrom table.slots (change ∷ changes) j u
one_waits now table (Opens t starts) changes j u calm e = placed_waits table.slots t u (spot table.slots) j starts changes (opened_at now table t u starts j e)
one_waits now table (Tells id input fresh) changes j u calm e = told_waits table id j u (at table.slots id) input fresh now _ calm refl e
one_waits now table (Answers id class bytes) changes j u calm e = told_waits table id j u (at table.slots id) (Answer class) (Some bytes) now _ refl refl e
one_waits now table Leaves changes j u calm e = stayed u e (self_waits u)

begins_more : (t : Transaction) (change : Entry) (changes : List Entry) → IsAmong (begun_of changes) t → IsAmong (begun_of (change ∷ changes)) t
begins_more t (Opens v starts) changes h = inr h
begins_more t (Tells id input fresh) changes h = h
begins_more t (Answers id class bytes) changes h = h
begins_more t Leaves changes h = h

later_from : (slots : List (Option Transaction)) (changes : List Entry) (j : ℕ) (t u : Transaction) → WaitsStill t u → QuietFrom slots changes j t → QuietFrom slots changes j u
later_from slots changes j t u later (stayed v there first) = stayed v there (then_waits v t u first later)
later_from slots changes j t u later (began v opens first) = began v opens (then_waits v t u first later)

-- after changes that report no final response
pub all_wait : (now : ℕ) (table : Contents) (changes : List Entry) (j : ℕ) (u : Transaction) → AllOf EntryIsCalm changes → at (entered_all now table changes).slots j ≡ Some u → QuietFrom table.slots changes j u
all_wait now table [] j u calm e = stayed u e (self_waits u)
all_wait now table (change ∷ changes) j u calm e = elim (all_wait now (entered now table change) changes j u calm.1 e) [
  | stayed t there later ↦ later_from table.slots (change ∷ changes) j t u later (one_waits now table change changes j t calm.0 there)
  | began t opens later ↦ began t (begins_more t change changes opens) later
]

-- ---- where one is notified of any response

pub data ToldFrom (slots : List (Option Transaction)) (id j : ℕ) (u : Transaction) : Type 0 where
  elsewhere : at slots j ≡ Some u → ToldFrom slots id j u
  there : (t : Transaction) → at slots id ≡ Some t → IsSame t u → ToldFrom slots id j u

told_same : (table : Contents) (id j : ℕ) (t u : Transaction) (fresh : Option (List ℕ)) (now : ℕ) (line : Option Step) → IfSome line (λ step. KeepsSide t.state step.next) → at table.slots id ≡ Some t → j ≡ id
    → at (stepped_by table id t fresh now line).slots j ≡ Some u → IsSame t u
told_same table id j t u fresh now None side at_t same e = subst (IsSame t) (same_Some t u (sym at_t ∙ ap (at table.slots) (sym same) ∙ e)) (record { parts = refl; side = refl })
told_same table id j t u fresh now (Some step) side at_t same e = by_next step.next side (sym (get_or-set_same table.slots id (option_map (went t fresh) step.next) None (inside table.slots id t at_t)) ∙ ap (at (slice_set table.slots id (option_map (went t fresh) step.next))) (sym same) ∙ e)
  where
    by_next : (next : Option State) → KeepsSide t.state next → option_map (went t fresh) next ≡ Some u → IsSame t u
    by_next None side k = absurd (none-some u k)
    by_next (Some state) side k = subst (IsSame t) (same_Some (went t fresh state) u k) (record { parts = refl; side = side })

told_by : (table : Contents) (id j : ℕ) (u : Transaction) (o : Option Transaction) (input : Input) (fresh : Option (List ℕ)) (now : ℕ) → at table.slots id ≡ o → at (table_at table id o input fresh now).slots j ≡ Some u → ToldFrom table.slots id j u
told_by table id j u None input fresh now at_o e = elsewhere e
told_by table id j u (Some t) input fresh now at_o e = elim (cases_eq j id) [
  | inl same ↦ there t at_o (told_same table id j t u fresh now (row_of t.state input) (keeps_side t.state input) at_o same e)
  | inr other ↦ elsewhere (sym (told_elsewhere table j id (Some t) input fresh now other) ∙ e)
]

pub told_from : (now : ℕ) (table : Contents) (id : ℕ) (input : Input) (fresh : Option (List ℕ)) (j : ℕ) (u : Transaction) → at (entered now table (Tells id input fresh)).slots j ≡ Some u → ToldFrom table.slots id j u
told_from now table id input fresh j u e = told_by table id j u (at table.slots id) input fresh now refl e

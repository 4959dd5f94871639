-- Changes that notify no timer leave a transaction that had its 2xx as one that had it.
use Rattle.std.proofs.Common.{◌≡◌, ◌≢◌, ◌∙◌, ℕ, ◌+◌, zero, suc, Bool, true, false, cond, List, [], ◌∷◌, ◌++◌, find, length, nat_lt, Option, Some, None, option_map, refl, ap, sym, subst, inl, inr, arith}
use Rattle.std.specs.Prelude.{slice_set}
use Rattle.std.proofs.lemmas.Bool.{cases_eq, false≢true}
use Rattle.std.proofs.lemmas.List.{get_or-set_other, get_or-set_same, get_or_append_left}
use Rattle.std.proofs.lemmas.Option.{none-some, same_Some}
use Rattle.sip_message.specs.declared.words.Class.TheVariants.{Provisional as Early, Success, Failure}
use Rattle.events.specs.declared.sent.Sent.{Sent}
use Rattle.transaction_machines.specs.declared.input.Input.{Input}
use Rattle.transaction_machines.specs.declared.input.Input.TheVariants as inputs
use Rattle.transaction_machines.specs.declared.invite_client.InviteClient.{InviteClient}
use Rattle.transaction_machines.specs.declared.invite_client.InviteClient.TheVariants as clients
use Rattle.transaction_machines.specs.declared.other_client.OtherClient.{OtherClient}
use Rattle.transaction_machines.specs.declared.other_client.OtherClient.TheVariants as others
use Rattle.transaction_machines.specs.declared.state.State.{State}
use Rattle.transaction_machines.specs.declared.state.State.TheVariants as machine
use Rattle.transaction_machines.specs.declared.step.Step.{Step}
use Rattle.transaction_machines.specs.InviteClient.{invite_client_row}
use Rattle.transaction_machines.specs.OtherClient.{other_client_row}
use Rattle.transaction_machines.specs.Machines.{row_of}
use Rattle.transactions.specs.declared.change.Entry.{Entry}
use Rattle.transactions.specs.declared.change.Entry.TheVariants.{Opens, Tells, Answers, Leaves}
use Rattle.transactions.specs.declared.transaction.Transaction.{Transaction}
use Rattle.transactions.specs.Changes.{entered, entered_all}
use Rattle.transactions.specs.Contents.{Contents, stepped_by, table_at}
use Rattle.transactions.specs.Slots.{at, free_number}
use Rattle.transactions.specs.Transactions.{went}
use Rattle.call_core.specs.declared.action.Action.{Action}
use Rattle.call_messages.specs.declared.scene.Scene.{Scene}
use Rattle.call_messages.specs.Dressing.{dress_one, dressed}
use Rattle.call_steps.specs.Messages.{given_up, is_abandon, messages}
use Rattle.call_steps.specs.Values.{SceneValue, lent_scene}
use Rattle.message_laws.specs.Acks.{IsAnswered, had_final}
use Rattle.message_laws.proofs.AwaitedOffers.Coming.{inside}
use Rattle.message_laws.proofs.Messages.KeptSends.{EntriesWereSaid}
use Rattle.message_laws.proofs.Messages.SendSteps.{one_said}

abbrev pub is_fires : Input → Bool
is_fires (inputs.Fires kind) = true
is_fires input = false

abbrev pub NoneFires : List Entry → Type 0
NoneFires [] = Unit {0}
NoneFires (Opens t starts ∷ changes) = NoneFires changes
NoneFires (Tells id input fresh ∷ changes) = (is_fires input ≡ false) × NoneFires changes
NoneFires (Answers id class bytes ∷ changes) = NoneFires changes
NoneFires (Leaves ∷ changes) = NoneFires changes

pub fires_append : (xs ys : List Entry) → NoneFires xs → NoneFires ys → NoneFires (xs ++ ys)
fires_append [] ys h k = k
fires_append (Opens t starts ∷ xs) ys h k = fires_append xs ys h k
fires_append (Tells id input fresh ∷ xs) ys h k = (h.0, fires_append xs ys h.1 k)
fires_append (Answers id class bytes ∷ xs) ys h k = fires_append xs ys h k
fires_append (Leaves ∷ xs) ys h k = fires_append xs ys h k

-- ---- the messages of a step notify no timer

said_none : (all : List Sent) (changes : List Entry) → EntriesWereSaid all changes → NoneFires changes
said_none all [] h = tt
said_none all (Opens t starts ∷ []) h = tt
said_none all (Tells id input fresh ∷ []) h = absurd h
said_none all (Answers id class bytes ∷ []) h = tt
said_none all (Leaves ∷ []) h = tt
said_none all (change ∷ other ∷ changes) h = absurd h

dressed_tells : (s : Scene) (n : ℕ) (actions : List Action) → NoneFires (dressed s n actions).changes
dressed_tells s n [] = tt
dressed_tells s n (action ∷ later) =
    let one = dress_one s n action in
    fires_append one.changes (dressed s (n + one.made) later).changes (said_none one.sends one.changes (one_said s n action)) (dressed_tells s (n + one.made) later)

given_up_tells : (id : Option ℕ) (action : Option Action) → NoneFires (given_up id action)
given_up_tells None action = tt
given_up_tells (Some id) None = tt
given_up_tells (Some id) (Some action) = (refl, tt)

pub said_tells : (s : SceneValue) (passed : Option ℕ) (actions : List Action) → NoneFires (messages s passed actions).dressed.changes
unfolding messages
said_tells s passed actions =
    fires_append (dressed (lent_scene s) s.tokens actions).changes (given_up passed (find is_abandon actions)) (dressed_tells (lent_scene s) s.tokens actions) (given_up_tells passed (find is_abandon actions))

-- ---- a line that no timer asks for

-- it has its 2xx afterwards, too
abbrev pub StaysIf : Option Step → Type 0
StaysIf None = Unit {0}
StaysIf (Some step) = (n : State) × (step.next ≡ Some n) × (had_final n ≡ true)

invite_stays : (state : InviteClient) (input : Input) → had_final (machine.InviteClient state) ≡ true → is_fires input ≡ false → StaysIf (invite_client_row state input)
unfolding invite_client_row
invite_stays (clients.Calling interval abandoned) input h f = absurd (false≢true h)
invite_stays clients.Proceeding input h f = absurd (false≢true h)
invite_stays clients.Completed input h f = absurd (false≢true h)
invite_stays clients.Accepted (inputs.Response Success) h f = (machine.InviteClient clients.Accepted, refl, refl)
invite_stays clients.Accepted (inputs.Response Early) h f = tt
invite_stays clients.Accepted (inputs.Response Failure) h f = tt
invite_stays clients.Accepted (inputs.Fires kind) h f = absurd (false≢true (sym f))
invite_stays clients.Accepted inputs.Repeat h f = tt
invite_stays clients.Accepted inputs.Ack h f = tt
invite_stays clients.Accepted (inputs.Answer class) h f = tt
invite_stays clients.Accepted inputs.Abandon h f = tt

other_stays : (state : OtherClient) (input : Input) → had_final (machine.OtherClient state) ≡ true → is_fires input ≡ false → StaysIf (other_client_row state input)
unfolding other_client_row
other_stays (others.Trying interval) input h f = absurd (false≢true h)
other_stays others.Proceeding input h f = absurd (false≢true h)
other_stays others.Completed (inputs.Response class) h f = tt
other_stays others.Completed (inputs.Fires kind) h f = absurd (false≢true (sym f))
other_stays others.Completed inputs.Repeat h f = tt
other_stays others.Completed inputs.Ack h f = tt
other_stays others.Completed (inputs.Answer class) h f = tt
other_stays others.Completed inputs.Abandon h f = tt

line_stays : (state : State) (input : Input) → had_final state ≡ true → is_fires input ≡ false → StaysIf (row_of state input)
unfolding row_of
line_stays (machine.InviteClient state) input h f = invite_stays state input h f
line_stays (machine.InviteServer state) input h f = absurd (false≢true h)
line_stays (machine.OtherClient state) input h f = other_stays state input h f
line_stays (machine.OtherServer state) input h f = absurd (false≢true h)

-- ---- a transaction

pub went_answered : (slots : List (Option Transaction)) (id : ℕ) (t : Transaction) (fresh : Option (List ℕ)) (next : Option State) (n : State) → next ≡ Some n → had_final n ≡ true
    → at slots id ≡ option_map (went t fresh) next → IsAnswered slots id
went_answered slots id t fresh None n is h e = absurd (none-some n is)
went_answered slots id t fresh (Some m) n is h e = record { transaction = went t fresh m; stands = e; final = ap had_final (same_Some m n is) ∙ h }

stepped_answered : (table : Contents) (id : ℕ) (t : Transaction) (fresh : Option (List ℕ)) (now : ℕ) (line : Option Step) → at table.slots id ≡ Some t → had_final t.state ≡ true → StaysIf line
    → IsAnswered (stepped_by table id t fresh now line).slots id
stepped_answered table id t fresh now None there h stays = record { transaction = t; stands = there; final = h }
stepped_answered table id t fresh now (Some step) there h stays =
    went_answered (stepped_by table id t fresh now (Some step)).slots id t fresh step.next stays.0 stays.1 stays.2
    (get_or-set_same table.slots id (option_map (went t fresh) step.next) None (inside table.slots id t there))

same_answered : (table : Contents) (id : ℕ) (t : Transaction) (input : Input) (fresh : Option (List ℕ)) (now : ℕ) (o : Option Transaction) → o ≡ Some t → at table.slots id ≡ Some t → had_final t.state ≡ true
    → is_fires input ≡ false → IsAnswered (table_at table id o input fresh now).slots id
same_answered table id t input fresh now None is there h f = absurd (none-some t is)
same_answered table id t input fresh now (Some x) is there h f =
    let final : had_final x.state ≡ true = ap (λ (y : Transaction). had_final y.state) (same_Some x t is) ∙ h in
    stepped_answered table id x fresh now (row_of x.state input) (there ∙ sym is) final (line_stays x.state input final f)

stepped_elsewhere : (table : Contents) (id other : ℕ) (t : Transaction) (fresh : Option (List ℕ)) (now : ℕ) (line : Option Step) → id ≢ other → at (stepped_by table other t fresh now line).slots id ≡ at table.slots id
stepped_elsewhere table id other t fresh now None differ = refl
stepped_elsewhere table id other t fresh now (Some step) differ = get_or-set_other table.slots other id (option_map (went t fresh) step.next) None differ

pub told_elsewhere : (table : Contents) (id other : ℕ) (o : Option Transaction) (input : Input) (fresh : Option (List ℕ)) (now : ℕ) → id ≢ other → at (table_at table other o input fresh now).slots id ≡ at table.slots id
told_elsewhere table id other None input fresh now differ = refl
told_elsewhere table id other (Some t) input fresh now differ = stepped_elsewhere table id other t fresh now (row_of t.state input) differ

told_answered : (table : Contents) (id other : ℕ) (input : Input) (fresh : Option (List ℕ)) (now : ℕ) → is_fires input ≡ false → IsAnswered table.slots id
    → IsAnswered (table_at table other (at table.slots other) input fresh now).slots id
told_answered table id other input fresh now f a = elim (cases_eq id other) [
  | inl same ↦ subst (λ n. IsAnswered (table_at table other (at table.slots other) input fresh now).slots n) (sym same)
      (same_answered table other a.transaction input fresh now (at table.slots other) (ap (at table.slots) (sym same) ∙ a.stands) (ap (at table.slots) (sym same) ∙ a.stands) a.final f)
  | inr differ ↦ record { transaction = a.transaction; stands = told_elsewhere table id other (at table.slots other) input fresh now differ ∙ a.stands; final = a.final }
]

-- the place of one that begins was free
pub free_differs : (slots : List (Option Transaction)) (id : ℕ) (t : Transaction) → at slots id ≡ Some t → id ≢ free_number slots
free_differs [] id t there same = none-some t there
free_differs (None ∷ slots) zero t there same = none-some t there
free_differs (None ∷ slots) (suc id) t there same = omega (arith, same)
free_differs (Some x ∷ slots) zero t there same = omega (arith, same)
free_differs (Some x ∷ slots) (suc id) t there same = free_differs slots id t there (omega (arith, same))

opened_answered : (slots : List (Option Transaction)) (place id : ℕ) (t : Transaction) (b : Bool) → id ≢ place → IsAnswered slots id → IsAnswered (cond b (slice_set slots place (Some t)) (slots ++ Some t ∷ [])) id
opened_answered slots place id t true differ a = record { transaction = a.transaction; stands = get_or-set_other slots place id (Some t) None differ ∙ a.stands; final = a.final }
opened_answered slots place id t false differ a = record {
  transaction = a.transaction;
  stands = get_or_append_left slots (Some t ∷ []) None id (inside slots id a.transaction a.stands) ∙ a.stands;
  final = a.final;
}

pub all_answered : (now : ℕ) (table : Contents) (changes : List Entry) (id : ℕ) → NoneFires changes → IsAnswered table.slots id → IsAnswered (entered_all now table changes).slots id
all_answered now table [] id none a = a
all_answered now table (Opens t starts ∷ changes) id none a =
    all_answered now (entered now table (Opens t starts)) changes id none
    (opened_answered table.slots (free_number table.slots) id t (nat_lt (free_number table.slots) (length table.slots)) (free_differs table.slots id a.transaction a.stands) a)
all_answered now table (Tells other input fresh ∷ changes) id none a =
    all_answered now (entered now table (Tells other input fresh)) changes id none.1 (told_answered table id other input fresh now none.0 a)
all_answered now table (Answers other class bytes ∷ changes) id none a =
    all_answered now (entered now table (Answers other class bytes)) changes id none (told_answered table id other (inputs.Answer class) (Some bytes) now refl a)
all_answered now table (Leaves ∷ changes) id none a = all_answered now (entered now table Leaves) changes id none a

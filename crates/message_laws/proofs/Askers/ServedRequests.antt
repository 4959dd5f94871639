-- A server transaction that has no final response waits on, whatever comes but its own final response.
use Rattle.std.proofs.Common.{◌≡◌, ◌≢◌, ◌∙◌, ℕ, Bool, true, false, cond, List, [], ◌∷◌, ◌++◌, length, nat_lt, Option, Some, None, option_map, refl, ap, sym, subst, inl, inr}
use Rattle.std.specs.Prelude.{IfSome, slice_set}
use Rattle.std.specs.List.{All}
use Rattle.std.proofs.lemmas.Bool.{cases_eq, cases_lt, false≢true}
use Rattle.std.proofs.lemmas.List.{get_or-set_other, get_or-set_same, get_or_append_left, get_or_past}
use Rattle.std.proofs.lemmas.List.Elements.{All-push, All-set}
use Rattle.std.proofs.lemmas.Option.{none-some, same_Some}
use Rattle.sip_message.specs.declared.words.Class.TheVariants as classes
use Rattle.sip_message.specs.declared.message.Parts.{Parts}
use Rattle.transaction_machines.specs.declared.input.Input.{Input}
use Rattle.transaction_machines.specs.declared.input.Input.TheVariants as inputs
use Rattle.transaction_machines.specs.declared.invite_server.InviteServer.{InviteServer}
use Rattle.transaction_machines.specs.declared.invite_server.InviteServer.TheVariants as invites
use Rattle.transaction_machines.specs.declared.other_server.OtherServer.{OtherServer}
use Rattle.transaction_machines.specs.declared.other_server.OtherServer.TheVariants as others
use Rattle.transaction_machines.specs.declared.state.State.{State}
use Rattle.transaction_machines.specs.declared.state.State.TheVariants as machine
use Rattle.transaction_machines.specs.declared.step.Step.{Step}
use Rattle.transaction_machines.specs.InviteServer.{invite_server_row}
use Rattle.transaction_machines.specs.Machines.{KeepsSide, is_server, row_of}
use Rattle.transaction_machines.specs.OtherServer.{other_server_row}
use Rattle.transactions.specs.declared.change.Entry.{Entry}
use Rattle.transactions.specs.declared.change.Entry.TheVariants.{Opens, Tells, Answers, Leaves}
use Rattle.transactions.specs.declared.transaction.Transaction.{Transaction}
use Rattle.transactions.specs.Changes.{entered, entered_all}
use Rattle.transactions.specs.Contents.{Contents, stepped_by, table_at}
use Rattle.transactions.specs.Slots.{at, free_number}
use Rattle.transactions.specs.Transactions.{went}
use Rattle.message_laws.specs.Askers.{IsAsked, IsAskedIf, IsUnanswered, is_unanswered}
use Rattle.message_laws.proofs.AwaitedOffers.Coming.{inside}
use Rattle.message_laws.proofs.AwaitedOffers.Firing.{free_differs, told_elsewhere}
use Rattle.message_laws.proofs.TokenUse.Sides.{keeps_side}
use Rattle.message_laws.proofs.Askers.Speaking.{EnterAsked, EntersAsked}

-- ---- inputs and changes that are no final response to this transaction

abbrev pub OnlyEarly : Input → Type 0
OnlyEarly (inputs.Answer class) = class ≡ classes.Provisional
OnlyEarly input = Unit {0}

abbrev pub Spares : ℕ → Entry → Type 0
Spares id (Opens t starts) = Unit {0}
Spares id (Tells other input fresh) = OnlyEarly input
Spares id (Answers other class bytes) = id ≡ other → class ≡ classes.Provisional
Spares id Leaves = Unit {0}

abbrev pub SpareAll : ℕ → List Entry → Type 0
SpareAll id [] = Unit {0}
SpareAll id (change ∷ changes) = Spares id change × SpareAll id changes

pub spare_joined : (id : ℕ) (xs ys : List Entry) → SpareAll id xs → SpareAll id ys → SpareAll id (xs ++ ys)
spare_joined id [] ys h k = k
spare_joined id (x ∷ xs) ys h k = (h.0, spare_joined id xs ys h.1 k)

-- ---- a line

abbrev WaitsIf : Option Step → Type 0
WaitsIf None = Unit {0}
WaitsIf (Some step) = (n : State) × (step.next ≡ Some n) × (is_unanswered n ≡ true)

invite_waits : (state : InviteServer) (input : Input) → is_unanswered (machine.InviteServer state) ≡ true → OnlyEarly input → WaitsIf (invite_server_row state input)
unfolding invite_server_row
invite_waits invites.Proceeding (inputs.Answer classes.Provisional) h o = (machine.InviteServer invites.Proceeding, refl, refl)
invite_waits invites.Proceeding (inputs.Answer classes.Success) h o = absurd cc
invite_waits invites.Proceeding (inputs.Answer classes.Failure) h o = absurd cc
invite_waits invites.Proceeding inputs.Repeat h o = (machine.InviteServer invites.Proceeding, refl, refl)
invite_waits invites.Proceeding inputs.Ack h o = tt
invite_waits invites.Proceeding (inputs.Response class) h o = tt
invite_waits invites.Proceeding inputs.Abandon h o = tt
invite_waits invites.Proceeding (inputs.Fires kind) h o = tt
invite_waits (invites.Completed interval) input h o = absurd (false≢true h)
invite_waits invites.Confirmed input h o = absurd (false≢true h)
invite_waits invites.Accepted input h o = absurd (false≢true h)

other_waits : (state : OtherServer) (input : Input) → is_unanswered (machine.OtherServer state) ≡ true → OnlyEarly input → WaitsIf (other_server_row state input)
unfolding other_server_row
other_waits others.Trying (inputs.Answer classes.Provisional) h o = (machine.OtherServer others.Proceeding, refl, refl)
other_waits others.Trying (inputs.Answer classes.Success) h o = absurd cc
other_waits others.Trying (inputs.Answer classes.Failure) h o = absurd cc
other_waits others.Trying inputs.Repeat h o = tt
other_waits others.Trying inputs.Ack h o = tt
other_waits others.Trying (inputs.Response class) h o = tt
other_waits others.Trying inputs.Abandon h o = tt
other_waits others.Trying (inputs.Fires kind) h o = tt
other_waits others.Proceeding (inputs.Answer classes.Provisional) h o = (machine.OtherServer others.Proceeding, refl, refl)
other_waits others.Proceeding (inputs.Answer classes.Success) h o = absurd cc
other_waits others.Proceeding (inputs.Answer classes.Failure) h o = absurd cc
other_waits others.Proceeding inputs.Repeat h o = (machine.OtherServer others.Proceeding, refl, refl)
other_waits others.Proceeding inputs.Ack h o = tt
other_waits others.Proceeding (inputs.Response class) h o = tt
other_waits others.Proceeding inputs.Abandon h o = tt
other_waits others.Proceeding (inputs.Fires kind) h o = tt
other_waits others.Completed input h o = absurd (false≢true h)

line_waits : (state : State) (input : Input) → is_unanswered state ≡ true → OnlyEarly input → WaitsIf (row_of state input)
unfolding row_of
line_waits (machine.InviteClient state) input h o = absurd (false≢true h)
line_waits (machine.InviteServer state) input h o = invite_waits state input h o
line_waits (machine.OtherClient state) input h o = absurd (false≢true h)
line_waits (machine.OtherServer state) input h o = other_waits state input h o

-- ---- a transaction

-- it is live with these parts, and has sent no final response
pub record StandsAs (parts : Parts) (slots : List (Option Transaction)) (id : ℕ) : Type 0 where
  pub transaction : Transaction
  pub stands : at slots id ≡ Some transaction
  pub unanswered : is_unanswered transaction.state ≡ true
  pub same : transaction.parts ≡ parts

went_waits : (slots : List (Option Transaction)) (id : ℕ) (t : Transaction) (fresh : Option (List ℕ)) (next : Option State) (n : State) → next ≡ Some n → is_unanswered n ≡ true
    → at slots id ≡ option_map (went t fresh) next → StandsAs t.parts slots id
went_waits slots id t fresh None n is h e = absurd (none-some n is)
went_waits slots id t fresh (Some m) n is h e = record { transaction = went t fresh m; stands = e; unanswered = ap is_unanswered (same_Some m n is) ∙ h; same = refl }

stepped_waits : (table : Contents) (id : ℕ) (t : Transaction) (fresh : Option (List ℕ)) (now : ℕ) (line : Option Step) → at table.slots id ≡ Some t → is_unanswered t.state ≡ true → WaitsIf line
    → StandsAs t.parts (stepped_by table id t fresh now line).slots id
stepped_waits table id t fresh now None there h w = record { transaction = t; stands = there; unanswered = h; same = refl }
stepped_waits table id t fresh now (Some step) there h w =
    went_waits (stepped_by table id t fresh now (Some step)).slots id t fresh step.next w.0 w.1 w.2
    (get_or-set_same table.slots id (option_map (went t fresh) step.next) None (inside table.slots id t there))

same_waits : (table : Contents) (id : ℕ) (t : Transaction) (input : Input) (fresh : Option (List ℕ)) (now : ℕ) (o : Option Transaction) → o ≡ Some t → at table.slots id ≡ Some t → is_unanswered t.state ≡ true
    → OnlyEarly input → StandsAs t.parts (table_at table id o input fresh now).slots id
same_waits table id t input fresh now None is there h e = absurd (none-some t is)
same_waits table id t input fresh now (Some x) is there h e =
    let open_x : is_unanswered x.state ≡ true = ap (λ (y : Transaction). is_unanswered y.state) (same_Some x t is) ∙ h in
    subst (λ (y : Transaction). StandsAs y.parts (stepped_by table id x fresh now (row_of x.state input)).slots id) (same_Some x t is)
    (stepped_waits table id x fresh now (row_of x.state input) (there ∙ sym is) open_x (line_waits x.state input open_x e))

told_waits : (parts : Parts) (table : Contents) (id other : ℕ) (input : Input) (fresh : Option (List ℕ)) (now : ℕ) → (id ≡ other → OnlyEarly input) → StandsAs parts table.slots id
    → StandsAs parts (table_at table other (at table.slots other) input fresh now).slots id
told_waits parts table id other input fresh now e a = elim (cases_eq id other) [
  | inl same ↦ subst (λ n. StandsAs parts (table_at table other (at table.slots other) input fresh now).slots n) (sym same)
      (subst (λ p. StandsAs p (table_at table other (at table.slots other) input fresh now).slots other) a.same
      (same_waits table other a.transaction input fresh now (at table.slots other) (ap (at table.slots) (sym same) ∙ a.stands) (ap (at table.slots) (sym same) ∙ a.stands) a.unanswered (e same)))
  | inr differ ↦ record { transaction = a.transaction; stands = told_elsewhere table id other (at table.slots other) input fresh now differ ∙ a.stands; unanswered = a.unanswered; same = a.same }
]

opened_waits : (parts : Parts) (slots : List (Option Transaction)) (place id : ℕ) (t : Transaction) (b : Bool) → id ≢ place → StandsAs parts slots id → StandsAs parts (cond b (slice_set slots place (Some t)) (slots ++ Some t ∷ [])) id
opened_waits parts slots place id t true differ a = record { transaction = a.transaction; stands = get_or-set_other slots place id (Some t) None differ ∙ a.stands; unanswered = a.unanswered; same = a.same }
opened_waits parts slots place id t false differ a = record {
  transaction = a.transaction;
  stands = get_or_append_left slots (Some t ∷ []) None id (inside slots id a.transaction a.stands) ∙ a.stands;
  unanswered = a.unanswered;
  same = a.same;
}

one_stands : (parts : Parts) (now : ℕ) (table : Contents) (change : Entry) (id : ℕ) → Spares id change → StandsAs parts table.slots id → StandsAs parts (entered now table change).slots id
one_stands parts now table (Opens t starts) id e a =
    opened_waits parts table.slots (free_number table.slots) id t (nat_lt (free_number table.slots) (length table.slots)) (free_differs table.slots id a.transaction a.stands) a
one_stands parts now table (Tells other input fresh) id e a = told_waits parts table id other input fresh now (λ same. e) a
one_stands parts now table (Answers other class bytes) id e a = told_waits parts table id other (inputs.Answer class) (Some bytes) now e a
one_stands parts now table Leaves id e a = a

-- a request that waits goes on to wait
pub all_stand : (parts : Parts) (now : ℕ) (table : Contents) (changes : List Entry) (id : ℕ) → SpareAll id changes → StandsAs parts table.slots id → StandsAs parts (entered_all now table changes).slots id
all_stand parts now table [] id e a = a
all_stand parts now table (change ∷ changes) id e a = all_stand parts now (entered now table change) changes id e.1 (one_stands parts now table change id e.0 a)

pub stands_as : (slots : List (Option Transaction)) (id : ℕ) (a : IsUnanswered slots id) → StandsAs a.transaction.parts slots id
stands_as slots id a = record { transaction = a.transaction; stands = a.stands; unanswered = a.unanswered; same = refl }

waits_as : (parts : Parts) (slots : List (Option Transaction)) (id : ℕ) → StandsAs parts slots id → IsUnanswered slots id
waits_as parts slots id a = record { transaction = a.transaction; stands = a.stands; unanswered = a.unanswered }

pub one_waits : (now : ℕ) (table : Contents) (change : Entry) (id : ℕ) → Spares id change → IsUnanswered table.slots id → IsUnanswered (entered now table change).slots id
one_waits now table change id e a = waits_as a.transaction.parts (entered now table change).slots id (one_stands a.transaction.parts now table change id e (stands_as table.slots id a))

pub all_waits : (now : ℕ) (table : Contents) (changes : List Entry) (id : ℕ) → SpareAll id changes → IsUnanswered table.slots id → IsUnanswered (entered_all now table changes).slots id
all_waits now table changes id e a = waits_as a.transaction.parts (entered_all now table changes).slots id (all_stand a.transaction.parts now table changes id e (stands_as table.slots id a))

-- ---- each request that is answered was read, after changes too

asked_at : (slots : List (Option Transaction)) (id : ℕ) (t : Transaction) → All IsAskedIf slots → at slots id ≡ Some t → IsAsked t
asked_at slots id t all there = elim (cases_lt id (length slots)) [
  | inl lt ↦ subst IsAskedIf there (all id None lt)
  | inr le ↦ absurd (none-some t (sym (get_or_past slots id None le) ∙ there))
]

asked_went : (t : Transaction) (fresh : Option (List ℕ)) (next : Option State) → KeepsSide t.state next → IsAsked t → IsAskedIf (option_map (went t fresh) next)
asked_went t fresh None side h = tt
asked_went t fresh (Some next) side h = λ server. h (sym side ∙ server)

stepped_asked : (table : Contents) (id : ℕ) (t : Transaction) (fresh : Option (List ℕ)) (now : ℕ) (line : Option Step) → IfSome line (λ step. KeepsSide t.state step.next)
    → IsAsked t → All IsAskedIf table.slots → All IsAskedIf (stepped_by table id t fresh now line).slots
stepped_asked table id t fresh now None side h all = all
stepped_asked table id t fresh now (Some step) side h all = All-set IsAskedIf table.slots id (option_map (went t fresh) step.next) (asked_went t fresh step.next side h) all

told_asked : (table : Contents) (id : ℕ) (o : Option Transaction) (input : Input) (fresh : Option (List ℕ)) (now : ℕ) → at table.slots id ≡ o → All IsAskedIf table.slots
    → All IsAskedIf (table_at table id o input fresh now).slots
told_asked table id None input fresh now there all = all
told_asked table id (Some t) input fresh now there all = stepped_asked table id t fresh now (row_of t.state input) (keeps_side t.state input) (asked_at table.slots id t all there) all

placed_asked : (slots : List (Option Transaction)) (id : ℕ) (t : Transaction) (b : Bool) → IsAsked t → All IsAskedIf slots → All IsAskedIf (cond b (slice_set slots id (Some t)) (slots ++ Some t ∷ []))
placed_asked slots id t true h all = All-set IsAskedIf slots id (Some t) h all
placed_asked slots id t false h all = All-push IsAskedIf slots (Some t) all h

entered_asked : (now : ℕ) (table : Contents) (change : Entry) → EntersAsked change → All IsAskedIf table.slots → All IsAskedIf (entered now table change).slots
entered_asked now table (Opens t starts) h all = placed_asked table.slots (free_number table.slots) t (nat_lt (free_number table.slots) (length table.slots)) h all
entered_asked now table (Tells id input fresh) h all = told_asked table id (at table.slots id) input fresh now refl all
entered_asked now table (Answers id class bytes) h all = told_asked table id (at table.slots id) (inputs.Answer class) (Some bytes) now refl all
entered_asked now table Leaves h all = all

pub all_entered_asked : (now : ℕ) (table : Contents) (changes : List Entry) → EnterAsked changes → All IsAskedIf table.slots → All IsAskedIf (entered_all now table changes).slots
all_entered_asked now table [] h all = all
all_entered_asked now table (change ∷ changes) h all = all_entered_asked now (entered now table change) changes h.1 (entered_asked now table change h.0 all)

pub served_asked : (slots : List (Option Transaction)) (id : ℕ) → All IsAskedIf slots → (a : IsUnanswered slots id) → is_server a.transaction.state ≡ true → IsAsked a.transaction
served_asked slots id all a server = asked_at slots id a.transaction all a.stands

pub unanswered_server : (state : State) → is_unanswered state ≡ true → is_server state ≡ true
unanswered_server (machine.InviteClient state) h = absurd (false≢true h)
unanswered_server (machine.InviteServer state) h = refl
unanswered_server (machine.OtherClient state) h = absurd (false≢true h)
unanswered_server (machine.OtherServer state) h = refl

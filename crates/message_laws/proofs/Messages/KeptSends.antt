-- What an event has the agent keep, to be sent again, it sends.
use Rattle.std.proofs.Common.{◌≡◌, ◌∙◌, ℕ, Bool, true, false, cond, List, [], ◌∷◌, ◌++◌, codes, length, nat_lt, Option, Some, None, option_map, position, refl, sym, subst, inl, inr}
use Rattle.std.specs.Prelude.{slice_set}
use Rattle.std.specs.List.{All}
use Rattle.std.proofs.lemmas.Bool.{cases_lt}
use Rattle.std.proofs.lemmas.List.{get_or_past}
use Rattle.std.proofs.lemmas.List.Elements.{All-push, All-set, All-weaker}
use Rattle.std.proofs.lemmas.Option.{none-some}
use Rattle.events.specs.declared.sent.Sent.{Sent}
use Rattle.sip_uri.specs.declared.uri.Addr.{Addr}
use Rattle.sip_message.specs.declared.message.Message.{Message}
use Rattle.sip_message.specs.declared.message.Message.TheVariants as Kinds
use Rattle.sip_message.specs.declared.message.Request.{Request}
use Rattle.sip_message.specs.declared.message.Response.{Response}
use Rattle.sip_message.specs.Words.{is_method}
use Rattle.transaction_machines.specs.declared.input.Input.{Input}
use Rattle.transaction_machines.specs.declared.input.Input.TheVariants as machine_inputs
use Rattle.transaction_machines.specs.declared.state.State.{State}
use Rattle.transaction_machines.specs.declared.step.Sending.{Sending}
use Rattle.transaction_machines.specs.declared.step.Sending.TheVariants.{Nothing, Again, Fresh}
use Rattle.transaction_machines.specs.declared.step.Starts.TheVariants.{NoTimer}
use Rattle.transaction_machines.specs.declared.step.Step.{Step}
use Rattle.transaction_machines.specs.Machines.{row_of}
use Rattle.transactions.specs.declared.change.Entry.{Entry}
use Rattle.transactions.specs.declared.change.Entry.TheVariants.{Opens, Tells, Answers, Leaves}
use Rattle.transactions.specs.declared.transaction.Transaction.{Transaction}
use Rattle.transactions.specs.Changes.{change_of, entered, entered_all, request_change, response_change}
use Rattle.transactions.specs.Contents.{Contents, ack_at, ack_by, ack_for, reception_at, reception_by, reception_of, response_input, response_reception, stepped_by, table_at}
use Rattle.transactions.specs.Slots.{at, free_number, is_answered, is_asked}
use Rattle.transactions.specs.Transactions.{latest, outgoing, sent, served, went}
use Rattle.message_laws.specs.Sending.{AckWasSent, AnswerWasSent, CallWasSent, LastWasSent, WasSent, WasSentIf}
use Rattle.plans.specs.Plan.{goes}

-- ---- lists of datagrams

pub sent_left : (xs ys : List Sent) (bytes : List ℕ) → WasSent xs bytes → WasSent (xs ++ ys) bytes
sent_left [] ys bytes h = absurd h
sent_left (x ∷ xs) ys bytes (inl h) = inl h
sent_left (x ∷ xs) ys bytes (inr h) = inr (sent_left xs ys bytes h)

pub sent_right : (xs ys : List Sent) (bytes : List ℕ) → WasSent ys bytes → WasSent (xs ++ ys) bytes
sent_right [] ys bytes h = h
sent_right (x ∷ xs) ys bytes h = inr (sent_right xs ys bytes h)

-- all of the one are among the other
abbrev pub Within : List Sent → List Sent → Type 0
Within xs ys = (bytes : List ℕ) → WasSent xs bytes → WasSent ys bytes

pub if_within : (xs ys : List Sent) (bytes : Option (List ℕ)) → Within xs ys → WasSentIf xs bytes → WasSentIf ys bytes
if_within xs ys None w h = h
if_within xs ys (Some bytes) w h = w bytes h

last_within : (xs ys : List Sent) (t : Option Transaction) → Within xs ys → LastWasSent xs t → LastWasSent ys t
last_within xs ys None w h = h
last_within xs ys (Some t) w h = if_within xs ys t.last w h

answer_within : (xs ys : List Sent) (answer : Option Sent) → Within xs ys → AnswerWasSent xs answer → AnswerWasSent ys answer
answer_within xs ys None w h = h
answer_within xs ys (Some answer) w h = w answer.bytes h

-- ---- changes of the transactions

abbrev pub EntryWasSent : List Sent → Entry → Type 0
EntryWasSent all (Opens t starts) = WasSentIf all t.last
EntryWasSent all (Tells id input fresh) = WasSentIf all fresh
EntryWasSent all (Answers id class bytes) = WasSent all bytes
EntryWasSent all Leaves = Unit {0}

abbrev pub EntriesWereSent : List Sent → List Entry → Type 0
EntriesWereSent all [] = Unit {0}
EntriesWereSent all (change ∷ changes) = EntryWasSent all change × EntriesWereSent all changes

entry_within : (xs ys : List Sent) (change : Entry) → Within xs ys → EntryWasSent xs change → EntryWasSent ys change
entry_within xs ys (Opens t starts) w h = if_within xs ys t.last w h
entry_within xs ys (Tells id input fresh) w h = if_within xs ys fresh w h
entry_within xs ys (Answers id class bytes) w h = w bytes h
entry_within xs ys Leaves w h = h

pub entries_within : (xs ys : List Sent) (changes : List Entry) → Within xs ys → EntriesWereSent xs changes → EntriesWereSent ys changes
entries_within xs ys [] w h = h
entries_within xs ys (change ∷ changes) w h = (entry_within xs ys change w h.0, entries_within xs ys changes w h.1)

pub entries_joined : (all : List Sent) (xs ys : List Entry) → EntriesWereSent all xs → EntriesWereSent all ys → EntriesWereSent all (xs ++ ys)
entries_joined all [] ys h k = k
entries_joined all (x ∷ xs) ys h k = (h.0, entries_joined all xs ys h.1 k)

-- ---- changes that give a transaction nothing

abbrev pub BytesWereSaid : List Sent → Option (List ℕ) → Type 0
BytesWereSaid all None = ⊥
BytesWereSaid all (Some bytes) = WasSent all bytes

abbrev pub EntryWasSaid : List Sent → Entry → Type 0
EntryWasSaid all (Opens t starts) = BytesWereSaid all t.last
EntryWasSaid all (Tells id input fresh) = ⊥
EntryWasSaid all (Answers id class bytes) = WasSent all bytes
EntryWasSaid all Leaves = Unit {0}

-- one at most
abbrev pub EntriesWereSaid : List Sent → List Entry → Type 0
EntriesWereSaid all [] = Unit {0}
EntriesWereSaid all (change ∷ []) = EntryWasSaid all change
EntriesWereSaid all (change ∷ other ∷ changes) = ⊥

bytes_said : (all : List Sent) (bytes : Option (List ℕ)) → BytesWereSaid all bytes → WasSentIf all bytes
bytes_said all None h = absurd h
bytes_said all (Some bytes) h = h

entry_said : (all : List Sent) (change : Entry) → EntryWasSaid all change → EntryWasSent all change
entry_said all (Opens t starts) h = bytes_said all t.last h
entry_said all (Tells id input fresh) h = absurd h
entry_said all (Answers id class bytes) h = h
entry_said all Leaves h = h

pub entries_said : (all : List Sent) (changes : List Entry) → EntriesWereSaid all changes → EntriesWereSent all changes
entries_said all [] h = h
entries_said all (change ∷ []) h = (entry_said all change h, tt)
entries_said all (change ∷ other ∷ changes) h = absurd h

-- ---- the transactions after changes

last_latest : (all : List Sent) (fresh last : Option (List ℕ)) → WasSentIf all fresh → WasSentIf all last → WasSentIf all (latest fresh last)
last_latest all None last h k = k
last_latest all (Some bytes) last h k = h

last_went : (all : List Sent) (t : Transaction) (fresh : Option (List ℕ)) (next : Option State) → WasSentIf all fresh → WasSentIf all t.last → LastWasSent all (option_map (went t fresh) next)
last_went all t fresh None h k = tt
last_went all t fresh (Some next) h k = last_latest all fresh t.last h k

last_at : (all : List Sent) (slots : List (Option Transaction)) (id : ℕ) (t : Transaction) → All (LastWasSent all) slots → at slots id ≡ Some t → WasSentIf all t.last
last_at all slots id t each there = elim (cases_lt id (length slots)) [
  | inl lt ↦ subst (LastWasSent all) there (each id None lt)
  | inr le ↦ absurd (none-some t (sym (get_or_past slots id None le) ∙ there))
]

stepped_last : (all : List Sent) (table : Contents) (id : ℕ) (t : Transaction) (fresh : Option (List ℕ)) (now : ℕ) (line : Option Step) → WasSentIf all fresh → WasSentIf all t.last
    → All (LastWasSent all) table.slots → All (LastWasSent all) (stepped_by table id t fresh now line).slots
stepped_last all table id t fresh now None h k each = each
stepped_last all table id t fresh now (Some step) h k each =
    All-set (LastWasSent all) table.slots id (option_map (went t fresh) step.next) (last_went all t fresh step.next h k) each

told_last : (all : List Sent) (table : Contents) (id : ℕ) (o : Option Transaction) (input : Input) (fresh : Option (List ℕ)) (now : ℕ) → at table.slots id ≡ o → WasSentIf all fresh
    → All (LastWasSent all) table.slots → All (LastWasSent all) (table_at table id o input fresh now).slots
told_last all table id None input fresh now there h each = each
told_last all table id (Some t) input fresh now there h each = stepped_last all table id t fresh now (row_of t.state input) h (last_at all table.slots id t each there) each

placed_last : (all : List Sent) (slots : List (Option Transaction)) (id : ℕ) (t : Transaction) (b : Bool) → WasSentIf all t.last → All (LastWasSent all) slots
    → All (LastWasSent all) (cond b (slice_set slots id (Some t)) (slots ++ Some t ∷ []))
placed_last all slots id t true h each = All-set (LastWasSent all) slots id (Some t) h each
placed_last all slots id t false h each = All-push (LastWasSent all) slots (Some t) each h

entered_last : (all : List Sent) (now : ℕ) (table : Contents) (change : Entry) → EntryWasSent all change → All (LastWasSent all) table.slots → All (LastWasSent all) (entered now table change).slots
entered_last all now table (Opens t starts) h each = placed_last all table.slots (free_number table.slots) t (nat_lt (free_number table.slots) (length table.slots)) h each
entered_last all now table (Tells id input fresh) h each = told_last all table id (at table.slots id) input fresh now refl h each
entered_last all now table (Answers id class bytes) h each = told_last all table id (at table.slots id) (machine_inputs.Answer class) (Some bytes) now refl h each
entered_last all now table Leaves h each = each

pub all_entered_last : (all : List Sent) (now : ℕ) (table : Contents) (changes : List Entry) → EntriesWereSent all changes → All (LastWasSent all) table.slots
    → All (LastWasSent all) (entered_all now table changes).slots
all_entered_last all now table [] h each = each
all_entered_last all now table (change ∷ changes) h each =
    all_entered_last all now (entered now table change) changes h.1 (entered_last all now table change h.0 each)

-- ---- what stays

pub slots_within : (xs ys : List Sent) (slots : List (Option Transaction)) → Within xs ys → All (LastWasSent xs) slots → All (LastWasSent ys) slots
slots_within xs ys slots w each = All-weaker (LastWasSent xs) (LastWasSent ys) (λ t. last_within xs ys t w) slots each

pub acks_within : (xs ys : List Sent) (acks : List _) → Within xs ys → All (AckWasSent xs) acks → All (AckWasSent ys) acks
acks_within xs ys acks w each = All-weaker (AckWasSent xs) (AckWasSent ys) (λ a. w a.sent.bytes) acks each

pub calls_within : (xs ys : List Sent) (calls : List _) → Within xs ys → All (CallWasSent xs) calls → All (CallWasSent ys) calls
calls_within xs ys calls w each = All-weaker (CallWasSent xs) (CallWasSent ys) (λ c. answer_within xs ys c.answer w) calls each

-- ---- what the transactions do with a message: what is fresh is sent

fresh_goes : (t : Transaction) (ack : Option (List ℕ)) → WasSentIf (goes (option_map (outgoing t.place) ack)) ack
fresh_goes t None = tt
fresh_goes t (Some bytes) = inl refl

fresh_by : (t : Transaction) (r : Response) (send : Sending) → WasSentIf (goes (sent t (ack_for t r send) send)) (ack_for t r send)
fresh_by t r Nothing = tt
fresh_by t r Again = tt
fresh_by t r Fresh = fresh_goes t (ack_for t r Fresh)

fresh_step : (id : ℕ) (t : Transaction) (r : Response) (step : Option Step) → WasSentIf (goes (reception_by id t (response_input r) (ack_by t r step) step).send) (ack_by t r step)
fresh_step id t r None = tt
fresh_step id t r (Some step) = fresh_by t r step.send

fresh_at : (id : ℕ) (t : Option Transaction) (r : Response) → WasSentIf (goes (reception_at id t (response_input r) (ack_at t r)).send) (ack_at t r)
fresh_at id None r = tt
fresh_at id (Some t) r = fresh_step id t r (row_of t.state (response_input r))

pub request_change_sent : (all : List Sent) (r : Request) (source : Addr) (id : Option ℕ) → EntryWasSent all (request_change r source id)
request_change_sent all r source None = begins_sent (is_method (codes "ACK") r.parts)
  where
    begins_sent : (b : Bool) → EntryWasSent all (cond b Leaves (Opens (served r source) NoTimer))
    begins_sent true = tt
    begins_sent false = tt
request_change_sent all r source (Some id) = tt

response_change_sent : (table : Contents) (r : Response) (id : Option ℕ) → EntryWasSent (goes (response_reception table r id).send) (response_change table r id)
response_change_sent table r None = tt
response_change_sent table r (Some id) = fresh_at id (at table.slots id) r

change_sent : (table : Contents) (m : Message) (source : Addr) → EntryWasSent (goes (reception_of table m).send) (change_of table m source)
unfolding change_of reception_of
change_sent table (Kinds.Request r) source = request_change_sent _ r source (position (is_asked r.parts) table.slots)
change_sent table (Kinds.Response r) source = response_change_sent table r (position (is_answered r.parts) table.slots)

pub message_sent : (table : Contents) (m : Message) (source : Addr) → EntriesWereSent (goes (reception_of table m).send) (change_of table m source ∷ [])
message_sent table m source = (change_sent table m source, tt)

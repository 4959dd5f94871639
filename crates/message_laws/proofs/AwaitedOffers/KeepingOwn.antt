-- A server transaction keeps responses, and a client transaction requests, whatever changes.
use Rattle.std.proofs.Common.{◌≡◌, ◌∙◌, ℕ, true, false, List, [], ◌∷◌, Option, Some, None, option_map, refl, sym, ap, subst, inl, inr}
use Rattle.std.specs.Prelude.{IfSome, slice_set}
use Rattle.std.proofs.lemmas.Bool.{cases_eq, false≢true}
use Rattle.std.proofs.lemmas.List.{get_or-set_same}
use Rattle.std.proofs.lemmas.Option.{none-some, same_Some}
use Rattle.sip_message.specs.declared.words.Class.{Class}
use Rattle.transaction_machines.specs.declared.input.Input.{Input}
use Rattle.transaction_machines.specs.declared.input.Input.TheVariants as inputs
use Rattle.transaction_machines.specs.declared.invite_client.InviteClient.{InviteClient}
use Rattle.transaction_machines.specs.declared.invite_client.InviteClient.TheVariants as clients
use Rattle.transaction_machines.specs.declared.invite_server.InviteServer.{InviteServer}
use Rattle.transaction_machines.specs.declared.invite_server.InviteServer.TheVariants as servers
use Rattle.transaction_machines.specs.declared.other_client.OtherClient.{OtherClient}
use Rattle.transaction_machines.specs.declared.other_client.OtherClient.TheVariants as others
use Rattle.transaction_machines.specs.declared.other_server.OtherServer.{OtherServer}
use Rattle.transaction_machines.specs.declared.other_server.OtherServer.TheVariants as served
use Rattle.transaction_machines.specs.declared.state.State.{State}
use Rattle.transaction_machines.specs.declared.state.State.TheVariants as machine
use Rattle.transaction_machines.specs.declared.step.Step.{Step}
use Rattle.transaction_machines.specs.InviteClient.{invite_client_row}
use Rattle.transaction_machines.specs.InviteServer.{invite_server_row}
use Rattle.transaction_machines.specs.OtherClient.{other_client_row}
use Rattle.transaction_machines.specs.OtherServer.{other_server_row}
use Rattle.transaction_machines.specs.Machines.{KeepsSide, is_server, row_of}
use Rattle.transactions.specs.Changes.{entered, entered_all}
use Rattle.transactions.specs.Contents.{Contents, stepped_by, table_at}
use Rattle.transactions.specs.Slots.{at}
use Rattle.transactions.specs.Transactions.{went}
use Rattle.transactions.specs.declared.change.Entry.{Entry}
use Rattle.transactions.specs.declared.change.Entry.TheVariants.{Opens, Tells, Answers, Leaves}
use Rattle.transactions.specs.declared.transaction.Transaction.{Transaction}
use Rattle.call_trace.specs.Listed.{AllOf}
use Rattle.message_laws.proofs.AwaitedOffers.Coming.{Placed, before, here, inside, opened_at, spot}
use Rattle.message_laws.proofs.AwaitedOffers.Firing.{told_elsewhere}
use Rattle.message_laws.proofs.TokenUse.Sides.{keeps_side}
use Rattle.message_laws.specs.Datagrams.{IsRequestText}
use Rattle.message_laws.specs.KnownTrace.{IsResponseText, KeepsOwnKind}
use Rattle.message_laws.proofs.Traces.Saying.{EntryKeeps, KeepsFresh, is_of_response}

-- ---- no server transaction is notified of a response, and no client transaction is given one to send

invite_told : (state : InviteServer) (class : Class) → invite_server_row state (inputs.Response class) ≡ None
unfolding invite_server_row
invite_told servers.Proceeding class = refl
invite_told (servers.Completed interval) class = refl
invite_told servers.Confirmed class = refl
invite_told servers.Accepted class = refl

other_told : (state : OtherServer) (class : Class) → other_server_row state (inputs.Response class) ≡ None
unfolding other_server_row
other_told served.Trying class = refl
other_told served.Proceeding class = refl
other_told served.Completed class = refl

server_told : (state : State) (class : Class) → is_server state ≡ true → row_of state (inputs.Response class) ≡ None
unfolding row_of
server_told (machine.InviteClient state) class server = absurd (false≢true server)
server_told (machine.InviteServer state) class server = invite_told state class
server_told (machine.OtherClient state) class server = absurd (false≢true server)
server_told (machine.OtherServer state) class server = other_told state class

invite_given : (state : InviteClient) (class : Class) → invite_client_row state (inputs.Answer class) ≡ None
unfolding invite_client_row
invite_given (clients.Calling interval abandoned) class = refl
invite_given clients.Proceeding class = refl
invite_given clients.Completed class = refl
invite_given clients.Accepted class = refl

other_given : (state : OtherClient) (class : Class) → other_client_row state (inputs.Answer class) ≡ None
unfolding other_client_row
other_given (others.Trying interval) class = refl
other_given others.Proceeding class = refl
other_given others.Completed class = refl

pub client_given : (state : State) (class : Class) → is_server state ≡ false → row_of state (inputs.Answer class) ≡ None
unfolding row_of
client_given (machine.InviteClient state) class client = invite_given state class
client_given (machine.InviteServer state) class client = absurd (false≢true (sym client))
client_given (machine.OtherClient state) class client = other_given state class
client_given (machine.OtherServer state) class client = absurd (false≢true (sym client))

input_told : (state : State) (input : Input) (step : Step) → is_of_response input ≡ true → is_server state ≡ true → row_of state input ≡ Some step → ⊥
input_told state (inputs.Response class) step of server is = none-some step (sym (server_told state class server) ∙ is)
input_told state inputs.Repeat step of server is = false≢true of
input_told state inputs.Ack step of server is = false≢true of
input_told state (inputs.Answer class) step of server is = false≢true of
input_told state inputs.Abandon step of server is = false≢true of
input_told state (inputs.Fires kind) step of server is = false≢true of

-- ---- a line

-- what is fresh is of the side's kind
pub record FreshFits (state : State) (fresh : Option (List ℕ)) : Type 0 where
  pub server : (bytes : List ℕ) → is_server state ≡ true → fresh ≡ Some bytes → IsResponseText bytes
  pub client : (bytes : List ℕ) → is_server state ≡ false → fresh ≡ Some bytes → IsRequestText bytes

told_fits : (state : State) (input : Input) (fresh : Option (List ℕ)) (step : Step) → KeepsFresh input fresh → row_of state input ≡ Some step → FreshFits state fresh
told_fits state input None step h is = record { server = λ bytes server e. absurd (none-some bytes e); client = λ bytes client e. absurd (none-some bytes e) }
told_fits state input (Some text) step h is = record {
  server = λ bytes server e. absurd (input_told state input step h.0 server is);
  client = λ bytes client e. subst IsRequestText (same_Some text bytes e) h.1;
}

given_fits : (state : State) (class : Class) (text : List ℕ) (step : Step) → IsResponseText text → row_of state (inputs.Answer class) ≡ Some step → FreshFits state (Some text)
given_fits state class text step h is = record {
  server = λ bytes server e. subst IsResponseText (same_Some text bytes e) h;
  client = λ bytes client e. absurd (none-some step (sym (client_given state class client) ∙ is));
}

latest_fits : (t : Transaction) (state : State) (fresh : Option (List ℕ)) → is_server state ≡ is_server t.state → FreshFits t.state fresh → KeepsOwnKind t → KeepsOwnKind (went t fresh state)
latest_fits t state None side h k = record { server = λ bytes server e. k.server bytes (sym side ∙ server) e; client = λ bytes client e. k.client bytes (sym side ∙ client) e }
latest_fits t state (Some text) side h k = record { server = λ bytes server e. h.server bytes (sym side ∙ server) e; client = λ bytes client e. h.client bytes (sym side ∙ client) e }

went_kept : (t x : Transaction) (fresh : Option (List ℕ)) (next : Option State) → KeepsSide t.state next → FreshFits t.state fresh → KeepsOwnKind t → option_map (went t fresh) next ≡ Some x → KeepsOwnKind x
went_kept t x fresh None side h k e = absurd (none-some x e)
went_kept t x fresh (Some state) side h k e = subst KeepsOwnKind (same_Some (went t fresh state) x e) (latest_fits t state fresh side h k)

-- ---- the slots

abbrev pub AreKept : List (Option Transaction) → Type 0
AreKept slots = (id : ℕ) (x : Transaction) → at slots id ≡ Some x → KeepsOwnKind x

stepped_kept : (table : Contents) (id j : ℕ) (t x : Transaction) (fresh : Option (List ℕ)) (now : ℕ) (line : Option Step) → IfSome line (λ step. KeepsSide t.state step.next) → ((step : Step) → line ≡ Some step → FreshFits t.state fresh)
    → KeepsOwnKind t → at table.slots id ≡ Some t → j ≡ id → at (stepped_by table id t fresh now line).slots j ≡ Some x → KeepsOwnKind x
stepped_kept table id j t x fresh now None side h k there same e = subst KeepsOwnKind (same_Some t x (sym there ∙ ap (at table.slots) (sym same) ∙ e)) k
stepped_kept table id j t x fresh now (Some step) side h k there same e =
    let next = option_map (went t fresh) step.next in
    went_kept t x fresh step.next side (h step refl) k (sym (get_or-set_same table.slots id next None (inside table.slots id t there)) ∙ ap (at (slice_set table.slots id next)) (sym same) ∙ e)

told_kept : (table : Contents) (id j : ℕ) (x : Transaction) (o : Option Transaction) (input : Input) (fresh : Option (List ℕ)) (now : ℕ) → AreKept table.slots → at table.slots id ≡ o
    → ((t : Transaction) (step : Step) → row_of t.state input ≡ Some step → FreshFits t.state fresh) → at (table_at table id o input fresh now).slots j ≡ Some x → KeepsOwnKind x
told_kept table id j x None input fresh now k there h e = k j x e
told_kept table id j x (Some t) input fresh now k there h e = elim (cases_eq j id) [
  | inl same ↦ stepped_kept table id j t x fresh now (row_of t.state input) (keeps_side t.state input) (λ step is. h t step is) (k id t there) there same e
  | inr other ↦ k j x (sym (told_elsewhere table j id (Some t) input fresh now other) ∙ e)
]

placed_kept : (slots : List (Option Transaction)) (t : Transaction) (put j : ℕ) (x : Transaction) → AreKept slots → KeepsOwnKind t → Placed slots t put j x → KeepsOwnKind x
placed_kept slots t put j x k h (before there) = k j x there
placed_kept slots t put j x k h (here same at_put) = subst KeepsOwnKind same h

one_kept : (now : ℕ) (table : Contents) (change : Entry) → AreKept table.slots → EntryKeeps change → AreKept (entered now table change).slots
one_kept now table (Opens t starts) k h j x e = placed_kept table.slots t (spot table.slots) j x k h (opened_at now table t x starts j e)
one_kept now table (Tells id input fresh) k h j x e = told_kept table id j x (at table.slots id) input fresh now k refl (λ t step is. told_fits t.state input fresh step h is) e
one_kept now table (Answers id class bytes) k h j x e = told_kept table id j x (at table.slots id) (inputs.Answer class) (Some bytes) now k refl (λ t step is. given_fits t.state class bytes step h is) e
one_kept now table Leaves k h j x e = k j x e

pub all_kept : (now : ℕ) (table : Contents) (changes : List Entry) → AreKept table.slots → AllOf EntryKeeps changes → AreKept (entered_all now table changes).slots
all_kept now table [] k h = k
all_kept now table (change ∷ changes) k h = all_kept now (entered now table change) changes (one_kept now table change k h.0) h.1

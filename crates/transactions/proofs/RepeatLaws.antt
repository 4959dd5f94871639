-- A copy of a request gets the bytes of its final response again.
use Rattle.std.proofs.Common.{◌≡◌, ℕ, Bool, true, false, cond, List, [], ◌∷◌, Option, Some, None, option_map, option_and_then, codes, position, is_some, refl, ap, sym, subst, ◌∙◌, inl, inr}
use Rattle.std.specs.Prelude.{IfSome, IsSome}
use Rattle.std.proofs.lemmas.Bool.{false≢true, cases_eq}
use Rattle.std.proofs.lemmas.List.{get_or-set_same}
use Rattle.sip_uri.specs.declared.uri.Addr.{Addr}
use Rattle.sip_message.specs.declared.message.Message.TheVariants as Kinds
use Rattle.sip_message.specs.declared.message.Request.{Request}
use Rattle.sip_message.specs.declared.message.Response.{Response}
use Rattle.sip_message.specs.declared.words.Class.{Class}
use Rattle.sip_message.specs.Words.{is_method, class_of}
use Rattle.sip_writing.specs.Writing.{message_text}
use Rattle.transaction_machines.specs.declared.input.Input.{Input}
use Rattle.transaction_machines.specs.declared.input.Input.TheVariants.{Repeat, Ack, Answer, Abandon, Fires}
use Rattle.transaction_machines.specs.declared.input.Input.TheVariants as inputs
use Rattle.transaction_machines.specs.declared.input.TimerKind.TheVariants.{G, H, I, J}
use Rattle.transaction_machines.specs.declared.invite_server.InviteServer.{InviteServer}
use Rattle.transaction_machines.specs.declared.invite_server.InviteServer.TheVariants as invite
use Rattle.transaction_machines.specs.declared.other_server.OtherServer.{OtherServer}
use Rattle.transaction_machines.specs.declared.other_server.OtherServer.TheVariants as other
use Rattle.transaction_machines.specs.declared.state.State.{State}
use Rattle.transaction_machines.specs.declared.state.State.TheVariants as machine
use Rattle.transaction_machines.specs.declared.step.Starts.{Starts}
use Rattle.transaction_machines.specs.declared.step.Starts.TheVariants.{NoTimer}
use Rattle.transaction_machines.specs.declared.step.Step.{Step}
use Rattle.transaction_machines.specs.InviteServer.{invite_server_row}
use Rattle.transaction_machines.specs.OtherServer.{other_server_row}
use Rattle.transaction_machines.specs.Machines.{row_of}
use Rattle.transactions.specs.declared.change.Entry.TheVariants.{Opens, Leaves}
use Rattle.transactions.specs.declared.outcome.Fired.TheVariants as fires
use Rattle.transactions.specs.declared.outcome.Verdict.TheVariants as verdicts
use Rattle.transactions.specs.declared.transaction.Transaction.{Transaction}
use Rattle.transactions.specs.Slots.{at, is_asked, is_answered}
use Rattle.transactions.specs.Transactions.{served, asking, asking_timers, went, outgoing}
use Rattle.transactions.specs.Contents.{Contents, stepped_by, table_at, ack_at, input_of, response_input, answer_input, reception_by, reception_at, reception_of, fired_step}
use Rattle.transactions.specs.Changes.{entered, request_change, response_change, change_of, after_message}
use Rattle.transactions.specs.Calls as calls
use Rattle.transactions.specs.Calls.{Call, after, after_all}
use Rattle.transactions.specs.Once.{Lasts}
use Rattle.transactions.specs.Repeats.{is_completed, has_final, KeepsAnswer, KeepsAt, KeepsIfThere, KeepsFinal, LeavesAnswer, KeepsOver, RepeatsAnswer, ResendsAnswer}
use Rattle.transactions.proofs.LastingLaws.{within, other_left, placed_other}

-- ---- a line keeps the response

completed_is_final : (state : State) → is_completed state ≡ true → has_final state ≡ true
completed_is_final (machine.InviteClient state) h = absurd (false≢true h)
completed_is_final (machine.OtherClient state) h = absurd (false≢true h)
completed_is_final (machine.InviteServer invite.Proceeding) h = absurd (false≢true h)
completed_is_final (machine.InviteServer (invite.Completed interval)) h = refl
completed_is_final (machine.InviteServer invite.Confirmed) h = absurd (false≢true h)
completed_is_final (machine.InviteServer invite.Accepted) h = absurd (false≢true h)
completed_is_final (machine.OtherServer other.Trying) h = absurd (false≢true h)
completed_is_final (machine.OtherServer other.Proceeding) h = absurd (false≢true h)
completed_is_final (machine.OtherServer other.Completed) h = refl

abbrev LineKeeps : List ℕ → Transaction → Option (List ℕ) → Option Step → Type 0
LineKeeps bytes t fresh line = IfSome line (λ step. KeepsIfThere bytes (option_map (went t fresh) step.next))

invite_keeps : (bytes : List ℕ) (t : Transaction) (state : InviteServer) (input : Input) → has_final (machine.InviteServer state) ≡ true → t.last ≡ Some bytes
    → LineKeeps bytes t None (invite_server_row state input)
unfolding invite_server_row
invite_keeps bytes t invite.Proceeding input h last = absurd (false≢true h)
invite_keeps bytes t invite.Accepted input h last = absurd (false≢true h)
invite_keeps bytes t (invite.Completed interval) Repeat h last = record { final = refl; last = last }
invite_keeps bytes t (invite.Completed interval) Ack h last = record { final = refl; last = last }
invite_keeps bytes t (invite.Completed interval) (Fires G) h last = record { final = refl; last = last }
invite_keeps bytes t (invite.Completed interval) (Fires H) h last = tt
invite_keeps bytes t invite.Confirmed (Fires I) h last = tt
invite_keeps bytes t state input h last = tt

other_keeps : (bytes : List ℕ) (t : Transaction) (state : OtherServer) (input : Input) → has_final (machine.OtherServer state) ≡ true → t.last ≡ Some bytes
    → LineKeeps bytes t None (other_server_row state input)
unfolding other_server_row
other_keeps bytes t other.Trying input h last = absurd (false≢true h)
other_keeps bytes t other.Proceeding input h last = absurd (false≢true h)
other_keeps bytes t other.Completed Repeat h last = record { final = refl; last = last }
other_keeps bytes t other.Completed (Fires J) h last = tt
other_keeps bytes t state input h last = tt

line_keeps : (bytes : List ℕ) (t : Transaction) (state : State) (input : Input) → has_final state ≡ true → t.last ≡ Some bytes → LineKeeps bytes t None (row_of state input)
unfolding row_of
line_keeps bytes t (machine.InviteClient state) input h last = absurd (false≢true h)
line_keeps bytes t (machine.OtherClient state) input h last = absurd (false≢true h)
line_keeps bytes t (machine.InviteServer state) input h last = invite_keeps bytes t state input h last
line_keeps bytes t (machine.OtherServer state) input h last = other_keeps bytes t state input h last

-- no further response is taken, and no response of another comes
no_answer : (state : State) (class : Class) → has_final state ≡ true → row_of state (Answer class) ≡ None
unfolding row_of invite_server_row other_server_row
no_answer (machine.InviteClient state) class h = absurd (false≢true h)
no_answer (machine.OtherClient state) class h = absurd (false≢true h)
no_answer (machine.InviteServer invite.Proceeding) class h = absurd (false≢true h)
no_answer (machine.InviteServer (invite.Completed interval)) class h = refl
no_answer (machine.InviteServer invite.Confirmed) class h = refl
no_answer (machine.InviteServer invite.Accepted) class h = absurd (false≢true h)
no_answer (machine.OtherServer other.Trying) class h = absurd (false≢true h)
no_answer (machine.OtherServer other.Proceeding) class h = absurd (false≢true h)
no_answer (machine.OtherServer other.Completed) class h = refl

no_response : (state : State) (class : Class) → has_final state ≡ true → row_of state (inputs.Response class) ≡ None
unfolding row_of invite_server_row other_server_row
no_response (machine.InviteClient state) class h = absurd (false≢true h)
no_response (machine.OtherClient state) class h = absurd (false≢true h)
no_response (machine.InviteServer invite.Proceeding) class h = absurd (false≢true h)
no_response (machine.InviteServer (invite.Completed interval)) class h = refl
no_response (machine.InviteServer invite.Confirmed) class h = refl
no_response (machine.InviteServer invite.Accepted) class h = absurd (false≢true h)
no_response (machine.OtherServer other.Trying) class h = absurd (false≢true h)
no_response (machine.OtherServer other.Proceeding) class h = absurd (false≢true h)
no_response (machine.OtherServer other.Completed) class h = refl

none_keeps : (bytes : List ℕ) (t : Transaction) (fresh : Option (List ℕ)) (line : Option Step) → line ≡ None → LineKeeps bytes t fresh line
none_keeps bytes t fresh None e = tt
none_keeps bytes t fresh (Some step) e = absurd cc

-- ---- a call

own_keeps : (table : Contents) (id : ℕ) (t : Transaction) (bytes : List ℕ) (fresh : Option (List ℕ)) (now : ℕ) (line : Option Step) → at table.slots id ≡ Some t
    → KeepsAnswer bytes t → LineKeeps bytes t fresh line → KeepsIfThere bytes (at (stepped_by table id t fresh now line).slots id)
own_keeps table id t bytes fresh now None there h keeps = subst (λ o. KeepsIfThere bytes o) (sym there) h
own_keeps table id t bytes fresh now (Some step) there h keeps =
    subst (λ o. KeepsIfThere bytes o) (sym (get_or-set_same table.slots id (option_map (went t fresh) step.next) None (within table.slots id t there))) keeps

told_by : (table : Contents) (id : ℕ) (t : Transaction) (o : Option Transaction) (bytes : List ℕ) (input : Input) (fresh : Option (List ℕ)) (now : ℕ) → at table.slots id ≡ Some t
    → o ≡ Some t → KeepsAnswer bytes t → LineKeeps bytes t fresh (row_of t.state input) → KeepsIfThere bytes (at (table_at table id o input fresh now).slots id)
told_by table id t o bytes input fresh now there e h keeps = rw e (own_keeps table id t bytes fresh now (row_of t.state input) there h keeps)

told_keeps : (table : Contents) (place id : ℕ) (t : Transaction) (bytes : List ℕ) (input : Input) (fresh : Option (List ℕ)) (now : ℕ) → at table.slots id ≡ Some t
    → KeepsAnswer bytes t → LineKeeps bytes t fresh (row_of t.state input)
    → KeepsIfThere bytes (at (table_at table place (at table.slots place) input fresh now).slots id)
told_keeps table place id t bytes input fresh now there h keeps = elim (cases_eq place id) [
  | inl e ↦ subst (λ n. KeepsIfThere bytes (at (table_at table n (at table.slots n) input fresh now).slots id)) (sym e)
      (told_by table id t (at table.slots id) bytes input fresh now there there h keeps)
  | inr other ↦ subst (λ o. KeepsIfThere bytes o) (sym (other_left table place id (at table.slots place) input fresh now (λ e. other (sym e)) ∙ there)) h
]

begun_keeps : (table : Contents) (u : Transaction) (starts : Starts) (now id : ℕ) (t : Transaction) (bytes : List ℕ) (b : Bool) → at table.slots id ≡ Some t → KeepsAnswer bytes t
    → KeepsIfThere bytes (at (entered now table (cond b Leaves (Opens u starts))).slots id)
begun_keeps table u starts now id t bytes true there h = subst (λ o. KeepsIfThere bytes o) (sym there) h
begun_keeps table u starts now id t bytes false there h = subst (λ o. KeepsIfThere bytes o) (sym (placed_other table.slots id u t there)) h

request_keeps : (table : Contents) (r : Request) (source : Addr) (now id : ℕ) (t : Transaction) (bytes : List ℕ) (number : Option ℕ) → at table.slots id ≡ Some t
    → KeepsAnswer bytes t → KeepsIfThere bytes (at (entered now table (request_change r source number)).slots id)
request_keeps table r source now id t bytes None there h = begun_keeps table (served r source) NoTimer now id t bytes (is_method (codes "ACK") r.parts) there h
request_keeps table r source now id t bytes (Some place) there h =
    told_keeps table place id t bytes (input_of r.parts) None now there h (line_keeps bytes t t.state (input_of r.parts) h.final h.last)

response_keeps : (table : Contents) (r : Response) (now id : ℕ) (t : Transaction) (bytes : List ℕ) (number : Option ℕ) → at table.slots id ≡ Some t
    → KeepsAnswer bytes t → KeepsIfThere bytes (at (entered now table (response_change table r number)).slots id)
response_keeps table r now id t bytes None there h = subst (λ o. KeepsIfThere bytes o) (sym there) h
response_keeps table r now id t bytes (Some place) there h =
    let fresh = ack_at (at table.slots place) r in
    told_keeps table place id t bytes (response_input r) fresh now there h
    (none_keeps bytes t fresh (row_of t.state (response_input r)) (no_response t.state (class_of r.status) h.final))

pub leaves_answer : (table : Contents) (call : Call) → LeavesAnswer table call
unfolding after_message change_of
leaves_answer table (calls.Receive (Kinds.Request r) source now) id t bytes there h =
    request_keeps table r source now id t bytes (position (is_asked r.parts) table.slots) there h
leaves_answer table (calls.Receive (Kinds.Response r) source now) id t bytes there h =
    response_keeps table r now id t bytes (position (is_answered r.parts) table.slots) there h
leaves_answer table (calls.Start r to now) id t bytes there h =
    begun_keeps table (asking r to (message_text (Kinds.Request r))) (asking_timers r.parts) now id t bytes (is_method (codes "ACK") r.parts) there h
leaves_answer table (calls.Answer place r now) id t bytes there h =
    let fresh = Some (message_text (Kinds.Response r)) in
    told_keeps table place id t bytes (answer_input r) fresh now there h
    (none_keeps bytes t fresh (row_of t.state (answer_input r)) (no_answer t.state (class_of r.status) h.final))
leaves_answer table (calls.Abandon place now) id t bytes there h =
    told_keeps table place id t bytes Abandon None now there h (line_keeps bytes t t.state Abandon h.final h.last)
leaves_answer table (calls.Fire timer now) id t bytes there h =
    told_keeps table timer.id id t bytes (Fires timer.kind) None now there h (line_keeps bytes t t.state (Fires timer.kind) h.final h.last)
leaves_answer table calls.Leave id t bytes there h = subst (λ o. KeepsIfThere bytes o) (sym there) h

over_by : (table : Contents) (more : List Call) (id : ℕ) (bytes : List ℕ) (o : Option Transaction) → at table.slots id ≡ o → KeepsIfThere bytes o → Lasts id table more
    → KeepsIfThere bytes (at (after_all table more).slots id)
over_by table [] id bytes o there h lasts = subst (λ p. KeepsIfThere bytes p) (sym there) h
over_by table (call ∷ more) id bytes None there h lasts = absurd (nobody table id there lasts.0)
  where
    nobody : (table : Contents) (id : ℕ) → at table.slots id ≡ None → IsSome (at table.slots id) → ⊥
    nobody table id e some = false≢true (sym (ap is_some e) ∙ some)
over_by table (call ∷ more) id bytes (Some t) there h lasts =
    over_by (after table call) more id bytes (at (after table call).slots id) refl (leaves_answer table call id t bytes there h) lasts.1

pub keeps_over : (table : Contents) (more : List Call) → KeepsOver table more
keeps_over table more id t bytes there h lasts = over_by table more id bytes (Some t) there h lasts

-- ---- the response is given

given_by : (table : Contents) (id : ℕ) (t : Transaction) (bytes : List ℕ) (now : ℕ) (step : Step) (next : State) → at table.slots id ≡ Some t → step.next ≡ Some next
    → is_completed next ≡ true → KeepsAt bytes (stepped_by table id t (Some bytes) now (Some step)) id
given_by table id t bytes now step next there e h =
    let here = get_or-set_same table.slots id (option_map (went t (Some bytes)) step.next) None (within table.slots id t there) in
    (went t (Some bytes) next, here ∙ ap (option_map (went t (Some bytes))) e, record { final = completed_is_final next h; last = refl })

given_next : (table : Contents) (id : ℕ) (t : Transaction) (bytes : List ℕ) (now : ℕ) (step : Step) (next : Option State) → at table.slots id ≡ Some t → step.next ≡ next
    → IfSome next (λ s. is_completed s ≡ true → KeepsAt bytes (stepped_by table id t (Some bytes) now (Some step)) id)
given_next table id t bytes now step None there e = tt
given_next table id t bytes now step (Some s) there e = λ h. given_by table id t bytes now step s there e h

given_line : (table : Contents) (id : ℕ) (t : Transaction) (bytes : List ℕ) (now : ℕ) (line : Option Step) → at table.slots id ≡ Some t
    → IfSome line (λ step. IfSome step.next (λ s. is_completed s ≡ true → KeepsAt bytes (stepped_by table id t (Some bytes) now line) id))
given_line table id t bytes now None there = tt
given_line table id t bytes now (Some step) there = given_next table id t bytes now step step.next there refl

given_at : (table : Contents) (id : ℕ) (o : Option Transaction) (input : Input) (bytes : List ℕ) (now : ℕ) → at table.slots id ≡ o
    → IfSome (option_and_then (λ t. row_of t.state input) o) (λ step. IfSome step.next (λ s. is_completed s ≡ true
    → KeepsAt bytes (table_at table id o input (Some bytes) now) id))
given_at table id None input bytes now there = tt
given_at table id (Some t) input bytes now there = given_line table id t bytes now (row_of t.state input) there

pub keeps_final : (table : Contents) (id : ℕ) (r : Response) (now : ℕ) → KeepsFinal table id r now
keeps_final table id r now = given_at table id (at table.slots id) (answer_input r) (message_text (Kinds.Response r)) now refl

-- ---- a copy comes, and timer G fires

again_by : (id : ℕ) (t : Transaction) (bytes : List ℕ) (state : State) → is_completed state ≡ true → t.last ≡ Some bytes
    → reception_by id t Repeat None (row_of state Repeat) ≡ record { verdict = verdicts.Repeat; before = Some t.state; send = Some (outgoing t.place bytes) }
unfolding row_of invite_server_row other_server_row
again_by id t bytes (machine.InviteClient state) h last = absurd (false≢true h)
again_by id t bytes (machine.OtherClient state) h last = absurd (false≢true h)
again_by id t bytes (machine.InviteServer invite.Proceeding) h last = absurd (false≢true h)
again_by id t bytes (machine.InviteServer (invite.Completed interval)) h last = rw last refl
again_by id t bytes (machine.InviteServer invite.Confirmed) h last = absurd (false≢true h)
again_by id t bytes (machine.InviteServer invite.Accepted) h last = absurd (false≢true h)
again_by id t bytes (machine.OtherServer other.Trying) h last = absurd (false≢true h)
again_by id t bytes (machine.OtherServer other.Proceeding) h last = absurd (false≢true h)
again_by id t bytes (machine.OtherServer other.Completed) h last = rw last refl

told_again : (id : ℕ) (t : Transaction) (bytes : List ℕ) (o : Option Transaction) (ack : Bool) → o ≡ Some t → ack ≡ false → is_completed t.state ≡ true → t.last ≡ Some bytes
    → reception_at id o (cond ack Ack Repeat) None ≡ record { verdict = verdicts.Repeat; before = Some t.state; send = Some (outgoing t.place bytes) }
told_again id t bytes o true e a h last = absurd (false≢true (sym a))
told_again id t bytes o false e a h last = rw e (again_by id t bytes t.state h last)

pub repeats_answer : (table : Contents) (r : Request) → RepeatsAnswer table r
unfolding reception_of
repeats_answer table r id t bytes there h completed own no_ack =
    rw own (told_again id t bytes (at table.slots id) (is_method (codes "ACK") r.parts) there no_ack completed h.last)

resent_by : (t : Transaction) (bytes : List ℕ) (interval : ℕ) → t.last ≡ Some bytes
    → fired_step t (row_of (machine.InviteServer (invite.Completed interval)) (Fires G)) ≡ Some (fires.Send (outgoing t.place bytes))
unfolding row_of invite_server_row
resent_by t bytes interval last = rw last refl

pub resends_answer : (t : Transaction) → ResendsAnswer t
resends_answer t bytes interval is h = ap (λ s. fired_step t (row_of s (Fires G))) is ∙ resent_by t bytes interval h.last

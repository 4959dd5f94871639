-- Changes that are ready leave a table in which each timer that is set does something.
use Rattle.std.proofs.Common.{◌≡◌, ◌∙◌, ◌*◌, ◌||◌, ℕ, Bool, true, false, not, All, List, [], ◌∷◌, codes, cond, Option, Some, None, IfSome, is_some, arith, position, refl, sym}
use Rattle.std.proofs.lemmas.Bool.{cond_both, false≢true, or_right}
use Rattle.std.proofs.lemmas.List.Elements.{All-head, All-tail}
use Rattle.sip_uri.specs.declared.uri.Addr.{Addr}
use Rattle.sip_message.specs.Words.{is_method}
use Rattle.sip_message.specs.declared.message.Message.{Message}
use Rattle.sip_message.specs.declared.message.Message.TheVariants as Kinds
use Rattle.sip_message.specs.declared.message.Request.{Request}
use Rattle.sip_message.specs.declared.message.Response.{Response}
use Rattle.sip_writing.specs.Writing.{message_text}
use Rattle.transaction_machines.specs.InviteClient.{invite_client_row}
use Rattle.transaction_machines.specs.Lines.{follows, is_answer, repeats, starts_with_lines}
use Rattle.transaction_machines.specs.Machines.{row_of}
use Rattle.transaction_machines.specs.OtherClient.{other_client_row}
use Rattle.transaction_machines.specs.Steps.{IsShort, t1, timer}
use Rattle.transaction_machines.specs.declared.input.Input.{Input}
use Rattle.transaction_machines.specs.declared.input.Input.TheVariants as inputs
use Rattle.transaction_machines.specs.declared.input.TimerKind.TheVariants as letter
use Rattle.transaction_machines.specs.declared.invite_client.InviteClient.TheVariants.{Calling}
use Rattle.transaction_machines.specs.declared.invite_server.InviteServer.TheVariants as invite
use Rattle.transaction_machines.specs.declared.other_client.OtherClient.TheVariants as asked
use Rattle.transaction_machines.specs.declared.other_server.OtherServer.TheVariants as other
use Rattle.transaction_machines.specs.declared.state.State.TheVariants as machine
use Rattle.transaction_machines.specs.declared.step.Starts.TheVariants.{NoTimer, Two}
use Rattle.transaction_machines.specs.declared.step.Step.{Step}
use Rattle.transaction_machines.proofs.RowLaws.{row_follows}
use Rattle.transactions.specs.Changes.{IsReady, change_of, entered, entered_all, request_change, response_change, start_of}
use Rattle.transactions.specs.Contents.{Contents, stepped_by, table_at}
use Rattle.transactions.specs.Fireable.{IsFireable}
use Rattle.transactions.specs.Slots.{at, is_answered, is_asked}
use Rattle.transactions.specs.Transactions.{asking, asking_state, asking_timers, served}
use Rattle.transactions.specs.declared.change.Entry.{Entry}
use Rattle.transactions.specs.declared.change.Entry.TheVariants.{Answers, Leaves, Opens, Tells}
use Rattle.transactions.specs.declared.transaction.Transaction.{Transaction}
use Rattle.transactions.proofs.FireLaws.{fireable_opened, fireable_stepped, follows_by}

-- ---- a change that is ready

served_sent : (invites : Bool) → (not (repeats (cond invites (machine.InviteServer invite.Proceeding) (machine.OtherServer other.Trying))) || false) ≡ true
served_sent true = refl
served_sent false = refl

served_ready : (r : Request) (source : Addr) → IsReady (Opens (served r source) NoTimer)
served_ready r source = record { short = tt; lines = refl; sent = served_sent (is_method (codes "INVITE") r.parts) }

asking_short : (invites : Bool) → IsShort (cond invites (Two (timer letter.A t1) (timer letter.B (64 * t1))) (Two (timer letter.E t1) (timer letter.F (64 * t1))))
asking_short true = (omega arith, omega arith)
asking_short false = (omega arith, omega arith)

asking_lines : (invites : Bool)
    → starts_with_lines (cond invites (machine.InviteClient (Calling t1 false)) (machine.OtherClient (asked.Trying t1))) (cond invites (Two (timer letter.A t1) (timer letter.B (64 * t1))) (Two (timer letter.E t1) (timer letter.F (64 * t1)))) ≡ true
unfolding row_of invite_client_row other_client_row
asking_lines true = refl
asking_lines false = refl

asking_ready : (r : Request) (to : Addr) (bytes : List ℕ) → IsReady (Opens (asking r to bytes) (asking_timers r.parts))
asking_ready r to bytes = record {
  short = asking_short (is_method (codes "INVITE") r.parts);
  lines = asking_lines (is_method (codes "INVITE") r.parts);
  sent = or_right (not (repeats (asking_state r.parts))) true refl;
}

-- a request of the server's own
pub start_ready : (r : Request) (to : Addr) → IsReady (start_of r to)
start_ready r to =
    let bytes = message_text (Kinds.Request r) in
    cond_both (is_method (codes "ACK") r.parts) Leaves (Opens (asking r to bytes) (asking_timers r.parts)) IsReady (λ ack. tt) (λ begins. asking_ready r to bytes)

told_again : (ack : Bool) → is_answer (cond ack inputs.Ack inputs.Repeat) ≡ false
told_again true = refl
told_again false = refl

request_ready : (r : Request) (source : Addr) (id : Option ℕ) → IsReady (request_change r source id)
request_ready r source None = cond_both (is_method (codes "ACK") r.parts) Leaves (Opens (served r source) NoTimer) IsReady (λ ack. tt) (λ begins. served_ready r source)
request_ready r source (Some id) = told_again (is_method (codes "ACK") r.parts)

response_ready : (table : Contents) (r : Response) (id : Option ℕ) → IsReady (response_change table r id)
response_ready table r None = tt
response_ready table r (Some id) = refl

-- what a message does
pub change_ready : (table : Contents) (m : Message) (source : Addr) → IsReady (change_of table m source)
unfolding change_of
change_ready table (Kinds.Request r) source = request_ready r source (position (is_asked r.parts) table.slots)
change_ready table (Kinds.Response r) source = response_ready table r (position (is_answered r.parts) table.slots)

-- ---- the table afterwards

abbrev pub Fires : Contents → Type 0
Fires table = IsFireable table.slots table.timers

line_fires : (table : Contents) (id : ℕ) (t : Transaction) (input : Input) (fresh : Option (List ℕ)) (now : ℕ) (line : Option Step) → Fires table → at table.slots id ≡ Some t → (is_answer input ≡ true → is_some fresh ≡ true)
    → IfSome line (λ step. follows t.state (is_answer input) step ≡ true) → Fires (stepped_by table id t fresh now line)
line_fires table id t input fresh now None fires there given follow = fires
line_fires table id t input fresh now (Some step) fires there given follow =
    fireable_stepped table id t step fresh now fires there (follows_by table.slots id t (is_answer input) (is_some fresh) step given (sym there) follow t there)

told_fires : (table : Contents) (id : ℕ) (t : Option Transaction) (input : Input) (fresh : Option (List ℕ)) (now : ℕ) → Fires table → at table.slots id ≡ t → (is_answer input ≡ true → is_some fresh ≡ true)
    → Fires (table_at table id t input fresh now)
told_fires table id None input fresh now fires there given = fires
told_fires table id (Some t) input fresh now fires there given = line_fires table id t input fresh now (row_of t.state input) fires there given (row_follows t.state input)

entered_fires : (now : ℕ) (table : Contents) (change : Entry) → Fires table → IsReady change → Fires (entered now table change)
entered_fires now table (Opens t starts) fires ready = fireable_opened table t starts now fires ready.lines ready.sent
entered_fires now table (Tells id input fresh) fires ready = told_fires table id (at table.slots id) input fresh now fires refl (λ answers. absurd (false≢true (sym ready ∙ answers)))
entered_fires now table (Answers id class bytes) fires ready = told_fires table id (at table.slots id) (inputs.Answer class) (Some bytes) now fires refl (λ answers. refl)
entered_fires now table Leaves fires ready = fires

pub all_fire : (now : ℕ) (table : Contents) (changes : List Entry) → Fires table → All IsReady changes → Fires (entered_all now table changes)
all_fire now table [] fires ready = fires
all_fire now table (c ∷ cs) fires ready = all_fire now (entered now table c) cs (entered_fires now table c fires (All-head IsReady c cs ready)) (All-tail IsReady c cs ready)

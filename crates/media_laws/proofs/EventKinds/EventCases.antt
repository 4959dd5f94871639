-- An event, as a list of cases: each row of the agent for it, as promise's lists have it, with what else says whether
-- a call takes it.
use Rattle.std.proofs.Common.{◌≡◌, ◌∙◌, ℕ, true, false, List, codes, Option, Some, None, Result, Ok, Err, position, refl, sym, subst}
use Rattle.std.specs.Prelude.{slice_get}
use Rattle.std.proofs.lemmas.List.Quantifiers.{position-Some}
use Rattle.std.proofs.lemmas.Bool.{false≢true}
use Rattle.sip_uri.specs.declared.uri.Addr.{Addr}
use Rattle.sip_message.specs.declared.error.MessageError.{MessageError}
use Rattle.sip_message.specs.declared.error.MessageError.TheVariants as faults
use Rattle.sip_message.specs.declared.message.Message.{Message}
use Rattle.sip_message.specs.declared.message.Message.TheVariants as Kinds
use Rattle.sip_message.specs.declared.message.Parts.{Parts}
use Rattle.sip_message.specs.declared.message.Request.{Request}
use Rattle.sip_message.specs.declared.message.Response.{Response}
use Rattle.sip_message.specs.declared.words.Class.TheVariants.{Failure, Provisional as Early, Success}
use Rattle.sip_message.specs.AnswerableParts.{answerable_of}
use Rattle.sip_message.specs.Read.{message_of}
use Rattle.sip_message.specs.Words.{class_of, is_method}
use Rattle.transactions.specs.declared.change.Entry.{Entry}
use Rattle.transactions.specs.declared.outcome.Outgoing.{Outgoing}
use Rattle.transactions.specs.declared.outcome.Verdict.{Verdict}
use Rattle.transactions.specs.declared.outcome.Verdict.TheVariants as verdicts
use Rattle.transactions.specs.declared.transaction.Transaction.{Transaction}
use Rattle.transaction_machines.specs.declared.step.Step.{Step}
use Rattle.transaction_machines.specs.declared.step.Told.{Told}
use Rattle.transaction_machines.specs.declared.step.Told.TheVariants as tellings
use Rattle.transaction_machines.specs.Machines.{row_of}
use Rattle.transactions.specs.Contents.{ack_at, reception_at, reception_by, reception_of, response_input, response_reception, upward}
use Rattle.transactions.specs.Slots.{at, is_answered}
use Rattle.call_core.specs.declared.input.Input.TheVariants as inputs
use Rattle.calls.specs.Finding.{place_by_ack}
use Rattle.call_rules.specs.Content.{described}
use Rattle.call_rules.specs.Responses.{response_rule}
use Rattle.call_rules.specs.declared.responses.ResponseRule.{ResponseRule}
use Rattle.call_rules.specs.declared.responses.ResponseRule.TheVariants as rule
use Rattle.call_steps.specs.Rows.{answers_leg, fork_row, late_row}
use Rattle.responses.specs.Words.{has_fit_branch, is_method as request_method}
use Rattle.events.specs.declared.event.What.{What}
use Rattle.events.specs.declared.event.What.TheVariants as whats
use Rattle.plans.specs.Office.{Office}
use Rattle.plans.specs.CallRows.{ack_by, ack_row, acks_again, occasion, of_plan, response_by_asked, response_row, responds_by, takes, with_step}
use Rattle.plans.specs.Effect.{Effect}
use Rattle.plans.specs.Plan.{moves, nothing}
use Rattle.plans.specs.declared.reason.Reason.TheVariants as reasons
use Rattle.plans.specs.declared.setting.Setting.{Setting}
use Rattle.plans.specs.declared.taken.Taken.{Taken}
use Rattle.plans.specs.declared.taken.Taken.TheVariants as takens
use Rattle.plans.specs.declared.taken.Why.TheVariants as whys
use Rattle.event_rows.specs.Rows.{by_reading, datagram_row, fit_row, is_full, is_unreachable_message, parts_of, read_row, received, received_by, refuses_alone, no_source, request_by, response_by, setting, unfit_branch, unread_by, unread_row, what_row}
use Rattle.message_laws.specs.Datagrams.{IsNoDatagram}
use Rattle.message_laws.proofs.Messages.MessageViews.{IsResponseTo, begun_by}
use Rattle.message_laws.proofs.Messages.RequestViews.{RequestRow, by_if, request_view}
use Rattle.message_laws.proofs.Messages.ResponseViews.{IsAsked}
use Rattle.message_laws.proofs.Messages.Views as views
use Rattle.message_laws.proofs.Messages.Views.{DueRow, due_what_view}
use Rattle.media_laws.specs.Verdicts.{IsTransactions}
use Rattle.event_rows.proofs.AckRequests.{IsAckIf, up_is_ack}
use Rattle.media_laws.proofs.LateResponses.RuleReasons.{Reason, rule_reason}

-- what counts as not come
abbrev pub IsNotDone : Taken → Type 0
IsNotDone takens.Done = ⊥
IsNotDone (takens.Dropped why) = Unit {0}
IsNotDone takens.Shed = Unit {0}
IsNotDone takens.Idle = Unit {0}

-- ---- a response

pub data ResponseCase (s : Office) (e : Setting) (r : Response) (begun : List Entry) (send : Option Outgoing) (id : ℕ) (asked : Transaction) (x : Effect) : Type 0 where
  silent : response_rule s.calls.calls asked.parts r ≡ rule.Silent → x ≡ of_plan s (moves begun send) → ResponseCase s e r begun send id asked x
  provisional : (place status : ℕ) (c : _) → slice_get s.calls.calls place ≡ Some c → IsAsked asked.parts c → class_of r.status ≡ Early → status ≡ r.status
      → x ≡ takes s e begun send None place (inputs.Provisional status) None → ResponseCase s e r begun send id asked x
  answered : (place : ℕ) (c : _) → slice_get s.calls.calls place ≡ Some c → IsAsked asked.parts c → class_of r.status ≡ Success
      → x ≡ takes s e begun send (Some id) place (inputs.Answer (described r.headers r.body)) (answers_leg s.calls.calls place asked.parts r) → ResponseCase s e r begun send id asked x
  again : (place : ℕ) → response_rule s.calls.calls asked.parts r ≡ rule.Again place → x ≡ of_plan s (acks_again s begun id) → ResponseCase s e r begun send id asked x
  fork : response_rule s.calls.calls asked.parts r ≡ rule.Fork → x ≡ with_step s.acks begun send None (fork_row s.calls (occasion s e) asked.parts r) → ResponseCase s e r begun send id asked x
  ack_alone : response_rule s.calls.calls asked.parts r ≡ rule.AckAlone → x ≡ with_step s.acks begun send None (late_row s.calls (occasion s e) asked.parts r) → ResponseCase s e r begun send id asked x
  refused : (place status : ℕ) (c : _) → slice_get s.calls.calls place ≡ Some c → IsAsked asked.parts c → class_of r.status ≡ Failure → status ≡ r.status
      → x ≡ takes s e begun send None place (inputs.Refusal status) None → ResponseCase s e r begun send id asked x

rule_case : (s : Office) (e : Setting) (r : Response) (begun : List Entry) (send : Option Outgoing) (id : ℕ) (asked : Transaction) (x : ResponseRule) → response_rule s.calls.calls asked.parts r ≡ x
    → Reason s.calls.calls asked.parts r x → ResponseCase s e r begun send id asked (responds_by s e r begun send id asked x)
rule_case s e r begun send id asked rule.Silent is why = silent is refl
rule_case s e r begun send id asked (rule.Provisional place status) is why = provisional place status why.0.call why.0.there why.0.waits why.0.is why.1 refl
rule_case s e r begun send id asked (rule.Answer place) is why = answered place why.call why.there why.waits why.is refl
rule_case s e r begun send id asked (rule.Again place) is why = again place is refl
rule_case s e r begun send id asked rule.Fork is why = fork is refl
rule_case s e r begun send id asked rule.AckAlone is why = ack_alone is refl
rule_case s e r begun send id asked (rule.Refusal place status) is why = refused place status why.0.call why.0.there why.0.waits why.0.is why.1 refl

pub response_case : (s : Office) (e : Setting) (r : Response) (begun : List Entry) (send : Option Outgoing) (id : ℕ) (asked : Transaction)
    → ResponseCase s e r begun send id asked (responds_by s e r begun send id asked (response_rule s.calls.calls asked.parts r))
response_case s e r begun send id asked = rule_case s e r begun send id asked (response_rule s.calls.calls asked.parts r) refl (rule_reason s.calls.calls asked.parts r)

-- ---- a message

pub data MessageCase (s : Office) (e : Setting) (m : Message) (begun : List Entry) (send : Option Outgoing) (x : Effect) : Type 0 where
  dropped : (taken : Taken) → IsNotDone taken → x ≡ of_plan s (nothing taken) → MessageCase s e m begun send x
  moved : IsTransactions (reception_of s.table m).verdict → x ≡ of_plan s (moves begun send) → MessageCase s e m begun send x
  requested : (r : Request) (id : ℕ) → m ≡ Kinds.Request r → (reception_of s.table m).verdict ≡ verdicts.New id → RequestRow s e r begun id x → MessageCase s e m begun send x
  acknowledged : (r : Request) (place : ℕ) → m ≡ Kinds.Request r → is_method (codes "ACK") r.parts ≡ true → place_by_ack r.parts s.calls.calls ≡ Some place → x ≡ takes s e begun None None place inputs.Ack None → MessageCase s e m begun send x
  responded : (r : Response) (id : ℕ) (t : Transaction) → m ≡ Kinds.Response r → (reception_of s.table m).verdict ≡ verdicts.Up id → IsResponseTo s r id t → ResponseCase s e r begun send id t x
      → MessageCase s e m begun send x

ack_by_case : (s : Office) (e : Setting) (r : Request) (begun : List Entry) (send : Option Outgoing) (place : Option ℕ) → is_method (codes "ACK") r.parts ≡ true → place_by_ack r.parts s.calls.calls ≡ place → MessageCase s e (Kinds.Request r) begun send (ack_by s e begun place)
ack_by_case s e r begun send None is there = dropped (takens.Dropped whys.Ack) tt refl
ack_by_case s e r begun send (Some place) is there = acknowledged r place refl is there refl

ack_case : (s : Office) (e : Setting) (r : Request) (begun : List Entry) (send : Option Outgoing) → is_method (codes "ACK") r.parts ≡ true → MessageCase s e (Kinds.Request r) begun send (ack_row s e r begun)
unfolding ack_row
ack_case s e r begun send is = ack_by_case s e r begun send (place_by_ack r.parts s.calls.calls) is refl

request_by_case : (s : Office) (e : Setting) (r : Request) (begun : List Entry) (verdict : Verdict) (send : Option Outgoing) → (reception_of s.table (Kinds.Request r)).verdict ≡ verdict → IsAckIf r verdict
    → MessageCase s e (Kinds.Request r) begun send (request_by s e r begun verdict send)
unfolding request_by
request_by_case s e r begun (verdicts.New id) send is ack = requested r id refl is (request_view s e r begun id)
request_by_case s e r begun verdicts.Repeat send is ack = moved (subst IsTransactions (sym is) tt) refl
request_by_case s e r begun verdicts.Swallowed send is ack = moved (subst IsTransactions (sym is) tt) refl
request_by_case s e r begun (verdicts.Up id) send is ack = ack_case s e r begun send ack
request_by_case s e r begun verdicts.Stray send is ack = ack_case s e r begun send ack

-- a response goes up only for the transaction that it is one to
abbrev UpFound : Office → Response → Verdict → Type 0
UpFound s r (verdicts.New id) = Unit {0}
UpFound s r verdicts.Repeat = Unit {0}
UpFound s r verdicts.Swallowed = Unit {0}
UpFound s r (verdicts.Up id) = position (is_answered r.parts) s.table.slots ≡ Some id
UpFound s r verdicts.Stray = Unit {0}

told_found : (s : Office) (r : Response) (id : ℕ) (told : Told) → position (is_answered r.parts) s.table.slots ≡ Some id → UpFound s r (upward id told verdicts.Swallowed)
told_found s r id tellings.Up h = h
told_found s r id tellings.Silent h = tt
told_found s r id tellings.TimedOut h = tt
told_found s r id tellings.Ended h = tt

step_found : (s : Office) (r : Response) (id : ℕ) (t : Transaction) (fresh : Option (List ℕ)) (step : Option Step) → position (is_answered r.parts) s.table.slots ≡ Some id
    → UpFound s r (reception_by id t (response_input r) fresh step).verdict
step_found s r id t fresh None h = tt
step_found s r id t fresh (Some step) h = told_found s r id step.told h

at_found : (s : Office) (r : Response) (id : ℕ) (o : Option Transaction) → position (is_answered r.parts) s.table.slots ≡ Some id → UpFound s r (reception_at id o (response_input r) (ack_at o r)).verdict
at_found s r id None h = tt
at_found s r id (Some t) h = step_found s r id t (ack_at (Some t) r) (row_of t.state (response_input r)) h

in_found : (s : Office) (r : Response) (id : Option ℕ) → position (is_answered r.parts) s.table.slots ≡ id → UpFound s r (response_reception s.table r id).verdict
in_found s r None there = tt
in_found s r (Some id) there = at_found s r id (at s.table.slots id) there

up_found : (s : Office) (r : Response) → UpFound s r (reception_of s.table (Kinds.Response r)).verdict
unfolding reception_of
up_found s r = in_found s r (position (is_answered r.parts) s.table.slots) refl

none_answers : (parts : Parts) → is_answered parts None ≡ false
unfolding is_answered
none_answers parts = refl

asked_case : (s : Office) (e : Setting) (r : Response) (begun : List Entry) (send : Option Outgoing) (id : ℕ) (asked : Option Transaction) → at s.table.slots id ≡ asked
    → position (is_answered r.parts) s.table.slots ≡ Some id → is_answered r.parts asked ≡ true → (reception_of s.table (Kinds.Response r)).verdict ≡ verdicts.Up id
    → MessageCase s e (Kinds.Response r) begun send (response_by_asked s e r begun send id asked)
asked_case s e r begun send id None there found h up = absurd (false≢true (sym (none_answers r.parts) ∙ h))
asked_case s e r begun send id (Some t) there found h up = responded r id t refl up (record { there = there; position = found; answers = h }) (response_case s e r begun send id t)

up_case : (s : Office) (e : Setting) (r : Response) (begun : List Entry) (send : Option Outgoing) (id : ℕ) → position (is_answered r.parts) s.table.slots ≡ Some id
    → (reception_of s.table (Kinds.Response r)).verdict ≡ verdicts.Up id → MessageCase s e (Kinds.Response r) begun send (response_row s e r begun send id)
unfolding response_row
up_case s e r begun send id found up =
    asked_case s e r begun send id (at s.table.slots id) refl found (position-Some (is_answered r.parts) s.table.slots id None found).1 up

response_by_case : (s : Office) (e : Setting) (r : Response) (begun : List Entry) (verdict : Verdict) (send : Option Outgoing) → (reception_of s.table (Kinds.Response r)).verdict ≡ verdict → UpFound s r verdict
    → MessageCase s e (Kinds.Response r) begun send (response_by s e r begun verdict send)
unfolding response_by
response_by_case s e r begun (verdicts.New id) send is found = dropped (takens.Dropped whys.Stray) tt refl
response_by_case s e r begun verdicts.Repeat send is found = moved (subst IsTransactions (sym is) tt) refl
response_by_case s e r begun verdicts.Swallowed send is found = moved (subst IsTransactions (sym is) tt) refl
response_by_case s e r begun (verdicts.Up id) send is found = up_case s e r begun send id found is
response_by_case s e r begun verdicts.Stray send is found = dropped (takens.Dropped whys.Stray) tt refl

received_by_case : (s : Office) (e : Setting) (m : Message) (begun : List Entry) (send : Option Outgoing) → MessageCase s e m begun send (received_by s e m begun (reception_of s.table m).verdict send)
received_by_case s e (Kinds.Request r) begun send = request_by_case s e r begun (reception_of s.table (Kinds.Request r)).verdict send refl (up_is_ack s.table r)
received_by_case s e (Kinds.Response r) begun send = response_by_case s e r begun (reception_of s.table (Kinds.Response r)).verdict send refl (up_found s r)

abbrev pub ReceivedCase : Office → Setting → Message → Effect → Type 0
ReceivedCase s e m x = MessageCase s e m (begun_by s e m) (reception_of s.table m).send x

received_case : (s : Office) (e : Setting) (m : Message) → ReceivedCase s e m (received s e m)
unfolding received
received_case s e m =
    by_if (ReceivedCase s e m) (is_full s e (reception_of s.table m)) (of_plan s (nothing takens.Shed))
    (received_by s e m (begun_by s e m) (reception_of s.table m).verdict (reception_of s.table m).send) (λ b. dropped takens.Shed tt refl)
    (λ b. received_by_case s e m (begun_by s e m) (reception_of s.table m).send)

-- ---- a datagram

pub data DatagramCase (s : Office) (e : Setting) (bytes : List ℕ) (x : Effect) : Type 0 where
  ignored : (taken : Taken) → IsNotDone taken → x ≡ of_plan s (nothing taken) → DatagramCase s e bytes x
  unreadable : (fault : MessageError) (parts : Parts) → message_of bytes ≡ Err fault → answerable_of bytes ≡ Some parts → x ≡ of_plan s (refuses_alone e parts (reasons.Unread fault)) → DatagramCase s e bytes x
  unfit_branched : (r : Request) → message_of bytes ≡ Ok (Kinds.Request r) → x ≡ of_plan s (refuses_alone e r.parts reasons.NoBranch) → DatagramCase s e bytes x
  was_received : (m : Message) → message_of bytes ≡ Ok m → has_fit_branch (parts_of m).vias ≡ true → is_unreachable_message m ≡ false → ReceivedCase s e m x → DatagramCase s e bytes x

unfit_case : (s : Office) (e : Setting) (bytes : List ℕ) (m : Message) → message_of bytes ≡ Ok m → DatagramCase s e bytes (of_plan s (unfit_branch e m))
unfit_case s e bytes (Kinds.Request r) read =
    by_if (λ p. DatagramCase s e bytes (of_plan s p)) (request_method (codes "ACK") r) (nothing (takens.Dropped whys.NoBranch))
    (refuses_alone e r.parts reasons.NoBranch) (λ b. ignored (takens.Dropped whys.NoBranch) tt refl) (λ b. unfit_branched r read refl)
unfit_case s e bytes (Kinds.Response r) read = ignored (takens.Dropped whys.NoBranch) tt refl

unread_by_case : (s : Office) (e : Setting) (bytes : List ℕ) (fault : MessageError) (parts : Option Parts) → message_of bytes ≡ Err fault → answerable_of bytes ≡ parts → DatagramCase s e bytes (of_plan s (unread_by e fault parts))
unread_by_case s e bytes fault None unread can = ignored (takens.Dropped (whys.Unread fault)) tt refl
unread_by_case s e bytes fault (Some parts) unread can = unreadable fault parts unread can refl

unread_case : (s : Office) (e : Setting) (bytes : List ℕ) (fault : MessageError) → message_of bytes ≡ Err fault → DatagramCase s e bytes (of_plan s (unread_row e bytes fault))
unfolding unread_row
unread_case s e bytes faults.TooLong unread = ignored (takens.Dropped (whys.Unread faults.TooLong)) tt refl
unread_case s e bytes fault unread = unread_by_case s e bytes fault (answerable_of bytes) unread refl

read_case : (s : Office) (e : Setting) (bytes : List ℕ) (m : Message) → message_of bytes ≡ Ok m → DatagramCase s e bytes (read_row s e m)
unfolding read_row
read_case s e bytes m read =
    by_if (DatagramCase s e bytes) (has_fit_branch (parts_of m).vias) (fit_row s e m) (of_plan s (unfit_branch e m))
    (λ branch. by_if (DatagramCase s e bytes) (is_unreachable_message m) (of_plan s (nothing (takens.Dropped whys.Stray))) (received s e m) (λ b. ignored (takens.Dropped whys.Stray) tt refl)
    (λ reached. was_received m read branch reached (received_case s e m)))
    (λ b. unfit_case s e bytes m read)

reading_case : (s : Office) (e : Setting) (bytes : List ℕ) (m : Result Message MessageError) → message_of bytes ≡ m → DatagramCase s e bytes (by_reading s e bytes m)
reading_case s e bytes (Ok m) read = read_case s e bytes m read
reading_case s e bytes (Err fault) unread = unread_case s e bytes fault unread

datagram_case : (s : Office) (e : Setting) (bytes : List ℕ) → DatagramCase s e bytes (datagram_row s e bytes)
unfolding datagram_row
datagram_case s e bytes = reading_case s e bytes (message_of bytes) refl

-- ---- an event

pub data EventCase (s : Office) (now salt : ℕ) (what : What) (x : Effect) : Type 0 where
  came : (source : Addr) (bytes : List ℕ) → what ≡ whats.Datagram source bytes → DatagramCase s (setting now salt source) bytes x → EventCase s now salt what x
  due : IsNoDatagram what → DueRow s (setting now salt no_source) x → EventCase s now salt what x

pub event_case : (s : Office) (now salt : ℕ) (what : What) → EventCase s now salt what (what_row s now salt what)
unfolding what_row
event_case s now salt (whats.Datagram source bytes) = came source bytes refl (datagram_case s (setting now salt source) bytes)
event_case s now salt whats.Due = due tt (due_what_view s now salt whats.Due tt)
event_case s now salt (whats.Silent number) = due tt (due_what_view s now salt (whats.Silent number) tt)
event_case s now salt (whats.Users users) = due tt (due_what_view s now salt (whats.Users users) tt)

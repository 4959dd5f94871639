-- What a transaction sends for a message that it keeps for itself: what it sent last, or nothing (RFC 3261 section 17,
-- RFC 6026).
use Rattle.std.proofs.Common.{◌≡◌, ◌⊎◌, ℕ, Bool, true, false, cond, codes, Option, Some, None, inl, inr, position, refl, ap, sym, subst}
use Rattle.std.specs.Prelude.{option_map}
use Rattle.std.proofs.lemmas.Bool.{and_parts, false≢true}
use Rattle.std.proofs.lemmas.List.Quantifiers.{position-Some}
use Rattle.sip_message.specs.Words.{class_of, is_method}
use Rattle.sip_message.specs.declared.message.Message.TheVariants as Kinds
use Rattle.sip_message.specs.declared.message.Request.{Request}
use Rattle.sip_message.specs.declared.message.Response.{Response}
use Rattle.sip_message.specs.declared.words.Class.{Class}
use Rattle.sip_message.specs.declared.words.Class.TheVariants.{Failure, Provisional, Success}
use Rattle.transaction_machines.specs.declared.input.Input.TheVariants as inputs
use Rattle.transaction_machines.specs.declared.invite_client.InviteClient.{InviteClient}
use Rattle.transaction_machines.specs.declared.invite_client.InviteClient.TheVariants as invites
use Rattle.transaction_machines.specs.declared.invite_server.InviteServer.{InviteServer}
use Rattle.transaction_machines.specs.declared.invite_server.InviteServer.TheVariants as serves
use Rattle.transaction_machines.specs.declared.other_client.OtherClient.{OtherClient}
use Rattle.transaction_machines.specs.declared.other_client.OtherClient.TheVariants as others
use Rattle.transaction_machines.specs.declared.other_server.OtherServer.{OtherServer}
use Rattle.transaction_machines.specs.declared.other_server.OtherServer.TheVariants as replies
use Rattle.transaction_machines.specs.declared.state.State.{State}
use Rattle.transaction_machines.specs.declared.state.State.TheVariants as machine
use Rattle.transaction_machines.specs.declared.step.Sending.{Sending}
use Rattle.transaction_machines.specs.declared.step.Sending.TheVariants.{Again, Fresh, Nothing}
use Rattle.transaction_machines.specs.declared.step.Step.{Step}
use Rattle.transaction_machines.specs.declared.step.Told.{Told}
use Rattle.transaction_machines.specs.declared.step.Told.TheVariants as tellings
use Rattle.transaction_machines.specs.InviteClient.{invite_client_row}
use Rattle.transaction_machines.specs.InviteServer.{invite_server_row}
use Rattle.transaction_machines.specs.Machines.{is_server, row_of}
use Rattle.transaction_machines.specs.OtherClient.{other_client_row}
use Rattle.transaction_machines.specs.OtherServer.{other_server_row}
use Rattle.transactions.specs.Contents.{Contents, ack_at, ack_by, ack_for, input_of, reception_at, reception_by, reception_of, repeat_by, request_reception, response_input, response_reception, stray, upward}
use Rattle.transactions.specs.Slots.{at, free_number, is_answered, is_asked}
use Rattle.transactions.specs.Transactions.{outgoing, sent}
use Rattle.transactions.specs.declared.outcome.Outgoing.{Outgoing}
use Rattle.transactions.specs.declared.outcome.Verdict.{Verdict}
use Rattle.transactions.specs.declared.outcome.Verdict.TheVariants as verdicts
use Rattle.transactions.specs.declared.transaction.Transaction.{Transaction}
use Rattle.message_laws.proofs.TokenUse.Rows.{answered_client}

-- what the transaction sent last
abbrev pub last_sent : Transaction → Option Outgoing
last_sent t = option_map (outgoing t.place) t.last

-- ---- the lines: an ACK has a server transaction send nothing

abbrev IsQuiet : Option Step → Type 0
IsQuiet None = Unit {0}
IsQuiet (Some step) = step.send ≡ Nothing

invite_quiet : (x : InviteServer) → IsQuiet (invite_server_row x inputs.Ack)
unfolding invite_server_row
invite_quiet serves.Proceeding = tt
invite_quiet (serves.Completed interval) = refl
invite_quiet serves.Confirmed = tt
invite_quiet serves.Accepted = refl

other_quiet : (x : OtherServer) → IsQuiet (other_server_row x inputs.Ack)
unfolding other_server_row
other_quiet replies.Trying = tt
other_quiet replies.Proceeding = tt
other_quiet replies.Completed = tt

ack_quiet : (state : State) → is_server state ≡ true → IsQuiet (row_of state inputs.Ack)
unfolding row_of
ack_quiet (machine.InviteClient x) server = absurd (false≢true server)
ack_quiet (machine.InviteServer x) server = invite_quiet x
ack_quiet (machine.OtherClient x) server = absurd (false≢true server)
ack_quiet (machine.OtherServer x) server = other_quiet x

-- ---- a response has a client transaction send what is fresh only where it goes up

abbrev FreshGoesUp : Option Step → Type 0
FreshGoesUp None = Unit {0}
FreshGoesUp (Some step) = step.send ≡ Fresh → step.told ≡ tellings.Up

invite_up : (x : InviteClient) (class : Class) → FreshGoesUp (invite_client_row x (inputs.Response class))
unfolding invite_client_row
invite_up (invites.Calling interval abandoned) Provisional = λ e. refl
invite_up (invites.Calling interval abandoned) Success = λ e. refl
invite_up (invites.Calling interval abandoned) Failure = λ e. refl
invite_up invites.Proceeding Provisional = λ e. refl
invite_up invites.Proceeding Success = λ e. refl
invite_up invites.Proceeding Failure = λ e. refl
invite_up invites.Completed Provisional = tt
invite_up invites.Completed Success = tt
invite_up invites.Completed Failure = λ e. absurd cc
invite_up invites.Accepted Provisional = tt
invite_up invites.Accepted Success = λ e. refl
invite_up invites.Accepted Failure = tt

other_up : (x : OtherClient) (class : Class) → FreshGoesUp (other_client_row x (inputs.Response class))
unfolding other_client_row
other_up (others.Trying interval) Provisional = λ e. refl
other_up (others.Trying interval) Success = λ e. refl
other_up (others.Trying interval) Failure = λ e. refl
other_up others.Proceeding Provisional = λ e. refl
other_up others.Proceeding Success = λ e. refl
other_up others.Proceeding Failure = λ e. refl
other_up others.Completed Provisional = tt
other_up others.Completed Success = tt
other_up others.Completed Failure = tt

machine_up : (state : State) (class : Class) → is_server state ≡ false → FreshGoesUp (row_of state (inputs.Response class))
unfolding row_of
machine_up (machine.InviteClient x) class client = invite_up x class
machine_up (machine.InviteServer x) class client = absurd (false≢true (sym client))
machine_up (machine.OtherClient x) class client = other_up x class
machine_up (machine.OtherServer x) class client = absurd (false≢true (sym client))

-- ---- a request

module _ (table : Contents) (r : Request) where
  -- the transaction of the request
  pub record IsCopied (send : Option Outgoing) : Type 0 where
    pub id : ℕ
    pub first : Transaction
    pub stands : at table.slots id ≡ Some first
    pub copies : is_asked r.parts (Some first) ≡ true
    pub again : send ≡ last_sent first

  abbrev GoesBack : Verdict → Option Outgoing → Type 0
  GoesBack (verdicts.New id) send = Unit {0}
  GoesBack verdicts.Repeat send = IsCopied send
  GoesBack verdicts.Swallowed send = send ≡ None
  GoesBack (verdicts.Up id) send = Unit {0}
  GoesBack verdicts.Stray send = Unit {0}

  told_back : (id : ℕ) (told : Told) (v : Verdict) (send : Option Outgoing) → GoesBack v send → GoesBack (upward id told v) send
  told_back id tellings.Up v send h = tt
  told_back id tellings.Silent v send h = h
  told_back id tellings.TimedOut v send h = h
  told_back id tellings.Ended v send h = h

  module _ (id : ℕ) (t : Transaction) (there : at table.slots id ≡ Some t) (copies : is_asked r.parts (Some t) ≡ true) where
    repeat_back : (send : Sending) → GoesBack (repeat_by inputs.Repeat send) (sent t None send)
    repeat_back Nothing = refl
    repeat_back Again = record { id = id; first = t; stands = there; copies = copies; again = refl }
    repeat_back Fresh = refl

    step_repeats : (step : Option Step) → GoesBack (reception_by id t inputs.Repeat None step).verdict (reception_by id t inputs.Repeat None step).send
    step_repeats None = refl
    step_repeats (Some step) = told_back id step.told (repeat_by inputs.Repeat step.send) (sent t None step.send) (repeat_back step.send)

    step_acks : (step : Option Step) → IsQuiet step → GoesBack (reception_by id t inputs.Ack None step).verdict (reception_by id t inputs.Ack None step).send
    step_acks None quiet = refl
    step_acks (Some step) quiet = told_back id step.told verdicts.Swallowed (sent t None step.send) (ap (sent t None) quiet)

    server : is_server t.state ≡ true
    unfolding is_asked
    server = (and_parts (is_server t.state) _ copies).0

    input_back : (b : Bool) → GoesBack (reception_at id (Some t) (cond b inputs.Ack inputs.Repeat) None).verdict (reception_at id (Some t) (cond b inputs.Ack inputs.Repeat) None).send
    input_back true = step_acks (row_of t.state inputs.Ack) (ack_quiet t.state server)
    input_back false = step_repeats (row_of t.state inputs.Repeat)

  at_back : (id : ℕ) (o : Option Transaction) → at table.slots id ≡ o → is_asked r.parts o ≡ true → GoesBack (reception_at id o (input_of r.parts) None).verdict (reception_at id o (input_of r.parts) None).send
  at_back id None there copies = tt
  at_back id (Some t) there copies = input_back id t there copies (is_method (codes "ACK") r.parts)

  begun_back : (b : Bool) → GoesBack (cond b stray (record { verdict = verdicts.New (free_number table.slots); before = None; send = None })).verdict (cond b stray (record { verdict = verdicts.New (free_number table.slots); before = None; send = None })).send
  begun_back true = tt
  begun_back false = tt

  in_back : (o : Option ℕ) → position (is_asked r.parts) table.slots ≡ o → GoesBack (request_reception table r o).verdict (request_reception table r o).send
  in_back None found = begun_back (is_method (codes "ACK") r.parts)
  in_back (Some id) found = at_back id (at table.slots id) refl (position-Some (is_asked r.parts) table.slots id None found).1

  back : GoesBack (reception_of table (Kinds.Request r)).verdict (reception_of table (Kinds.Request r)).send
  unfolding reception_of
  back = in_back (position (is_asked r.parts) table.slots) refl

  pub repeat_goes_back : (reception_of table (Kinds.Request r)).verdict ≡ verdicts.Repeat → IsCopied (reception_of table (Kinds.Request r)).send
  repeat_goes_back is = subst (λ v. GoesBack v (reception_of table (Kinds.Request r)).send) is back

  pub swallowed_quietly : (reception_of table (Kinds.Request r)).verdict ≡ verdicts.Swallowed → (reception_of table (Kinds.Request r)).send ≡ None
  swallowed_quietly is = subst (λ v. GoesBack v (reception_of table (Kinds.Request r)).send) is back

-- ---- a response

module _ (table : Contents) (r : Response) where
  -- the transaction of the request to which it responds
  pub record IsAbsorbed (send : Option Outgoing) : Type 0 where
    pub id : ℕ
    pub asked : Transaction
    pub stands : at table.slots id ≡ Some asked
    pub responds : is_answered r.parts (Some asked) ≡ true
    pub again : (send ≡ None) ⊎ (send ≡ last_sent asked)

  abbrev GoesOn : Verdict → Option Outgoing → Type 0
  GoesOn (verdicts.New id) send = Unit {0}
  GoesOn verdicts.Repeat send = ⊥
  GoesOn verdicts.Swallowed send = IsAbsorbed send
  GoesOn (verdicts.Up id) send = Unit {0}
  GoesOn verdicts.Stray send = Unit {0}

  module _ (id : ℕ) (t : Transaction) (there : at table.slots id ≡ Some t) (responds : is_answered r.parts (Some t) ≡ true) where
    absorbed : (send : Sending) → (send ≡ Fresh → ⊥) → IsAbsorbed (sent t (ack_for t r send) send)
    absorbed Nothing none = record { id = id; asked = t; stands = there; responds = responds; again = inl refl }
    absorbed Again none = record { id = id; asked = t; stands = there; responds = responds; again = inr refl }
    absorbed Fresh none = absurd (none refl)

    told_on : (told : Told) (send : Sending) → (send ≡ Fresh → told ≡ tellings.Up) → GoesOn (upward id told verdicts.Swallowed) (sent t (ack_for t r send) send)
    told_on tellings.Up send up = tt
    told_on tellings.Silent send up = absorbed send (λ e. let no : tellings.Silent ≡ tellings.Up = up e in absurd cc)
    told_on tellings.TimedOut send up = absorbed send (λ e. let no : tellings.TimedOut ≡ tellings.Up = up e in absurd cc)
    told_on tellings.Ended send up = absorbed send (λ e. let no : tellings.Ended ≡ tellings.Up = up e in absurd cc)

    step_on : (step : Option Step) → FreshGoesUp step → GoesOn (reception_by id t (response_input r) (ack_by t r step) step).verdict (reception_by id t (response_input r) (ack_by t r step) step).send
    step_on None up = record { id = id; asked = t; stands = there; responds = responds; again = inl refl }
    step_on (Some step) up = told_on step.told step.send up

  at_on : (id : ℕ) (o : Option Transaction) → at table.slots id ≡ o → is_answered r.parts o ≡ true → GoesOn (reception_at id o (response_input r) (ack_at o r)).verdict (reception_at id o (response_input r) (ack_at o r)).send
  at_on id None there responds = tt
  at_on id (Some t) there responds = step_on id t there responds (row_of t.state (response_input r)) (machine_up t.state (class_of r.status) (answered_client r.parts t responds))

  in_on : (o : Option ℕ) → position (is_answered r.parts) table.slots ≡ o → GoesOn (response_reception table r o).verdict (response_reception table r o).send
  in_on None found = tt
  in_on (Some id) found = at_on id (at table.slots id) refl (position-Some (is_answered r.parts) table.slots id None found).1

  on : GoesOn (reception_of table (Kinds.Response r)).verdict (reception_of table (Kinds.Response r)).send
  unfolding reception_of
  on = in_on (position (is_answered r.parts) table.slots) refl

  pub swallowed_again : (reception_of table (Kinds.Response r)).verdict ≡ verdicts.Swallowed → IsAbsorbed (reception_of table (Kinds.Response r)).send
  swallowed_again is = subst (λ v. GoesOn v (reception_of table (Kinds.Response r)).send) is on

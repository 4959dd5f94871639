-- What a copy of a request gets, once its final response was given: the same bytes (RFC 3261 sections 17.2.1 and
-- 17.2.2).
use Rattle.std.specs.Prelude.{◌≡◌, ℕ, Bool, true, false, List, codes, Option, Some, None, IfSome, position}
use Rattle.sip_message.specs.declared.message.Message.TheVariants as Kinds
use Rattle.sip_message.specs.declared.message.Request.{Request}
use Rattle.sip_message.specs.declared.message.Response.{Response}
use Rattle.sip_message.specs.Words.{is_method}
use Rattle.sip_writing.specs.Writing.{message_text}
use Rattle.transaction_machines.specs.declared.input.TimerKind.TheVariants as letter
use Rattle.transaction_machines.specs.declared.invite_server.InviteServer.TheVariants as invite
use Rattle.transaction_machines.specs.declared.other_server.OtherServer.TheVariants as other
use Rattle.transaction_machines.specs.declared.state.State.{State}
use Rattle.transaction_machines.specs.declared.state.State.TheVariants.{InviteClient, InviteServer, OtherClient, OtherServer}
use Rattle.transactions.specs.declared.outcome.Fired.TheVariants as fires
use Rattle.transactions.specs.declared.outcome.Verdict.TheVariants as verdicts
use Rattle.transactions.specs.declared.transaction.Transaction.{Transaction}
use Rattle.transactions.specs.Slots.{at, is_asked}
use Rattle.transactions.specs.Transactions.{outgoing}
use Rattle.transactions.specs.Contents.{Contents, line_at, answer_input, after_answer, reception_of, fired_of}
use Rattle.transactions.specs.Calls.{Call, after, after_all}
use Rattle.transactions.specs.Once.{Lasts}

-- the final response is sent again on each copy
abbrev pub is_completed : State → Bool
is_completed (InviteClient state) = false
is_completed (OtherClient state) = false
is_completed (InviteServer invite.Proceeding) = false
is_completed (InviteServer (invite.Completed interval)) = true
is_completed (InviteServer invite.Confirmed) = false
is_completed (InviteServer invite.Accepted) = false
is_completed (OtherServer other.Trying) = false
is_completed (OtherServer other.Proceeding) = false
is_completed (OtherServer other.Completed) = true

-- it went, and perhaps its ACK came
abbrev pub has_final : State → Bool
has_final (InviteClient state) = false
has_final (OtherClient state) = false
has_final (InviteServer invite.Proceeding) = false
has_final (InviteServer (invite.Completed interval)) = true
has_final (InviteServer invite.Confirmed) = true
has_final (InviteServer invite.Accepted) = false
has_final (OtherServer other.Trying) = false
has_final (OtherServer other.Proceeding) = false
has_final (OtherServer other.Completed) = true

-- the transaction has given its final response, which has these bytes
pub record KeepsAnswer (bytes : List ℕ) (t : Transaction) : Type 0 where
  pub final : has_final t.state ≡ true
  pub last : t.last ≡ Some bytes

abbrev pub KeepsIfThere : List ℕ → Option Transaction → Type 0
KeepsIfThere bytes None = Unit {0}
KeepsIfThere bytes (Some t) = KeepsAnswer bytes t

-- transaction id is live, and has given this final response
abbrev pub KeepsAt : List ℕ → Contents → ℕ → Type 0
KeepsAt bytes table id = (t : Transaction) × (at table.slots id ≡ Some t) × KeepsAnswer bytes t

-- a final response that is taken, except a 2xx to an INVITE, is kept
abbrev pub KeepsFinal : Contents → ℕ → Response → ℕ → Type 0
KeepsFinal table id r now =
    IfSome (line_at table id (answer_input r)) (λ step. IfSome step.next (λ next. is_completed next ≡ true
    → KeepsAt (message_text (Kinds.Response r)) (after_answer table id r now) id))

-- each call leaves it so, or ends the transaction
abbrev pub LeavesAnswer : Contents → Call → Type 0
LeavesAnswer table call =
    (id : ℕ) (t : Transaction) (bytes : List ℕ) → at table.slots id ≡ Some t → KeepsAnswer bytes t → KeepsIfThere bytes (at (after table call).slots id)

-- and so any calls do, in which the transaction lasts
abbrev pub KeepsOver : Contents → List Call → Type 0
KeepsOver table calls =
    (id : ℕ) (t : Transaction) (bytes : List ℕ) → at table.slots id ≡ Some t → KeepsAnswer bytes t → Lasts id table calls
    → KeepsIfThere bytes (at (after_all table calls).slots id)

-- a copy gets these bytes, and a timer sends them again
abbrev pub RepeatsAnswer : Contents → Request → Type 0
RepeatsAnswer table r =
    (id : ℕ) (t : Transaction) (bytes : List ℕ) → at table.slots id ≡ Some t → KeepsAnswer bytes t → is_completed t.state ≡ true
    → position (is_asked r.parts) table.slots ≡ Some id → is_method (codes "ACK") r.parts ≡ false
    → reception_of table (Kinds.Request r) ≡ record { verdict = verdicts.Repeat; before = Some t.state; send = Some (outgoing t.place bytes) }

abbrev pub ResendsAnswer : Transaction → Type 0
ResendsAnswer t =
    (bytes : List ℕ) (interval : ℕ) → t.state ≡ InviteServer (invite.Completed interval) → KeepsAnswer bytes t
    → fired_of (Some t) letter.G ≡ Some (fires.Send (outgoing t.place bytes))

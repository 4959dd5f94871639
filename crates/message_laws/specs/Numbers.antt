-- The numbers that the server gives its requests in one leg (RFC 3261 section 12.2.1.1).
use Rattle.std.specs.Prelude.{◌≡◌, ℕ, ◌<◌, true, false, List, [], ◌∷◌, ◌++◌, Option, Some, None, Bool, not, filter, ◌⊎◌}
use Rattle.std.specs.List.{All, AllPairs}
use Rattle.sip_message.specs.Words.{tag_text}
use Rattle.dialogs.specs.declared.state.Dialog.{Dialog}
use Rattle.events.specs.declared.event.Event.{Event}
use Rattle.events.specs.declared.sent.Sent.{Sent}
use Rattle.transaction_machines.specs.Machines.{is_server}
use Rattle.transactions.specs.declared.change.Entry.{Entry as Change}
use Rattle.transactions.specs.declared.change.Entry.TheVariants.{Opens, Tells, Answers, Leaves}
use Rattle.transactions.specs.declared.transaction.Transaction.{Transaction}
use Rattle.call_core.specs.Calls.{dialog_of}
use Rattle.calls.specs.declared.standing_call.StandingCall.{StandingCall}
use Rattle.calls.specs.Finding.{has_tag}
use Rattle.call_rules.specs.Responses.{asked_end}
use Rattle.call_rules.specs.Speaking.{is_bye}
use Rattle.plans.specs.declared.taken.Taken.{Taken}
use Rattle.plans.specs.Office.{Office}
use Rattle.event_rows.specs.Rows.{row}
use Rattle.event_rows.specs.State.{Contents}
use Rattle.event_rows.specs.Trace.{Entry, after_entry}
use Rattle.message_laws.specs.Tokens.{IsMade}
use Rattle.message_laws.specs.Waiting.{IsCounted, IsOffering, from_tag}

-- ---- the transactions that begin, in order

abbrev pub begun_of : List Change → List Transaction
begun_of [] = []
begun_of (Opens t starts ∷ changes) = t ∷ begun_of changes
begun_of (Tells id input fresh ∷ changes) = begun_of changes
begun_of (Answers id class bytes ∷ changes) = begun_of changes
begun_of (Leaves ∷ changes) = begun_of changes

-- at an event; none where it was lost
abbrev pub begun_at : Contents → Event → Option Taken → List Transaction
begun_at s e None = []
begun_at s e (Some taken) = begun_of (row s e).plan.changes

-- at these events of this agent
abbrev pub begun_in : Contents → List Entry → List Transaction
begun_in s [] = []
begun_in s (x ∷ xs) = begun_at s x.event x.answer ++ begun_in (after_entry s x) xs

-- those of the server's own
abbrev pub is_own : Transaction → Bool
is_own t = not (is_server t.state)

abbrev pub own_of : List Change → List Transaction
own_of changes = filter is_own (begun_of changes)

-- their requests are among these datagrams, in this order
abbrev pub GoInOrder : List Transaction → List Sent → Type 0
GoInOrder [] sends = Unit {0}
GoInOrder (t ∷ own) [] = ⊥
GoInOrder (t ∷ own) (d ∷ sends) = ((t.last ≡ Some d.bytes) × GoInOrder own sends) ⊎ GoInOrder (t ∷ own) sends

-- ---- numbers

-- of two INVITEs or UPDATEs of the server's own in one leg, which its tag names, the later one has the greater number
abbrev pub IsBelow : Transaction → Transaction → Type 0
IsBelow t u = IsOffering t → IsOffering u → from_tag t ≡ from_tag u → t.parts.cseq.number < u.parts.cseq.number

-- ---- what the agent knows of these transactions, whether they are live or not

-- the call that its tag names counted its number
abbrev pub WasCounted : Transaction → StandingCall → Type 0
WasCounted t c = has_tag (from_tag t) c ≡ true → IsCounted t.parts.cseq.number (dialog_of (asked_end t.parts c) c.call)

pub record IsNumbered (s : Office) (t : Transaction) : Type 0 where
  pub tag : IsMade s.tokens (from_tag t)
  pub counted : All (WasCounted t) s.calls.calls

abbrev pub IsNumberedIf : Office → Transaction → Type 0
IsNumberedIf s t = IsOffering t → IsNumbered s t

pub record KnowsNumbers (s : Office) (begun : List Transaction) : Type 0 where
  pub numbered : All (IsNumberedIf s) begun
  pub rise : AllPairs IsBelow begun

-- ---- BYEs

pub record IsBye (t : Transaction) : Type 0 where
  pub client : is_server t.state ≡ false
  pub leaves : is_bye t.parts ≡ true

-- where there is a dialog, it is the other side's tag in it
abbrev pub HasTheirTag : List ℕ → Option Dialog → Type 0
HasTheirTag tag None = Unit {0}
HasTheirTag tag (Some d) = tag ≡ d.id.theirs

-- a BYE of the server's own in the leg of this call that its tag names
pub record IsByeOf (c : StandingCall) (t : Transaction) : Type 0 where
  pub bye : IsBye t
  pub ours : has_tag (from_tag t) c ≡ true
  pub theirs : HasTheirTag (tag_text t.parts.to.params) (dialog_of (asked_end t.parts c) c.call)

-- its number is greater than that of this earlier INVITE or UPDATE, if that was in the same leg
abbrev pub IsPast : Transaction → Transaction → Type 0
IsPast t v = IsOffering v → from_tag v ≡ from_tag t → v.parts.cseq.number < t.parts.cseq.number

abbrev pub EndsLeg : List Transaction → Transaction → StandingCall → Type 0
EndsLeg begun t c = IsByeOf c t → All (IsPast t) begun

-- where it is a BYE in a leg of one of these calls
abbrev pub EndsLegs : List StandingCall → List Transaction → Transaction → Type 0
EndsLegs calls begun t = All (EndsLeg begun t) calls

-- at each of these events, after these requests
abbrev pub EndLegsIn : Contents → List Transaction → List Entry → Type 0
EndLegsIn s begun [] = Unit {0}
EndLegsIn s begun (x ∷ xs) = All (EndsLegs s.calls.calls begun) (begun_at s x.event x.answer) × EndLegsIn (after_entry s x) (begun ++ begun_at s x.event x.answer) xs

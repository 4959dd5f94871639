-- The requests that wait for a response of the server's own (RFC 3261 sections 8.2.6.2 and 17.2).
use Rattle.std.specs.Prelude.{◌≡◌, ◌≢◌, ℕ, ◌<◌, ◌^◌, Bool, true, false, List, [], ◌∷◌, Option, Some, None}
use Rattle.std.specs.List.{All}
use Rattle.sip_message.specs.Repeatable.{CanBeRepeated}
use Rattle.transaction_machines.specs.declared.invite_server.InviteServer.TheVariants as invites
use Rattle.transaction_machines.specs.declared.other_server.OtherServer.TheVariants as others
use Rattle.transaction_machines.specs.declared.state.State.{State}
use Rattle.transaction_machines.specs.declared.state.State.TheVariants.{InviteClient, InviteServer, OtherClient, OtherServer}
use Rattle.transaction_machines.specs.Machines.{is_server}
use Rattle.transactions.specs.declared.transaction.Transaction.{Transaction}
use Rattle.transactions.specs.Slots.{at}
use Rattle.call_core.specs.Calls.{awaits_answer, holds_in}
use Rattle.calls.specs.declared.standing_call.StandingCall.{StandingCall}
use Rattle.plans.specs.Office.{Office}
use Rattle.message_laws.specs.Addresses.{IsReached, IsSource}

-- what the responses to the request of a server transaction repeat was read (section 8.2.6.2)
abbrev pub IsAsked : Transaction → Type 0
IsAsked t = is_server t.state ≡ true → CanBeRepeated t.parts

abbrev pub IsAskedIf : Option Transaction → Type 0
IsAskedIf None = Unit {0}
IsAskedIf (Some t) = IsAsked t

-- ---- the open offer of a call

-- a server transaction that has sent no final response
abbrev pub is_unanswered : State → Bool
is_unanswered (InviteClient state) = false
is_unanswered (InviteServer invites.Proceeding) = true
is_unanswered (InviteServer (invites.Completed interval)) = false
is_unanswered (InviteServer invites.Confirmed) = false
is_unanswered (InviteServer invites.Accepted) = false
is_unanswered (OtherClient state) = false
is_unanswered (OtherServer others.Trying) = true
is_unanswered (OtherServer others.Proceeding) = true
is_unanswered (OtherServer others.Completed) = false

pub record IsUnanswered (slots : List (Option Transaction)) (id : ℕ) : Type 0 where
  pub transaction : Transaction
  pub stands : at slots id ≡ Some transaction
  pub unanswered : is_unanswered transaction.state ≡ true

-- its offer was passed on, and has no answer
abbrev pub waits_for : StandingCall → Bool
waits_for c = holds_in awaits_answer c.call.standing

-- the transaction in which the offer came is live while the call waits for its answer
abbrev pub IsServed : List (Option Transaction) → StandingCall → Type 0
IsServed slots c = waits_for c ≡ true → IsUnanswered slots c.asked.id

-- a transaction that was live is live afterwards, with the same request
abbrev pub KeepsRequest : List (Option Transaction) → List (Option Transaction) → ℕ → Type 0
KeepsRequest slots later id = (x : Transaction) → at slots id ≡ Some x → (y : Transaction) × (at later id ≡ Some y) × (y.parts ≡ x.parts)

-- the same holds for the one in which the offer came, while the call waits
abbrev pub KeepsAsked : List (Option Transaction) → List (Option Transaction) → StandingCall → Type 0
KeepsAsked slots later c = waits_for c ≡ true → KeepsRequest slots later c.asked.id

-- and it came from an address
abbrev pub CameFromSource : StandingCall → Type 0
CameFromSource c = IsSource c.asked.source

-- two calls that wait do not wait for one transaction
abbrev pub AskedApart : StandingCall → StandingCall → Type 0
AskedApart c d = waits_for c ≡ true → waits_for d ≡ true → c.asked.id ≢ d.asked.id

abbrev pub AskedApartFrom : StandingCall → List StandingCall → Type 0
AskedApartFrom c [] = Unit {0}
AskedApartFrom c (d ∷ calls) = AskedApart c d × AskedApartFrom c calls

abbrev pub AreAskedApart : List StandingCall → Type 0
AreAskedApart [] = Unit {0}
AreAskedApart (c ∷ calls) = AskedApartFrom c calls × AreAskedApart calls

-- ---- all

-- what the offers of calls have
pub record KnowsOffers (slots : List (Option Transaction)) (calls : List StandingCall) : Type 0 where
  pub sources : All CameFromSource calls
  pub served : All (IsServed slots) calls
  pub apart : AreAskedApart calls

-- each request that is answered was read, and that of each open offer waits for its final response; and where the
-- server is
pub record KnowsAskers (s : Office) : Type 0 where
  pub slots : All IsAskedIf s.table.slots
  pub offers : KnowsOffers s.table.slots s.calls.calls
  pub server : IsReached s.server
  pub least : s.least < 2 ^ 64

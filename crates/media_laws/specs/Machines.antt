-- Which machine a client transaction has (RFC 3261 section 17.1).
use Rattle.std.specs.Prelude.{◌≡◌, true, Option, Some, None}
use Rattle.std.specs.List.{All}
use Rattle.sip_message.specs.declared.message.Parts.{Parts}
use Rattle.transaction_machines.specs.declared.state.State.{State}
use Rattle.transaction_machines.specs.declared.state.State.TheVariants.{InviteClient, InviteServer, OtherClient, OtherServer}
use Rattle.transactions.specs.declared.transaction.Transaction.{Transaction}
use Rattle.call_rules.specs.Speaking.{is_invite}
use Rattle.plans.specs.Office.{Office}

-- that of INVITEs is of an INVITE
abbrev pub FitsMachine : State → Parts → Type 0
FitsMachine (InviteClient state) parts = is_invite parts ≡ true
FitsMachine (InviteServer state) parts = Unit {0}
FitsMachine (OtherClient state) parts = Unit {0}
FitsMachine (OtherServer state) parts = Unit {0}

abbrev pub FitsMachineIf : Option Transaction → Type 0
FitsMachineIf None = Unit {0}
FitsMachineIf (Some x) = FitsMachine x.state x.parts

-- of each that is live
abbrev pub KnowsMachines : Office → Type 0
KnowsMachines s = All FitsMachineIf s.table.slots

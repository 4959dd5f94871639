-- The requests of the server's own whose transactions are live are of values that were read, and no dialog of a call
-- counts past the numbers of CSeq (RFC 3261 section 8.1.1.5).
use Rattle.std.specs.Prelude.{◌≡◌, false, Option, Some, None}
use Rattle.std.specs.List.{All}
use Rattle.dialogs.specs.declared.state.Dialog.{Dialog}
use Rattle.transaction_machines.specs.Machines.{is_server}
use Rattle.transactions.specs.declared.transaction.Transaction.{Transaction}
use Rattle.calls.specs.declared.standing_call.StandingCall.{StandingCall}
use Rattle.plans.specs.Office.{Office}
use Rattle.message_laws.specs.Addresses.{IsReached}
use Rattle.message_laws.specs.SoundScenes.{CountsLow, IsSoundRequest}

abbrev pub CountsLowIf : Option Dialog → Type 0
CountsLowIf None = Unit {0}
CountsLowIf (Some d) = CountsLow d

-- the two dialogs of a call
pub record HasLowNumbers (c : StandingCall) : Type 0 where
  pub caller : CountsLow c.call.caller
  pub callee : CountsLowIf c.call.callee

-- a client transaction keeps such a request (section 17.1)
abbrev pub IsSoundClient : Transaction → Type 0
IsSoundClient t = is_server t.state ≡ false → IsSoundRequest t.uri t.parts

abbrev pub IsSoundClientIf : Option Transaction → Type 0
IsSoundClientIf None = Unit {0}
IsSoundClientIf (Some t) = IsSoundClient t

-- of all that are live; and where the server is reached
pub record KnowsClients (s : Office) : Type 0 where
  pub server : IsReached s.server
  pub slots : All IsSoundClientIf s.table.slots
  pub calls : All HasLowNumbers s.calls.calls

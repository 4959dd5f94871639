-- The four machines of RFC 3261 section 17, with the Accepted states of RFC 6026.
use Rattle.std.specs.Prelude.{◌≡◌, Bool, true, false, Option, Some, None}
use Rattle.transaction_machines.specs.declared.input.Input.{Input}
use Rattle.transaction_machines.specs.declared.state.State.{State}
use Rattle.transaction_machines.specs.declared.state.State.TheVariants.{InviteClient, InviteServer, OtherClient, OtherServer}
use Rattle.transaction_machines.specs.declared.step.Step.{Step}
use Rattle.transaction_machines.specs.InviteClient.{invite_client_row}
use Rattle.transaction_machines.specs.InviteServer.{invite_server_row}
use Rattle.transaction_machines.specs.OtherClient.{other_client_row}
use Rattle.transaction_machines.specs.OtherServer.{other_server_row}

-- what an input does, none where it has no line
unfoldable pub row_of : State → Input → Option Step
row_of (InviteClient state) input = invite_client_row state input
row_of (InviteServer state) input = invite_server_row state input
row_of (OtherClient state) input = other_client_row state input
row_of (OtherServer state) input = other_server_row state input

abbrev pub is_server : State → Bool
is_server (InviteClient state) = false
is_server (InviteServer state) = true
is_server (OtherClient state) = false
is_server (OtherServer state) = true

-- a state that follows is one of the same side
abbrev pub KeepsSide : State → Option State → Type 0
KeepsSide state None = Unit {0}
KeepsSide state (Some next) = is_server next ≡ is_server state

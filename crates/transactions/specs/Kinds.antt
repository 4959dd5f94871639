-- The timers of each state (RFC 3261 section 17, RFC 6026).
use Rattle.std.specs.Prelude.{◌≡◌, ℕ, true, List, [], ◌∷◌}
use Rattle.std.specs.List.{All}
use Rattle.timers.specs.declared.timers.Timer.{Timer}
use Rattle.transaction_machines.specs.declared.input.TimerKind.{TimerKind}
use Rattle.transaction_machines.specs.declared.input.TimerKind.TheVariants.{A, B, D, E, F, G, H, I, J, K, L, M, N}
use Rattle.transaction_machines.specs.declared.invite_client.InviteClient.TheVariants as client
use Rattle.transaction_machines.specs.declared.invite_server.InviteServer.TheVariants as server
use Rattle.transaction_machines.specs.declared.other_client.OtherClient.TheVariants as asked
use Rattle.transaction_machines.specs.declared.other_server.OtherServer.TheVariants as served
use Rattle.transaction_machines.specs.declared.state.State.{State}
use Rattle.transaction_machines.specs.declared.state.State.TheVariants as machine
use Rattle.transaction_machines.specs.Lines.{has_line}
use Rattle.transactions.specs.declared.transaction.TimerId.{TimerId}

-- the kinds that fire in a state
abbrev pub kinds_of : State → List TimerKind
kinds_of (machine.InviteClient (client.Calling interval abandoned)) = A ∷ B ∷ N ∷ []
kinds_of (machine.InviteClient client.Proceeding) = N ∷ []
kinds_of (machine.InviteClient client.Completed) = D ∷ []
kinds_of (machine.InviteClient client.Accepted) = M ∷ []
kinds_of (machine.InviteServer server.Proceeding) = []
kinds_of (machine.InviteServer (server.Completed interval)) = G ∷ H ∷ []
kinds_of (machine.InviteServer server.Confirmed) = I ∷ []
kinds_of (machine.InviteServer server.Accepted) = L ∷ []
kinds_of (machine.OtherClient (asked.Trying interval)) = E ∷ F ∷ []
kinds_of (machine.OtherClient asked.Proceeding) = E ∷ F ∷ []
kinds_of (machine.OtherClient asked.Completed) = K ∷ []
kinds_of (machine.OtherServer served.Trying) = []
kinds_of (machine.OtherServer served.Proceeding) = []
kinds_of (machine.OtherServer served.Completed) = J ∷ []

-- each timer of this transaction has a line in this state
abbrev pub HaveLines : ℕ → State → List (Timer TimerId) → Type 0
HaveLines id state timers = All (λ timer. timer.key.id ≡ id → has_line state timer.key.kind ≡ true) timers

-- Which timers have a line in a state, and that each line keeps it so.
use Rattle.std.specs.Prelude.{Bool, true, false, not, ◌&&◌, ◌||◌, ◌==◌, List, [], ◌∷◌, Option, Some, None, is_some}
use Rattle.std.specs.Bool.{beq}
use Rattle.std.specs.List.{list_all}
use Rattle.transaction_machines.specs.declared.input.Input.{Input}
use Rattle.transaction_machines.specs.declared.input.Input.TheVariants as inputs
use Rattle.transaction_machines.specs.declared.input.TimerKind.{TimerKind}
use Rattle.transaction_machines.specs.declared.input.TimerKind.TheVariants.{A, B, D, E, F, G, H, I, J, K, L, M, N}
use Rattle.transaction_machines.specs.declared.invite_server.InviteServer.TheVariants as server
use Rattle.transaction_machines.specs.declared.state.State.{State}
use Rattle.transaction_machines.specs.declared.state.State.TheVariants as machine
use Rattle.transaction_machines.specs.declared.step.Starts.{Starts}
use Rattle.transaction_machines.specs.declared.step.Starts.TheVariants as starts
use Rattle.transaction_machines.specs.declared.step.Stops.{Stops}
use Rattle.transaction_machines.specs.declared.step.Stops.TheVariants as stops
use Rattle.transaction_machines.specs.declared.step.Step.{Step}
use Rattle.transaction_machines.specs.Inputs.{place_of}
use Rattle.transaction_machines.specs.Machines.{row_of, is_server}

-- the timer has a line in the state
abbrev pub has_line : State → TimerKind → Bool
has_line state kind = is_some (row_of state (inputs.Fires kind))

-- in these states a timer may send again what was sent last
abbrev pub repeats : State → Bool
repeats (machine.InviteClient state) = true
repeats (machine.OtherClient state) = true
repeats (machine.OtherServer state) = false
repeats (machine.InviteServer server.Proceeding) = false
repeats (machine.InviteServer (server.Completed interval)) = true
repeats (machine.InviteServer server.Confirmed) = false
repeats (machine.InviteServer server.Accepted) = false

abbrev pub every_kind : List TimerKind
every_kind = A ∷ B ∷ D ∷ E ∷ F ∷ G ∷ H ∷ I ∷ J ∷ K ∷ L ∷ M ∷ N ∷ []

abbrev pub is_stopped : Stops → TimerKind → Bool
is_stopped stops.NoTimer kind = false
is_stopped stops.Retransmission kind = place_of kind == place_of A || place_of kind == place_of B
is_stopped stops.Every kind = true

-- a timer that runs on has a line in the next state
abbrev pub runs_on : State → Stops → State → TimerKind → Bool
runs_on state stops next kind = is_stopped stops kind || not (has_line state kind) || has_line next kind

-- each timer that starts has a line
abbrev pub starts_with_lines : State → Starts → Bool
starts_with_lines next starts.NoTimer = true
starts_with_lines next (starts.One s) = has_line next s.kind
starts_with_lines next (starts.Two s t) = has_line next s.kind && has_line next t.kind

abbrev pub stops_every : Stops → Bool
stops_every stops.NoTimer = false
stops_every stops.Retransmission = false
stops_every stops.Every = true

abbrev pub starts_none : Starts → Bool
starts_none starts.NoTimer = true
starts_none (starts.One s) = false
starts_none (starts.Two s t) = false

-- a server transaction stays one, each of its timers has a line, and it has sent something where it repeats by timers:
-- with the line, if something fresh is given, or before
abbrev pub follows_to : State → Bool → Step → Option State → Bool
follows_to state given step None = stops_every step.stops && starts_none step.starts
follows_to state given step (Some next) =
    beq (is_server next) (is_server state)
    && list_all (runs_on state step.stops next) every_kind
    && starts_with_lines next step.starts
    && (given || not (repeats next) || repeats state)

unfoldable pub follows : State → Bool → Step → Bool
follows state given step = follows_to state given step step.next

-- a response of the core gives something fresh
abbrev pub is_answer : Input → Bool
is_answer inputs.Repeat = false
is_answer inputs.Ack = false
is_answer (inputs.Answer class) = true
is_answer (inputs.Response class) = false
is_answer inputs.Abandon = false
is_answer (inputs.Fires kind) = false

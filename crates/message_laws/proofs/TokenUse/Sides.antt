-- A line of a machine keeps the side.
use Rattle.std.proofs.Common.{◌≡◌, Bool, true, Option, Some, None}
use Rattle.std.specs.Prelude.{IfSome}
use Rattle.std.specs.Cmp.{booleans_Decides}
use Rattle.std.proofs.lemmas.Bool.{and_parts}
use Rattle.transaction_machines.specs.declared.input.Input.{Input}
use Rattle.transaction_machines.specs.declared.state.State.{State}
use Rattle.transaction_machines.specs.declared.step.Step.{Step}
use Rattle.transaction_machines.specs.Lines.{follows, follows_to, is_answer}
use Rattle.transaction_machines.specs.Machines.{KeepsSide, is_server, row_of}
use Rattle.transaction_machines.proofs.RowLaws.{row_follows}

side_to : (state : State) (given : Bool) (step : Step) (next : Option State) → follows_to state given step next ≡ true → KeepsSide state next
side_to state given step None h = tt
side_to state given step (Some next) h =
    let two = (and_parts _ _ h).0 in
    let three = (and_parts _ _ two).0 in
    (booleans_Decides (is_server next) (is_server state)).0 (and_parts _ _ three).0

side_of : (state : State) (given : Bool) (line : Option Step) → IfSome line (λ step. follows state given step ≡ true) → IfSome line (λ step. KeepsSide state step.next)
unfolding follows
side_of state given None h = tt
side_of state given (Some step) h = side_to state given step step.next h

pub keeps_side : (state : State) (input : Input) → IfSome (row_of state input) (λ step. KeepsSide state step.next)
keeps_side state input = side_of state (is_answer input) (row_of state input) (row_follows state input)

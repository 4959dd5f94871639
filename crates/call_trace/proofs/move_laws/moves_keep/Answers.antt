use Rattle.call_trace.proofs.Standing.{none_stand, offering_fits}
use Rattle.call_trace.proofs.Running.{stands_moved, stands_run}
use Rattle.call_trace.proofs.move_laws.moves_keep.Goals as goal

pub returns : goal.returns
returns c = record { offering = offering_fits; none = none_stand; one = stands_moved; many = stands_run }

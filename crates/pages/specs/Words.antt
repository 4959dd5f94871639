-- The words for phases and directions.
use Rattle.std.specs.Prelude.{ℕ, List, codes}
use Rattle.status.specs.declared.call.CallPhase.{CallPhase}
use Rattle.status.specs.declared.call.CallPhase.TheVariants.{Calling, Cancelling, Answered, Talking, Changing, Ending}
use Rattle.status.specs.declared.call.Direction.{Direction}
use Rattle.status.specs.declared.call.Direction.TheVariants.{Both, FromCaller, FromCallee, Neither}

abbrev pub phase_word : CallPhase → List ℕ
phase_word Calling = codes "calling"
phase_word Cancelling = codes "cancelling"
phase_word Answered = codes "answered"
phase_word Talking = codes "talking"
phase_word Changing = codes "changing"
phase_word Ending = codes "ending"

abbrev pub direction_word : Direction → List ℕ
direction_word Both = codes "both"
direction_word FromCaller = codes "from_caller"
direction_word FromCallee = codes "from_callee"
direction_word Neither = codes "neither"

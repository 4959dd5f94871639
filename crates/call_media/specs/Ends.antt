-- The two ends of a call.
use Rattle.std.specs.Prelude.{Bool, true, false}
use Rattle.call_media.specs.declared.end.End.{End}
use Rattle.call_media.specs.declared.end.End.TheVariants.{Caller, Callee}

abbrev pub other : End → End
other Caller = Callee
other Callee = Caller

abbrev pub is_same : End → End → Bool
is_same Caller Caller = true
is_same Caller Callee = false
is_same Callee Caller = false
is_same Callee Callee = true

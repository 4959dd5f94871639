-- What was written before is still there.
use Rattle.std.proofs.Common.{◌++◌, ◌∙◌, ℕ, List, Result, Ok, Err, append_assoc}
use Rattle.std.specs.Prelude.{OnErr}
use Rattle.sip_uri.specs.Writing.{BeginsWith}

pub on_err : {X E : Type 0} (result : Result X E) (P : Type 0) → P → OnErr result P
on_err (Ok x) P holds = tt
on_err (Err e) P holds = holds

pub begins_on : (old middle new : List ℕ) → BeginsWith old middle → BeginsWith middle new → BeginsWith old new
begins_on old middle new first then = (first.0 ++ then.0, then.1 ∙ rw (first.1) (append_assoc old first.0 then.0))

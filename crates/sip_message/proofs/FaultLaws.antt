-- Faults pass through the steps after them.
use Rattle.std.proofs.Common.{◌≡◌, Result, Ok, Err, IsErrAnd, sym, ap, subst}
use Rattle.sip_message.specs.declared.error.MessageError.{MessageError}
use Rattle.sip_message.specs.declared.error.MessageError.TheVariants.{OutOfMemory, StartLine, Version, HeaderLine, Missing, Unreadable, Short, TooLong}
use Rattle.sip_message.specs.Faults.{Fails, Gives, and_then}

-- a fault that comes is the one that comes
pub fails_itself : {X : Type 0} (e : MessageError) (read : Result X MessageError) → read ≡ Err e → Fails e read
fails_itself OutOfMemory read h = tt
fails_itself StartLine read h = h
fails_itself Version read h = h
fails_itself HeaderLine read h = h
fails_itself (Missing name) read h = h
fails_itself (Unreadable name) read h = h
fails_itself Short read h = h
fails_itself TooLong read h = h

-- a fault of a step is the fault of the whole
pub failed_then : {X Y : Type 0} (e : MessageError) (step : Result X MessageError) (next : X → Result Y MessageError) → Fails e step → Fails e (and_then step next)
failed_then OutOfMemory step next h = tt
failed_then StartLine step next h = ap (λ s. and_then s next) h
failed_then Version step next h = ap (λ s. and_then s next) h
failed_then HeaderLine step next h = ap (λ s. and_then s next) h
failed_then (Missing name) step next h = ap (λ s. and_then s next) h
failed_then (Unreadable name) step next h = ap (λ s. and_then s next) h
failed_then Short step next h = ap (λ s. and_then s next) h
failed_then TooLong step next h = ap (λ s. and_then s next) h

-- what a `?` returns
pub handed_out : {X : Type 0} (r : Result X MessageError) (e : MessageError) (read : Result X MessageError) → IsErrAnd r (λ d. d ≡ e) → Fails e read → Gives r read
handed_out (Ok x) e read h k = absurd h
handed_out (Err d) e read h k = subst (λ (b : MessageError). Fails b read) (sym h) k

-- Steps that may fail, and what a call returns for them.
use Rattle.std.specs.Prelude.{◌≡◌, Option, Some, None, Result, Ok, Err}
use Rattle.sip_message.specs.declared.header_names.HeaderName.{HeaderName}
use Rattle.sip_message.specs.declared.error.MessageError.{MessageError}
use Rattle.sip_message.specs.declared.error.MessageError.TheVariants.{OutOfMemory, StartLine, Version, HeaderLine, Missing, Unreadable, Short, TooLong}

-- this fault is the one that reading gives; a lack of memory may come at any time
abbrev pub Fails : {X : Type 0} → MessageError → Result X MessageError → Type 0
Fails OutOfMemory read = Unit {0}
Fails StartLine read = read ≡ Err StartLine
Fails Version read = read ≡ Err Version
Fails HeaderLine read = read ≡ Err HeaderLine
Fails (Missing name) read = read ≡ Err (Missing name)
Fails (Unreadable name) read = read ≡ Err (Unreadable name)
Fails Short read = read ≡ Err Short
Fails TooLong read = read ≡ Err TooLong

-- A call returned what reading gives, unless memory ran out.
abbrev pub Gives : {X : Type 0} → Result X MessageError → Result X MessageError → Type 0
Gives (Ok x) read = read ≡ Ok x
Gives (Err e) read = Fails e read

-- the next step, if the one before it gave a value
abbrev pub and_then : {X Y : Type 0} → Result X MessageError → (X → Result Y MessageError) → Result Y MessageError
and_then (Ok x) next = next x
and_then (Err e) next = Err e

-- the value, or the fault that this header cannot be read
abbrev pub readable : {X : Type 0} → HeaderName → Option X → Result X MessageError
readable name None = Err (Unreadable name)
readable name (Some x) = Ok x

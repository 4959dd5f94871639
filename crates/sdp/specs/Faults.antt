-- What a call returns of what reading gives.
use Rattle.std.specs.Prelude.{◌≡◌, Result, Ok, Err}
use Rattle.sdp.specs.declared.error.DescriptionError.{DescriptionError}
use Rattle.sdp.specs.declared.error.DescriptionError.TheVariants.{OutOfMemory, Order, LineForm, Version, Origin, Connection, Medium, NoConnection, TooManyMedia, TooManyFormats}

-- this fault is the one that reading gives; a lack of memory may come at any time
abbrev pub Fails : {X : Type 0} → DescriptionError → Result X DescriptionError → Type 0
Fails OutOfMemory read = Unit {0}
Fails Order read = read ≡ Err Order
Fails LineForm read = read ≡ Err LineForm
Fails Version read = read ≡ Err Version
Fails Origin read = read ≡ Err Origin
Fails Connection read = read ≡ Err Connection
Fails Medium read = read ≡ Err Medium
Fails NoConnection read = read ≡ Err NoConnection
Fails TooManyMedia read = read ≡ Err TooManyMedia
Fails TooManyFormats read = read ≡ Err TooManyFormats

-- A call returned what reading gives, unless memory ran out.
abbrev pub Gives : {X : Type 0} → Result X DescriptionError → Result X DescriptionError → Type 0
Gives (Ok x) read = read ≡ Ok x
Gives (Err e) read = Fails e read

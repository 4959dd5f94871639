-- What is read of a datagram is what its message shows.
use Rattle.std.proofs.Common.{◌≡◌, ℕ, List, Result, Ok, Err, refl, sym, ap, subst, ◌∙◌}
use Rattle.std.specs.Prelude.{IfOk, IfErr}
use Rattle.call_trace.specs.declared.datagram.Datagram.{Datagram}
use Rattle.call_trace.specs.declared.datagram.Message.{Message as TraceMessage}
use Rattle.call_trace.specs.Runs.{AreRead}
use Rattle.sip_message.specs.declared.error.MessageError.{MessageError}
use Rattle.sip_message.specs.declared.error.MessageError.TheVariants.{OutOfMemory, StartLine, Version, HeaderLine, Missing, Unreadable, Short, TooLong}
use Rattle.sip_message.specs.declared.message.Message.{Message}
use Rattle.sip_message.specs.Faults.{Fails, Gives, and_then}
use Rattle.sip_message.specs.Grammar.{ReadsMessage, IsWithin, Refuses}
use Rattle.sip_message.specs.Read.{message_of}
use Rattle.sip_message.proofs.FaultLaws.{fails_itself, failed_then}
use Rattle.sip_message.proofs.MessageLaws as messages
use Rattle.trace_reading.specs.Message.{trace_message}
use Rattle.trace_reading.specs.Read.{Shows, read_of, seen_by, seen, AreShown}

abbrev shown : List ℕ → Message → Result TraceMessage MessageError
shown bytes m = Ok (trace_message bytes m)

abbrev failed : MessageError → Result Message MessageError
failed e = Err e

-- what a call gives of a message that was read
pub given : (bytes : List ℕ) (m : Message) (r : Result TraceMessage MessageError) → message_of bytes ≡ Ok m → Gives r (Ok (trace_message bytes m)) → Gives r (read_of bytes)
given bytes m r is gives = subst (λ (f : Result Message MessageError). Gives r (and_then f (shown bytes))) (sym is) gives

-- what a call gives of a message that was not
pub refused : (bytes : List ℕ) (e : MessageError) → Fails e (message_of bytes) → Fails e (read_of bytes)
refused bytes e fails = failed_then e (message_of bytes) (shown bytes) fails

-- ---- found, only, refused

gives_itself : (r : Result Message MessageError) → Gives r r
gives_itself (Ok m) = refl
gives_itself (Err e) = fails_itself e (Err e) refl

found_by : (bytes : List ℕ) (r : Result Message MessageError) (seen : TraceMessage) → IfOk r (λ m. (reads : ReadsMessage bytes m) × IsWithin bytes m reads) → and_then r (shown bytes) ≡ Ok seen → Shows bytes seen
found_by bytes (Ok m) seen is h = record { message = m; reads = is.0; within = is.1; shown = cc }
found_by bytes (Err e) seen is h = absurd cc

pub found_at : (bytes : List ℕ) (r : Result TraceMessage MessageError) → Gives r (read_of bytes) → IfOk r (λ m. Shows bytes m)
found_at bytes (Ok m) gives = found_by bytes (message_of bytes) m (messages.found_at bytes (message_of bytes) (gives_itself (message_of bytes))) gives
found_at bytes (Err e) gives = tt

pub only_at : (bytes : List ℕ) (r : Result TraceMessage MessageError) (m : Message) (reads : ReadsMessage bytes m) → Gives r (read_of bytes) → IsWithin bytes m reads → Gives r (Ok (trace_message bytes m))
only_at bytes r m reads gives within = subst (λ (f : Result Message MessageError). Gives r (and_then f (shown bytes))) (messages.message_again bytes m reads within) gives

fault_of : (bytes : List ℕ) (r : Result Message MessageError) (e : MessageError) → and_then r (shown bytes) ≡ Err e → r ≡ Err e
fault_of bytes (Ok m) e h = absurd cc
fault_of bytes (Err d) e h = let same : d ≡ e = cc in ap failed same

refused_with : (bytes : List ℕ) (e : MessageError) → read_of bytes ≡ Err e → Refuses bytes e
refused_with bytes e h = messages.refused_at bytes (Err e) (fails_itself e (message_of bytes) (fault_of bytes (message_of bytes) e h))

pub refused_at : (bytes : List ℕ) (r : Result TraceMessage MessageError) → Gives r (read_of bytes) → IfErr r (λ e. Refuses bytes e)
refused_at bytes (Ok m) gives = tt
refused_at bytes (Err OutOfMemory) gives = tt
refused_at bytes (Err StartLine) gives = refused_with bytes StartLine gives
refused_at bytes (Err Version) gives = refused_with bytes Version gives
refused_at bytes (Err HeaderLine) gives = refused_with bytes HeaderLine gives
refused_at bytes (Err (Missing name)) gives = refused_with bytes (Missing name) gives
refused_at bytes (Err (Unreadable name)) gives = refused_with bytes (Unreadable name) gives
refused_at bytes (Err Short) gives = refused_with bytes Short gives
refused_at bytes (Err TooLong) gives = refused_with bytes TooLong gives

-- ---- the bytes say all

pub one_seen : (bytes : List ℕ) (a b : Message) → ReadsMessage bytes a → ReadsMessage bytes b → trace_message bytes a ≡ trace_message bytes b
one_seen bytes a b reads again = ap (trace_message bytes) (messages.one_message bytes a b reads again)

pub same_bytes : (bytes : List ℕ) (m : Message) → (trace_message bytes m).bytes ≡ bytes
unfolding trace_message
same_bytes bytes m = refl

seen_is : (bytes : List ℕ) (m : TraceMessage) → Shows bytes m → m ≡ seen bytes
unfolding seen
seen_is bytes m h = h.shown ∙ sym (ap (λ (r : Result Message MessageError). seen_by bytes (and_then r (shown bytes))) (messages.message_again bytes h.message h.reads h.within))

pub shown_is_read : (t : List Datagram) → AreShown t → AreRead seen t
shown_is_read t h i p at = seen_is p.message.bytes p.message (h i p at)

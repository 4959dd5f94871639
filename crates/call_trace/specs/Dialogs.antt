-- The dialog that a datagram names.
use Rattle.std.specs.Prelude.{ℕ, Bool, true, false, List, if◌then◌else◌}
use Rattle.call_trace.specs.declared.datagram.Direction.{Direction}
use Rattle.call_trace.specs.declared.datagram.Direction.TheVariants.{Taken, Sent}
use Rattle.call_trace.specs.declared.datagram.Kind.{Kind}
use Rattle.call_trace.specs.declared.datagram.Kind.TheVariants.{Request, Response}
use Rattle.call_trace.specs.declared.datagram.Datagram.{Datagram}
use Rattle.call_trace.specs.declared.datagram.Dialog.{Dialog}

-- Our tag is in From where the request is ours, so in a request sent and in a response taken; in a request taken and
-- in a response sent it is in To (RFC 3261 sections 8.1.1.3, 8.2.6.2 and 12.1).
abbrev pub is_ours_in_from : Direction → Kind → Bool
is_ours_in_from Sent Request = true
is_ours_in_from Sent (Response status) = false
is_ours_in_from Taken Request = false
is_ours_in_from Taken (Response status) = true

abbrev pub our_tag : Datagram → List ℕ
our_tag p = if is_ours_in_from p.direction p.message.kind then p.message.from_tag else p.message.to_tag

abbrev pub their_tag : Datagram → List ℕ
their_tag p = if is_ours_in_from p.direction p.message.kind then p.message.to_tag else p.message.from_tag

-- the dialog that the datagram's identifiers name (RFC 3261 section 12)
abbrev pub dialog_of : Datagram → Dialog
dialog_of p = record { call_id = p.message.call_id; ours = our_tag p; theirs = their_tag p }

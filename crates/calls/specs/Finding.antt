-- Which call a message or a timer is for.
use Rattle.std.specs.Prelude.{ℕ, ◌==◌, ◌&&◌, ◌||◌, Bool, true, false, List, position, nat_eq, Option, Some, None}
use Rattle.std.specs.Cmp.Lexicographic.{pointwise}
use Rattle.sip_message.specs.declared.message.Parts.{Parts}
use Rattle.call_core.specs.Calls.{dialog_of, holds_in}
use Rattle.call_core.specs.declared.stage.Stage.{Stage}
use Rattle.call_core.specs.declared.stage.Stage.TheVariants.{Asked, Cancelling, Answered, Settled, Reasked, Reanswered, Updating, Ending}
use Rattle.call_core.specs.declared.stage.Standing.{Standing}
use Rattle.call_media.specs.declared.end.End.{End}
use Rattle.call_media.specs.declared.end.End.TheVariants.{Caller}
use Rattle.dialogs.specs.declared.state.Dialog.{Dialog}
use Rattle.dialogs.specs.Identifiers.{id_of_request, same_id}
use Rattle.calls.specs.declared.standing_call.StandingCall.{StandingCall}

-- ---- a request of an end

-- a request that was taken is in this dialog, where there is one (RFC 3261 section 12.2.2)
abbrev pub is_of_dialog : Parts → Option Dialog → Bool
is_of_dialog parts None = false
is_of_dialog parts (Some d) = same_id d.id (id_of_request parts)

abbrev pub is_of_end : End → Parts → StandingCall → Bool
is_of_end end parts c = is_of_dialog parts (dialog_of end c.call)

abbrev pub place_by_end : End → Parts → List StandingCall → Option ℕ
place_by_end end parts calls = position (is_of_end end parts) calls

-- ---- a CANCEL, by the transaction that it names

-- an INVITE of an end has no final response: only then a CANCEL changes anything (RFC 3261 sections 9.1 and 9.2)
abbrev pub is_cancellable : Stage → Bool
is_cancellable (Asked rung) = true
is_cancellable (Cancelling sent) = false
is_cancellable (Answered interval) = false
is_cancellable Settled = false
is_cancellable (Reasked rung cancelled) = true
is_cancellable (Reanswered interval) = false
is_cancellable Updating = false
is_cancellable (Ending interval) = false

-- the offer that was taken last came with this transaction, in an INVITE that has no final response
abbrev pub has_open_offer : ℕ → StandingCall → Bool
has_open_offer id c = c.asked.id == id && holds_in is_cancellable c.call.standing

abbrev pub place_by_offer : ℕ → List StandingCall → Option ℕ
place_by_offer id calls = position (has_open_offer id) calls

-- ---- the ACK of a 2xx

-- the 2xx to an INVITE waits for its ACK (section 13.3.1.4)
abbrev pub awaits_ack : Stage → Bool
awaits_ack (Asked rung) = false
awaits_ack (Cancelling sent) = false
awaits_ack (Answered interval) = true
awaits_ack Settled = false
awaits_ack (Reasked rung cancelled) = false
awaits_ack (Reanswered interval) = true
awaits_ack Updating = false
awaits_ack (Ending interval) = true

-- it is in the dialog with the end whose INVITE was answered, and has that INVITE's number (section 13.2.2.4)
abbrev pub is_ack_in : Parts → StandingCall → Option Standing → Bool
is_ack_in parts c None = false
is_ack_in parts c (Some s) = awaits_ack s.stage && parts.cseq.number == c.asked.number && is_of_end s.offerer parts c

abbrev pub awaits_this_ack : Parts → StandingCall → Bool
awaits_this_ack parts c = is_ack_in parts c c.call.standing

abbrev pub place_by_ack : Parts → List StandingCall → Option ℕ
place_by_ack parts calls = position (awaits_this_ack parts) calls

-- ---- a response to a request of the server's own, by the tag that the server's From had

abbrev pub is_text : List ℕ → List ℕ → Bool
is_text one other = pointwise nat_eq one other

abbrev pub is_tag_in : Option Dialog → List ℕ → Bool
is_tag_in None tag = false
is_tag_in (Some d) tag = is_text d.id.ours tag

-- the tag names the leg to the callee, or the dialog with the caller
abbrev pub has_tag : List ℕ → StandingCall → Bool
has_tag tag c = is_text c.callee_tag tag || is_tag_in (dialog_of Caller c.call) tag

abbrev pub place_by_tag : List ℕ → List StandingCall → Option ℕ
place_by_tag tag calls = position (has_tag tag) calls

-- ---- a timer

abbrev pub has_number : ℕ → StandingCall → Bool
has_number number c = c.call.number == number

abbrev pub place_by_number : ℕ → List StandingCall → Option ℕ
place_by_number number calls = position (has_number number) calls

-- Which rule a request inside a call falls under (RFC 3261 sections 12.2.2, 14.2 and 15.1.2, RFC 3311 section 5.2).
use Rattle.std.specs.Prelude.{ℕ, Bool, true, false, not, List, slice_get, Option, Some, None, if◌then◌else◌}
use Rattle.sip_message.specs.declared.message.Request.{Request}
use Rattle.call_media.specs.declared.end.End.{End}
use Rattle.call_media.specs.declared.end.End.TheVariants.{Caller, Callee}
use Rattle.call_media.specs.Ends.{is_same}
use Rattle.call_core.specs.Calls.{dialog_of}
use Rattle.call_core.specs.declared.stage.Stage.{Stage}
use Rattle.call_core.specs.declared.stage.Stage.TheVariants.{Asked, Cancelling, Answered, Settled, Reasked, Reanswered, Updating, Ending}
use Rattle.call_core.specs.declared.stage.Standing.{Standing}
use Rattle.dialogs.specs.Counting.{is_above}
use Rattle.dialogs.specs.declared.state.Dialog.{Dialog}
use Rattle.calls.specs.declared.standing_call.StandingCall.{StandingCall}
use Rattle.calls.specs.Finding.{place_by_end}
use Rattle.call_rules.specs.DialogRule.{DialogRule, NoDialog, OldNumber, Leaves, Offers, Plain}
use Rattle.call_rules.specs.Speaking.{is_bye, is_offer}

-- ---- an end whose dialog is over: it sent a BYE or was sent one, or its first INVITE was refused (sections 12.3 and
-- 15)

-- the end that answered left before the ACK; a first INVITE that was given up was refused
abbrev pub left_in : Stage → End → End → Bool
left_in (Asked rung) offerer end = false
left_in (Cancelling sent) offerer end = true
left_in (Answered interval) offerer end = false
left_in Settled offerer end = false
left_in (Reasked rung cancelled) offerer end = false
left_in (Reanswered interval) offerer end = false
left_in Updating offerer end = false
left_in (Ending interval) offerer end = not (is_same end offerer)

abbrev pub has_left : Option Standing → End → Bool
has_left None end = true
has_left (Some s) end = left_in s.stage s.offerer end

-- ---- the rule

abbrev pub counted_rule : Request → ℕ → End → DialogRule
counted_rule r place end = if is_bye r.parts then Leaves place end else if is_offer r then Offers place end else Plain place end

-- its number has to be above that of the last request of this end (section 12.2.2)
abbrev pub in_dialog : Request → ℕ → End → Option Dialog → DialogRule
in_dialog r place end None = NoDialog
in_dialog r place end (Some d) = if is_above d.remote_number r.parts.cseq.number then counted_rule r place end else OldNumber place end

abbrev pub in_call : Request → ℕ → End → Option StandingCall → DialogRule
in_call r place end None = NoDialog
in_call r place end (Some c) = if has_left c.call.standing end then NoDialog else in_dialog r place end (dialog_of end c.call)

abbrev pub of_callee : List StandingCall → Request → Option ℕ → DialogRule
of_callee standing r None = NoDialog
of_callee standing r (Some place) = in_call r place Callee (slice_get standing place)

abbrev pub of_caller : List StandingCall → Request → Option ℕ → DialogRule
of_caller standing r None = of_callee standing r (place_by_end Callee r.parts standing)
of_caller standing r (Some place) = in_call r place Caller (slice_get standing place)

unfoldable pub dialog_rule : List StandingCall → Request → DialogRule
dialog_rule standing r = of_caller standing r (place_by_end Caller r.parts standing)

-- ---- the dialog once it took a request of this number (section 12.2.2)

abbrev pub with_remote_number : ℕ → Dialog → Dialog
with_remote_number number d = record d { remote_number = Some number }

-- A request by which an end leaves its call is a BYE (RFC 3261 section 15.1.2).
use Rattle.std.proofs.Common.{◌≡◌, ℕ, Bool, true, false, cond, List, Option, Some, None, refl, subst}
use Rattle.std.specs.Prelude.{slice_get}
use Rattle.sip_message.specs.declared.message.Request.{Request}
use Rattle.dialogs.specs.Counting.{is_above}
use Rattle.dialogs.specs.declared.state.Dialog.{Dialog}
use Rattle.call_media.specs.declared.end.End.{End}
use Rattle.call_media.specs.declared.end.End.TheVariants.{Callee, Caller}
use Rattle.call_core.specs.Calls.{dialog_of}
use Rattle.calls.specs.declared.standing_call.StandingCall.{StandingCall}
use Rattle.call_rules.specs.DialogRule.{DialogRule}
use Rattle.call_rules.specs.DialogRule as dialogrules
use Rattle.call_rules.specs.Requests.{counted_rule, dialog_rule, has_left, in_call, in_dialog, of_callee, of_caller}
use Rattle.call_rules.specs.Speaking.{is_bye, is_offer}

abbrev LeavesByBye : Request → DialogRule → Type 0
LeavesByBye r (dialogrules.Leaves place end) = is_bye r.parts ≡ true
LeavesByBye r rule = Unit {0}

counted_leaves : (r : Request) (place : ℕ) (end : End) (b c : Bool) → is_bye r.parts ≡ b → LeavesByBye r (cond b (dialogrules.Leaves place end) (cond c (dialogrules.Offers place end) (dialogrules.Plain place end)))
counted_leaves r place end true c e = e
counted_leaves r place end false true e = tt
counted_leaves r place end false false e = tt

numbered_leaves : (r : Request) (place : ℕ) (end : End) (b : Bool) → LeavesByBye r (cond b (counted_rule r place end) (dialogrules.OldNumber place end))
numbered_leaves r place end true = counted_leaves r place end (is_bye r.parts) (is_offer r) refl
numbered_leaves r place end false = tt

dialog_leaves : (r : Request) (place : ℕ) (end : End) (d : Option Dialog) → LeavesByBye r (in_dialog r place end d)
dialog_leaves r place end None = tt
dialog_leaves r place end (Some d) = numbered_leaves r place end (is_above d.remote_number r.parts.cseq.number)

left_by : (r : Request) (place : ℕ) (end : End) (d : Option Dialog) (b : Bool) → LeavesByBye r (cond b dialogrules.NoDialog (in_dialog r place end d))
left_by r place end d true = tt
left_by r place end d false = dialog_leaves r place end d

call_leaves : (r : Request) (place : ℕ) (end : End) (c : Option StandingCall) → LeavesByBye r (in_call r place end c)
call_leaves r place end None = tt
call_leaves r place end (Some c) = left_by r place end (dialog_of end c.call) (has_left c.call.standing end)

callee_leaves : (calls : List StandingCall) (r : Request) (place : Option ℕ) → LeavesByBye r (of_callee calls r place)
callee_leaves calls r None = tt
callee_leaves calls r (Some place) = call_leaves r place Callee (slice_get calls place)

caller_leaves : (calls : List StandingCall) (r : Request) (place : Option ℕ) → LeavesByBye r (of_caller calls r place)
caller_leaves calls r None = callee_leaves calls r _
caller_leaves calls r (Some place) = call_leaves r place Caller (slice_get calls place)

rule_leaves : (calls : List StandingCall) (r : Request) → LeavesByBye r (dialog_rule calls r)
unfolding dialog_rule
rule_leaves calls r = caller_leaves calls r _

pub leaves_by_bye : (calls : List StandingCall) (r : Request) (place : ℕ) (end : End) → dialog_rule calls r ≡ dialogrules.Leaves place end → is_bye r.parts ≡ true
leaves_by_bye calls r place end is = subst (LeavesByBye r) is (rule_leaves calls r)

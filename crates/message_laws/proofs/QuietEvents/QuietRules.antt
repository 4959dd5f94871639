-- What the rules of requests have the server answer by itself is quiet.
use Rattle.std.proofs.Common.{◌≡◌, ◌≤◌, ◌∙◌, ℕ, false, cond, List, codes, le-ltb, nat_le, nat_lt, Option, Some, None, inl, refl, ap, subst}
use Rattle.std.specs.Prelude.{nat_eq, slice_get}
use Rattle.std.specs.Cmp.Lexicographic.{pointwise}
use Rattle.std.proofs.lemmas.Bool.{and_right, or_parts}
use Rattle.sip_message.specs.declared.message.Parts.{Parts}
use Rattle.sip_message.specs.declared.message.Request.{Request}
use Rattle.call_media.specs.declared.end.End.{End}
use Rattle.call_media.specs.declared.end.End.TheVariants.{Callee, Caller}
use Rattle.call_core.specs.Calls.{dialog_of}
use Rattle.dialogs.specs.declared.state.Dialog.{Dialog}
use Rattle.dialogs.specs.Counting.{is_above}
use Rattle.calls.specs.Finding.{place_by_end}
use Rattle.calls.specs.declared.standing_call.StandingCall.{StandingCall}
use Rattle.call_rules.specs.DialogRule.{DialogRule}
use Rattle.call_rules.specs.DialogRule as dialogrules
use Rattle.call_rules.specs.Requests.{counted_rule, dialog_rule, has_left, in_call, in_dialog, of_callee, of_caller}
use Rattle.call_rules.specs.Speaking.{is_bye, is_offer}
use Rattle.call_trace.specs.declared.datagram.Kind.TheVariants as kinds
use Rattle.call_trace.specs.Messages.{is_success}
use Rattle.plans.specs.Office.{Office}
use Rattle.plans.specs.Reasons.{status}
use Rattle.plans.specs.declared.reason.Reason.{Reason}
use Rattle.plans.specs.declared.rule.Reply.{Reply}
use Rattle.plans.specs.declared.rule.Reply.TheVariants as replies
use Rattle.plans.proofs.ReasonLaws.{reason_refuses}
use Rattle.event_rows.specs.Rule as rules
use Rattle.event_rows.specs.Rules.{request_rule}
use Rattle.message_laws.specs.Quiet.{IsQuietReply, IsQuietStatus, MovesNone}
use Rattle.message_laws.proofs.Messages.Repeats.{FitsReply}
use Rattle.message_laws.proofs.Messages.RequestViews.{alone_fits, by_if}

-- the method of the request's line is that of its CSeq
abbrev pub IsOneMethod : Request → Type 0
IsOneMethod r = r.parts.cseq.method ≡ r.method

other_method : (r : Request) (name : List ℕ) → IsOneMethod r → pointwise nat_eq name (codes "INVITE") ≡ false → pointwise nat_eq name (codes "BYE") ≡ false → r.method ≡ name → MovesNone r.parts
other_method r name one i b is =
    let e : r.parts.cseq.method ≡ name = one ∙ is in
    record { no_invite = ap (λ m. pointwise nat_eq m (codes "INVITE")) e ∙ i; no_bye = ap (λ m. pointwise nat_eq m (codes "BYE")) e ∙ b }

-- ---- what a rule replies

pub fits_quiet : (r : Request) (reply : Reply) → IsOneMethod r → FitsReply r reply → IsQuietReply r reply
fits_quiet r (replies.CancelOf other) one is = other_method r (codes "CANCEL") one refl refl is
fits_quiet r (replies.Refusal reason) one is = tt
fits_quiet r replies.MethodsListed one is = other_method r (codes "OPTIONS") one refl refl is
fits_quiet r replies.Registration one is = other_method r (codes "REGISTER") one refl refl is

pub alone_quiet : (s : Office) (r : Request) (now : ℕ) (reply : Reply) → r.parts.cseq.method ≡ r.method → request_rule s r now ≡ rules.Alone reply → IsQuietReply r reply
alone_quiet s r now reply one is = fits_quiet r reply one (alone_fits s r now reply is)

-- ---- a refusal

refused_is_none : (status : ℕ) → 300 ≤ status → is_success (kinds.Response status) ≡ false
refused_is_none status low = and_right (nat_le 200 status) (nat_lt status 300) (le-ltb status 300 low)

-- is not a 2xx
pub refusal_quiet : (parts : Parts) (reason : Reason) → IsQuietStatus parts (status reason)
refusal_quiet parts reason = inl (refused_is_none (status reason) (reason_refuses reason).0)

-- ---- an UPDATE without an offer

abbrev IsPlainOther : Request → DialogRule → Type 0
IsPlainOther r dialogrules.NoDialog = Unit {0}
IsPlainOther r (dialogrules.OldNumber place end) = Unit {0}
IsPlainOther r (dialogrules.Leaves place end) = Unit {0}
IsPlainOther r (dialogrules.Offers place end) = Unit {0}
IsPlainOther r (dialogrules.Plain place end) = MovesNone r.parts

counted_other : (r : Request) (place : ℕ) (end : End) → IsPlainOther r (counted_rule r place end)
counted_other r place end =
    by_if (IsPlainOther r) (is_bye r.parts) (dialogrules.Leaves place end) (cond (is_offer r) (dialogrules.Offers place end) (dialogrules.Plain place end)) (λ b. tt)
    (λ bye. by_if (IsPlainOther r) (is_offer r) (dialogrules.Offers place end) (dialogrules.Plain place end) (λ b. tt)
    (λ o. record { no_invite = (or_parts _ _ o).0; no_bye = bye }))

in_dialog_other : (r : Request) (place : ℕ) (end : End) (d : Option Dialog) → IsPlainOther r (in_dialog r place end d)
in_dialog_other r place end None = tt
in_dialog_other r place end (Some d) =
    by_if (IsPlainOther r) (is_above d.remote_number r.parts.cseq.number) (counted_rule r place end) (dialogrules.OldNumber place end) (λ b. counted_other r place end) (λ b. tt)

in_call_other : (r : Request) (place : ℕ) (end : End) (c : Option StandingCall) → IsPlainOther r (in_call r place end c)
in_call_other r place end None = tt
in_call_other r place end (Some c) =
    by_if (IsPlainOther r) (has_left c.call.standing end) dialogrules.NoDialog (in_dialog r place end (dialog_of end c.call)) (λ b. tt) (λ b. in_dialog_other r place end (dialog_of end c.call))

of_callee_other : (standing : List StandingCall) (r : Request) (place : Option ℕ) → IsPlainOther r (of_callee standing r place)
of_callee_other standing r None = tt
of_callee_other standing r (Some place) = in_call_other r place Callee (slice_get standing place)

of_caller_other : (standing : List StandingCall) (r : Request) (place : Option ℕ) → IsPlainOther r (of_caller standing r place)
of_caller_other standing r None = of_callee_other standing r (place_by_end Callee r.parts standing)
of_caller_other standing r (Some place) = in_call_other r place Caller (slice_get standing place)

dialog_other : (standing : List StandingCall) (r : Request) → IsPlainOther r (dialog_rule standing r)
unfolding dialog_rule
dialog_other standing r = of_caller_other standing r (place_by_end Caller r.parts standing)

pub plain_other : (standing : List StandingCall) (r : Request) (place : ℕ) (end : End) → dialog_rule standing r ≡ dialogrules.Plain place end → MovesNone r.parts
plain_other standing r place end is = subst (IsPlainOther r) is (dialog_other standing r)

-- Where a request counts in a dialog, its number is above what that had taken (RFC 3261 section 12.2.2).
use Rattle.std.proofs.Common.{◌≡◌, ◌⊎◌, ℕ, true, List, Option, Some, None, inl, inr, refl, subst}
use Rattle.std.specs.Prelude.{slice_get, cond}
use Rattle.sip_message.specs.declared.message.Request.{Request}
use Rattle.call_media.specs.declared.end.End.{End}
use Rattle.call_media.specs.declared.end.End.TheVariants.{Callee, Caller}
use Rattle.call_core.specs.Calls.{dialog_of}
use Rattle.call_rules.specs.Requests.{counted_rule, dialog_rule, has_left, in_call, in_dialog, of_callee, of_caller}
use Rattle.call_rules.specs.Speaking.{is_bye, is_offer}
use Rattle.call_rules.specs.DialogRule.{DialogRule}
use Rattle.call_rules.specs.DialogRule.{NoDialog, OldNumber, Leaves, Offers, Plain}
use Rattle.calls.specs.Finding.{place_by_end}
use Rattle.calls.specs.declared.standing_call.StandingCall.{StandingCall}
use Rattle.dialogs.specs.Counting.{is_above}
use Rattle.dialogs.specs.declared.state.Dialog.{Dialog}
use Rattle.message_laws.proofs.Messages.RequestViews.{by_if}

-- the dialog of the call at this place with this end, and the number of a request that counts there
pub record CountsIn (calls : List StandingCall) (place : ℕ) (end : End) (number : ℕ) : Type 0 where
  pub call : StandingCall
  pub there : slice_get calls place ≡ Some call
  pub dialog : Dialog
  pub at : dialog_of end call.call ≡ Some dialog
  pub above : is_above dialog.remote_number number ≡ true

abbrev pub CountsBy : List StandingCall → ℕ → DialogRule → Type 0
CountsBy calls number NoDialog = Unit {0}
CountsBy calls number (OldNumber place end) = Unit {0}
CountsBy calls number (Leaves place end) = CountsIn calls place end number
CountsBy calls number (Offers place end) = CountsIn calls place end number
CountsBy calls number (Plain place end) = CountsIn calls place end number

module _ (calls : List StandingCall) (r : Request) where
  abbrev Counts : DialogRule → Type 0
  Counts rule = CountsBy calls r.parts.cseq.number rule

  counted_counts : (place : ℕ) (end : End) → CountsIn calls place end r.parts.cseq.number → Counts (counted_rule r place end)
  counted_counts place end h =
      by_if Counts (is_bye r.parts) (Leaves place end) (cond (is_offer r) (Offers place end) (Plain place end)) (λ b. h)
      (λ b. by_if Counts (is_offer r) (Offers place end) (Plain place end) (λ o. h) (λ o. h))

  dialog_counts : (place : ℕ) (end : End) (c : StandingCall) (d : Option Dialog) → slice_get calls place ≡ Some c → dialog_of end c.call ≡ d → Counts (in_dialog r place end d)
  dialog_counts place end c None there at = tt
  dialog_counts place end c (Some d) there at =
      by_if Counts (is_above d.remote_number r.parts.cseq.number) (counted_rule r place end) (OldNumber place end)
      (λ above. counted_counts place end (record { call = c; there = there; dialog = d; at = at; above = above })) (λ old. tt)

  call_counts : (place : ℕ) (end : End) (c : Option StandingCall) → slice_get calls place ≡ c → Counts (in_call r place end c)
  call_counts place end None there = tt
  call_counts place end (Some c) there =
      by_if Counts (has_left c.call.standing end) NoDialog (in_dialog r place end (dialog_of end c.call)) (λ left. tt) (λ stays. dialog_counts place end c (dialog_of end c.call) there refl)

  callee_counts : (place : Option ℕ) → Counts (of_callee calls r place)
  callee_counts None = tt
  callee_counts (Some place) = call_counts place Callee (slice_get calls place) refl

  caller_counts : (place : Option ℕ) → Counts (of_caller calls r place)
  caller_counts None = callee_counts (place_by_end Callee r.parts calls)
  caller_counts (Some place) = call_counts place Caller (slice_get calls place) refl

  rule_counts : Counts (dialog_rule calls r)
  unfolding dialog_rule
  rule_counts = caller_counts (place_by_end Caller r.parts calls)

  -- of the rule that it is
  pub counts_by_rule : (rule : DialogRule) → dialog_rule calls r ≡ rule → CountsBy calls r.parts.cseq.number rule
  counts_by_rule rule is = subst Counts is rule_counts

  -- whether it is an offer or not
  pub counts_alone : (place : ℕ) (end : End) → (dialog_rule calls r ≡ Offers place end) ⊎ (dialog_rule calls r ≡ Plain place end) → CountsIn calls place end r.parts.cseq.number
  counts_alone place end (inl rule) = counts_by_rule (Offers place end) rule
  counts_alone place end (inr rule) = counts_by_rule (Plain place end) rule

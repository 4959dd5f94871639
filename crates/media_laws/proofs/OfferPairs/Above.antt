-- An offer inside a call has a number above those that were taken in its dialog (RFC 3261 section 12.2.2), so that none
-- of the earlier answers is to it.
use Rattle.std.proofs.Common.{◌≡◌, ◌∙◌, ℕ, Bool, true, false, cond, List, Option, Some, None, refl, sym, subst, arith}
use Rattle.std.specs.Prelude.{slice_get}
use Rattle.std.proofs.lemmas.Bool.{ltb-true}
use Rattle.std.proofs.lemmas.Option.{same_Some}
use Rattle.sip_message.specs.declared.message.Request.{Request}
use Rattle.call_core.specs.Calls.{dialog_of}
use Rattle.call_media.specs.declared.end.End.{End}
use Rattle.call_media.specs.declared.end.End.TheVariants.{Callee, Caller}
use Rattle.call_rules.specs.Requests as requests
use Rattle.call_rules.specs.Requests.{counted_rule, dialog_rule, has_left}
use Rattle.call_rules.specs.Speaking.{is_bye, is_offer}
use Rattle.call_rules.specs.DialogRule.{DialogRule}
use Rattle.call_rules.specs.DialogRule as rules
use Rattle.calls.specs.Finding.{place_by_end}
use Rattle.calls.specs.declared.standing_call.StandingCall.{StandingCall}
use Rattle.dialogs.specs.Counting.{IsAbove, IsOld, is_above}
use Rattle.dialogs.specs.declared.state.Dialog.{Dialog}
use Rattle.plans.specs.Office.{Office}
use Rattle.call_trace.specs.declared.datagram.Datagram.{Datagram}
use Rattle.media_laws.specs.Shows.{IsUnanswered}
use Rattle.media_laws.specs.Answers.{KnowsAnswers}
use Rattle.media_laws.specs.Taken.{HasTakenBy, IsTakenIn}
use Rattle.call_steps.specs.Scenes.{tag_to}
use Rattle.message_laws.proofs.AwaitedOffers.Awaiting.{all_at}

-- of the dialog with this end of the call at the place
abbrev pub IsAboveAt : List StandingCall → Request → ℕ → End → Type 0
IsAboveAt standing r place end = (c : StandingCall) → slice_get standing place ≡ Some c → (d : Dialog) → dialog_of end c.call ≡ Some d → IsAbove d.remote_number r.parts.cseq.number

-- where the rule passes it on
abbrev FitsRule : List StandingCall → Request → DialogRule → Type 0
FitsRule standing r rules.NoDialog = Unit {0}
FitsRule standing r (rules.OldNumber place end) = Unit {0}
FitsRule standing r (rules.Leaves place end) = Unit {0}
FitsRule standing r (rules.Offers place end) = IsAboveAt standing r place end
FitsRule standing r (rules.Plain place end) = Unit {0}

above_of : (last : Option ℕ) (number : ℕ) → is_above last number ≡ true → IsAbove last number
above_of None number h = tt
above_of (Some last) number h = ltb-true last number h

counted_by : (standing : List StandingCall) (r : Request) (place : ℕ) (end : End) (bye offers : Bool) → IsAboveAt standing r place end
    → FitsRule standing r (cond bye (rules.Leaves place end) (cond offers (rules.Offers place end) (rules.Plain place end)))
counted_by standing r place end true offers h = tt
counted_by standing r place end false true h = h
counted_by standing r place end false false h = tt

unless_old : (standing : List StandingCall) (r : Request) (place : ℕ) (end : End) (b : Bool) → (b ≡ true → IsAboveAt standing r place end) → FitsRule standing r (cond b (counted_rule r place end) (rules.OldNumber place end))
unless_old standing r place end true h = counted_by standing r place end (is_bye r.parts) (is_offer r) (h refl)
unless_old standing r place end false h = tt

same_dialog : (standing : List StandingCall) (place : ℕ) (end : End) (c x : StandingCall) (d y : Dialog) → slice_get standing place ≡ Some c → dialog_of end c.call ≡ Some d → slice_get standing place ≡ Some x → dialog_of end x.call ≡ Some y → d ≡ y
same_dialog standing place end c x d y at_c is_d at_x is_y =
    let same : c ≡ x = same_Some c x (sym at_c ∙ at_x) in
    same_Some d y (sym (subst (λ (z : StandingCall). dialog_of end z.call ≡ Some d) same is_d) ∙ is_y)

in_dialog : (standing : List StandingCall) (r : Request) (place : ℕ) (end : End) (c : StandingCall) (o : Option Dialog) → slice_get standing place ≡ Some c → dialog_of end c.call ≡ o → FitsRule standing r (requests.in_dialog r place end o)
in_dialog standing r place end c None there is = tt
in_dialog standing r place end c (Some d) there is =
    unless_old standing r place end (is_above d.remote_number r.parts.cseq.number)
    (λ h x at_x y is_y. subst (λ (z : Dialog). IsAbove z.remote_number r.parts.cseq.number) (same_dialog standing place end c x d y there is at_x is_y) (above_of d.remote_number r.parts.cseq.number h))

unless_left : (standing : List StandingCall) (r : Request) (b : Bool) (rule : DialogRule) → FitsRule standing r rule → FitsRule standing r (cond b rules.NoDialog rule)
unless_left standing r true rule h = tt
unless_left standing r false rule h = h

in_call : (standing : List StandingCall) (r : Request) (place : ℕ) (end : End) (c : Option StandingCall) → slice_get standing place ≡ c → FitsRule standing r (requests.in_call r place end c)
in_call standing r place end None there = tt
in_call standing r place end (Some c) there = unless_left standing r (has_left c.call.standing end) _ (in_dialog standing r place end c (dialog_of end c.call) there refl)

of_callee : (standing : List StandingCall) (r : Request) (place : Option ℕ) → FitsRule standing r (requests.of_callee standing r place)
of_callee standing r None = tt
of_callee standing r (Some place) = in_call standing r place Callee (slice_get standing place) refl

of_caller : (standing : List StandingCall) (r : Request) (place : Option ℕ) → FitsRule standing r (requests.of_caller standing r place)
of_caller standing r None = of_callee standing r (place_by_end Callee r.parts standing)
of_caller standing r (Some place) = in_call standing r place Caller (slice_get standing place) refl

rule_fits : (standing : List StandingCall) (r : Request) → FitsRule standing r (dialog_rule standing r)
unfolding dialog_rule
rule_fits standing r = of_caller standing r (place_by_end Caller r.parts standing)

pub offers_above : (standing : List StandingCall) (r : Request) (place : ℕ) (end : End) → dialog_rule standing r ≡ rules.Offers place end → IsAboveAt standing r place end
offers_above standing r place end rule = subst (FitsRule standing r) rule (rule_fits standing r)

-- ---- no earlier answer is to it

no_old : (last : Option ℕ) (m n : ℕ) → IsOld last m → IsAbove last n → m ≡ n → ⊥
no_old None m n old above e = absurd old
no_old (Some last) m n old above e = omega (arith, old, above, e)

pub none_answers : (s : Office) (t : List Datagram) → KnowsAnswers s t → (place : ℕ) (c : StandingCall) → slice_get s.calls.calls place ≡ Some c → (end : End) (d : Dialog) → dialog_of end c.call ≡ Some d
    → (tag : List ℕ) (number : ℕ) → tag_to end c ≡ tag → IsAbove d.remote_number number → IsUnanswered t tag number
none_answers s t old place c there end d is tag number ours above = λ i p at sent answers listed to_tag.
    no_old d.remote_number p.message.number number
    (subst (IsTakenIn p.message.number) is (all_at (HasTakenBy p.message.to_tag p.message.number) s.calls.calls place c (old.counted i p at (record { sent = sent; answer = answers; method = listed })) there end (ours ∙ sym to_tag))) above

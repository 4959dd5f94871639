-- A call that goes on in a line counts no number of its own, so that the request of its open offer is the earlier
-- one.
use Rattle.std.proofs.Common.{◌≡◌, ◌∙◌, ℕ, ◌==◌, Bool, true, false, ◌||◌, cond, List, Option, Some, None, option_map, ap, refl}
use Rattle.std.proofs.lemmas.Option.{same_Some}
use Rattle.sip_message.specs.Words.{tag_text}
use Rattle.sip_message.specs.declared.message.Parts.{Parts}
use Rattle.sip_uri.specs.declared.uri.Uri.{Uri}
use Rattle.dialogs.specs.Counting.{last_number}
use Rattle.dialogs.specs.declared.state.Dialog.{Dialog}
use Rattle.call_core.specs.Calls.{awaits_answer, dialog_of, to_target, with_dialog, with_target}
use Rattle.call_core.specs.declared.call.Call.{Call}
use Rattle.call_core.specs.declared.stage.Standing.{Standing}
use Rattle.call_media.specs.declared.end.End.{End}
use Rattle.call_media.specs.declared.end.End.TheVariants.{Callee, Caller}
use Rattle.calls.specs.Carrying.{offerer_of, reached_call, with_call}
use Rattle.calls.specs.Changes.{with_last, with_leg, with_taken_if}
use Rattle.calls.specs.Finding.{is_text}
use Rattle.calls.specs.declared.change.LegDialog.{LegDialog}
use Rattle.calls.specs.declared.standing_call.StandingCall.{StandingCall}
use Rattle.calls.specs.declared.standing_call.TakenOffer.{TakenOffer}
use Rattle.events.specs.declared.sent.Sent.{Sent}
use Rattle.call_rules.specs.Responses.{asked_end, is_cancelling, is_last_in, is_open_at, is_open_in}
use Rattle.call_steps.specs.Values.{ComingValue}
use Rattle.call_steps.specs.declared.messages.StepMessages.{StepMessages}
use Rattle.media_laws.specs.Coming.{FitsComing, IsOwnDialog}
use Rattle.media_laws.specs.Going.{put_as}
use Rattle.media_laws.specs.Steps.{OpensAlike}

-- ---- last numbers

pub record SameNumbers (a b : Call) : Type 0 where
  pub caller : last_number b.caller ≡ last_number a.caller
  pub callee : option_map last_number b.callee ≡ option_map last_number a.callee

then_numbers : (a b c : Call) → SameNumbers a b → SameNumbers b c → SameNumbers a c
then_numbers a b c h k = record { caller = k.caller ∙ h.caller; callee = k.callee ∙ h.callee }

put_numbers : (a b : Call) (end : End) (d : Dialog) → SameNumbers a b → IsOwnDialog (dialog_of end a) d → SameNumbers a (with_dialog end d b)
put_numbers a b Caller d same h = record { caller = h.number; callee = same.callee }
put_numbers a b Callee d same h = record { caller = same.caller; callee = callee_number a.callee h }
  where
    callee_number : (o : Option Dialog) → IsOwnDialog o d → Some (last_number d) ≡ option_map last_number o
    callee_number None k = absurd k
    callee_number (Some old) k = ap Some k.number

pub leg_numbers : (c : StandingCall) (call : Call) (leg : Option LegDialog) → SameNumbers c.call call → FitsComing c leg → SameNumbers c.call (with_leg leg (with_call call c)).call
leg_numbers c call None same fits = same
leg_numbers c call (Some leg) same fits = put_numbers c.call call leg.end leg.dialog same fits

target_number : (target : Uri) (d : Option Dialog) → option_map last_number (option_map (to_target target) d) ≡ option_map last_number d
target_number target None = refl
target_number target (Some d) = refl

target_numbers : (end : End) (target : Uri) (c : Call) → SameNumbers c (with_target end target c)
target_numbers Caller target c = record { caller = refl; callee = refl }
target_numbers Callee target c = record { caller = refl; callee = target_number target c.callee }

reached_numbers : (target : Option Uri) (c : Call) → SameNumbers c (reached_call target c)
reached_numbers None c = record { caller = refl; callee = refl }
reached_numbers (Some target) c = target_numbers (offerer_of c.standing) target c

taken_numbers : (c : StandingCall) (taken : Option TakenOffer) → SameNumbers c.call (with_taken_if taken c).call
taken_numbers c None = record { caller = refl; callee = refl }
taken_numbers c (Some o) = record { caller = refl; callee = refl }

last_numbers : (c : StandingCall) (answer : Option Sent) → SameNumbers c.call (with_last answer c).call
last_numbers c None = record { caller = refl; callee = refl }
last_numbers c (Some answer) = reached_numbers c.target c.call

put_as_numbers : (w : ComingValue) (said : StepMessages) (call : Call) (c : StandingCall) → call.caller ≡ c.call.caller → call.callee ≡ c.call.callee → FitsComing c w.leg → SameNumbers c.call (put_as w said call c).call
put_as_numbers w said call c caller callee fits =
    let one = with_leg w.leg (with_call call c) in
    let two = with_taken_if w.taken one in
    then_numbers c.call one.call (put_as w said call c).call (leg_numbers c call w.leg (record { caller = ap last_number caller; callee = ap (option_map last_number) callee }) fits)
    (then_numbers one.call two.call (put_as w said call c).call (taken_numbers one w.taken) (last_numbers two said.answer))

-- ---- the request of the open offer

last_in : (number : ℕ) (a b : Option Dialog) → option_map last_number b ≡ option_map last_number a → is_last_in number b ≡ is_last_in number a
last_in number None None h = refl
last_in number None (Some b) h = absurd cc
last_in number (Some a) None h = absurd cc
last_in number (Some a) (Some b) h = ap (λ (n : ℕ). n == number) (same_Some (last_number b) (last_number a) h)

last_at : (number : ℕ) (a b : Call) (end : End) → SameNumbers a b → is_last_in number (dialog_of end b) ≡ is_last_in number (dialog_of end a)
last_at number a b Caller h = ap (λ (n : ℕ). n == number) h.caller
last_at number a b Callee h = last_in number a.callee b.callee h.callee

final_of : (b cancelling : Bool) → b ≡ true → (b || cancelling) ≡ true
final_of true cancelling e = refl
final_of false cancelling e = absurd cc

open_at : (parts : Parts) (c new : StandingCall) (n m : Standing) → new.callee_tag ≡ c.callee_tag → SameNumbers c.call new.call → m.offerer ≡ n.offerer → awaits_answer n.stage ≡ true → awaits_answer m.stage ≡ true
    → is_open_at parts new m ≡ is_open_at parts c n
open_at parts c new n m tag numbers offerer waits_n waits_m =
    let end : asked_end parts new ≡ asked_end parts c = ap (λ (t : List ℕ). cond (is_text t (tag_text parts.from.params)) Callee Caller) tag in
    rw (final_of (awaits_answer m.stage) (is_cancelling m.stage) waits_m, final_of (awaits_answer n.stage) (is_cancelling n.stage) waits_n, end, offerer, last_at parts.cseq.number c.call new.call (asked_end parts c) numbers) refl

pub open_in : (parts : Parts) (c new : StandingCall) (n m : Standing) (a b : Option Standing) → a ≡ Some n → b ≡ Some m → new.callee_tag ≡ c.callee_tag → SameNumbers c.call new.call → m.offerer ≡ n.offerer
    → awaits_answer n.stage ≡ true → awaits_answer m.stage ≡ true → is_open_in parts new b ≡ is_open_in parts c a
open_in parts c new n m a b is_n is_m tag numbers offerer waits_n waits_m = rw (is_n, is_m) (open_at parts c new n m tag numbers offerer waits_n waits_m)

pub opens_alike : (w : ComingValue) (said : StepMessages) (call : Call) (c : StandingCall) (n m : Standing) → call.caller ≡ c.call.caller → call.callee ≡ c.call.callee → FitsComing c w.leg
    → (put_as w said call c).callee_tag ≡ c.callee_tag → c.call.standing ≡ Some n → (put_as w said call c).call.standing ≡ Some m → m.offerer ≡ n.offerer → awaits_answer n.stage ≡ true → awaits_answer m.stage ≡ true
    → OpensAlike c (put_as w said call c)
opens_alike w said call c n m caller callee fits tag is_n is_m offerer waits_n waits_m = λ parts.
    open_in parts c (put_as w said call c) n m c.call.standing (put_as w said call c).call.standing is_n is_m tag (put_as_numbers w said call c caller callee fits) offerer waits_n waits_m

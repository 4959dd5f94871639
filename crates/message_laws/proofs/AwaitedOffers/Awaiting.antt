-- A request that a call counted stays counted, and one that the call waits for is waited for on.
use Rattle.std.proofs.Common.{◌≡◌, ◌∙◌, ℕ, ◌≤◌, ◌==◌, suc, Bool, true, false, cond, List, drop, take, Option, Some, None, option_map, refl, ap, sym, subst, arith}
use Rattle.std.specs.Prelude.{slice_get, slice_set}
use Rattle.std.specs.List.{All, remove}
use Rattle.std.proofs.lemmas.Bool.{false≢true, and_from, and_parts}
use Rattle.std.proofs.lemmas.List.Elements.{All-append, All-drop, All-set, All-take, All-weaker}
use Rattle.std.proofs.lemmas.Option.{get_or_from_slice_get, slice_get_within}
use Rattle.sip_uri.specs.declared.uri.Uri.{Uri}
use Rattle.sip_message.specs.declared.message.Parts.{Parts}
use Rattle.sip_message.specs.Words.{tag_text}
use Rattle.dialogs.specs.declared.state.Dialog.{Dialog}
use Rattle.dialogs.specs.Counting.{last_number}
use Rattle.events.specs.declared.sent.Sent.{Sent}
use Rattle.transactions.specs.declared.transaction.Transaction.{Transaction}
use Rattle.call_media.specs.declared.end.End.{End}
use Rattle.call_media.specs.declared.end.End.TheVariants.{Caller, Callee}
use Rattle.call_media.specs.Ends.{is_same, other}
use Rattle.call_core.specs.declared.call.Call.{Call}
use Rattle.call_core.specs.declared.stage.Standing as stage
use Rattle.call_core.specs.Calls.{dialog_of, to_target, with_dialog, with_target}
use Rattle.calls.specs.Carrying.{offerer_of, reached_call}
use Rattle.calls.specs.Changes.{beside, with_last, with_leg, with_taken_if}
use Rattle.calls.specs.Finding.{has_tag}
use Rattle.calls.specs.declared.change.Beside.{Beside}
use Rattle.calls.specs.declared.change.LegDialog.{LegDialog}
use Rattle.calls.specs.declared.standing_call.TakenOffer.{TakenOffer}
use Rattle.calls.specs.declared.standing_call.StandingCall.{StandingCall}
use Rattle.call_rules.specs.Responses.{asked_end, awaits_final, is_last_in, is_open, is_open_in}
use Rattle.message_laws.specs.Waiting.{FitsCall, IsCounted, from_tag, waits}
use Rattle.message_laws.proofs.TokenUse.Apartness.{SameTags}
use Rattle.message_laws.proofs.Messages.Besides.{beside_same}
use Rattle.message_laws.proofs.AwaitedOffers.Coming.{IsLater}

-- ---- tags

pub same_tag : (tag : List ℕ) (c d : StandingCall) → SameTags c d → has_tag tag d ≡ has_tag tag c
same_tag tag c d same = rw (same.callee, same.caller) refl

pub same_end : (parts : Parts) (c d : StandingCall) → SameTags c d → asked_end parts d ≡ asked_end parts c
same_end parts c d same = rw same.callee refl

-- ---- numbers

-- no number falls, and the first dialog has one
abbrev pub Grows : Option Dialog → Option Dialog → Type 0
Grows None None = Unit {0}
Grows None (Some e) = 1 ≤ last_number e
Grows (Some d) None = ⊥
Grows (Some d) (Some e) = last_number d ≤ last_number e

-- the same number, and a dialog as before
abbrev pub Keeps : Option Dialog → Option Dialog → Type 0
Keeps None None = Unit {0}
Keeps None (Some e) = ⊥
Keeps (Some d) None = ⊥
Keeps (Some d) (Some e) = last_number e ≡ last_number d

pub keeps_self : (d : Option Dialog) → Keeps d d
keeps_self None = tt
keeps_self (Some d) = refl

pub grows_kept : (d e : Option Dialog) → Keeps d e → Grows d e
grows_kept None None h = tt
grows_kept None (Some e) h = absurd h
grows_kept (Some d) None h = h
grows_kept (Some d) (Some e) h = omega (arith, h)

keeps_then : (d e f : Option Dialog) → Keeps d e → Keeps e f → Keeps d f
keeps_then None None None h k = tt
keeps_then None None (Some f) h k = absurd k
keeps_then None (Some e) f h k = absurd h
keeps_then (Some d) None f h k = absurd h
keeps_then (Some d) (Some e) None h k = absurd k
keeps_then (Some d) (Some e) (Some f) h k = k ∙ h

grows_then : (d e f : Option Dialog) → Grows d e → Keeps e f → Grows d f
grows_then None None None h k = tt
grows_then None None (Some f) h k = absurd k
grows_then None (Some e) None h k = absurd k
grows_then None (Some e) (Some f) h k = omega (arith, h, k)
grows_then (Some d) None f h k = absurd h
grows_then (Some d) (Some e) None h k = absurd k
grows_then (Some d) (Some e) (Some f) h k = omega (arith, h, k)

pub counted_on : (number : ℕ) (d e : Option Dialog) → Grows d e → IsCounted number d → IsCounted number e
counted_on number None None h k = k
counted_on number None (Some e) h k = omega (arith, h, k)
counted_on number (Some d) None h k = absurd h
counted_on number (Some d) (Some e) h k = omega (arith, h, k)

last_on : (number : ℕ) (d e : Option Dialog) → Keeps d e → is_last_in number d ≡ true → is_last_in number e ≡ true
last_on number None None h k = k
last_on number None (Some e) h k = absurd h
last_on number (Some d) None h k = absurd h
last_on number (Some d) (Some e) h k = ap (λ n. n == number) h ∙ k

-- of both dialogs of a call
pub record CallGrows (c d : Call) : Type 0 where
  pub caller : last_number c.caller ≤ last_number d.caller
  pub callee : Grows c.callee d.callee

pub record CallKeeps (c d : Call) : Type 0 where
  pub caller : last_number d.caller ≡ last_number c.caller
  pub callee : Keeps c.callee d.callee

pub grows_at : (c d : Call) (end : End) → CallGrows c d → Grows (dialog_of end c) (dialog_of end d)
grows_at c d Caller h = h.caller
grows_at c d Callee h = h.callee

pub keeps_at : (c d : Call) (end : End) → CallKeeps c d → Keeps (dialog_of end c) (dialog_of end d)
keeps_at c d Caller h = h.caller
keeps_at c d Callee h = h.callee

pub call_kept : (c d : Call) → CallKeeps c d → CallGrows c d
call_kept c d h = record { caller = omega (arith, h.caller); callee = grows_kept c.callee d.callee h.callee }

pub call_grows_then : (c d e : Call) → CallGrows c d → CallKeeps d e → CallGrows c e
call_grows_then c d e h k = record { caller = omega (arith, h.caller, k.caller); callee = grows_then c.callee d.callee e.callee h.callee k.callee }

call_keeps_then : (c d e : Call) → CallKeeps c d → CallKeeps d e → CallKeeps c e
call_keeps_then c d e h k = record { caller = k.caller ∙ h.caller; callee = keeps_then c.callee d.callee e.callee h.callee k.callee }

call_keeps_self : (c : Call) → CallKeeps c c
call_keeps_self c = record { caller = refl; callee = keeps_self c.callee }

-- ---- what is put beside a call

grown_at : (c : Call) (end : End) (d : Dialog) → Grows (dialog_of end c) (Some d) → CallGrows c (with_dialog end d c)
grown_at c Caller d h = record { caller = h; callee = grows_kept c.callee c.callee (keeps_self c.callee) }
grown_at c Callee d h = record { caller = omega arith; callee = h }

kept_at : (c : Call) (end : End) (d : Dialog) → Keeps (dialog_of end c) (Some d) → CallKeeps c (with_dialog end d c)
kept_at c Caller d h = record { caller = h; callee = keeps_self c.callee }
kept_at c Callee d h = record { caller = refl; callee = h }

abbrev pub LegGrows : Call → Option LegDialog → Type 0
LegGrows c None = Unit {0}
LegGrows c (Some leg) = Grows (dialog_of leg.end c) (Some leg.dialog)

abbrev pub LegKeeps : Call → Option LegDialog → Type 0
LegKeeps c None = Unit {0}
LegKeeps c (Some leg) = Keeps (dialog_of leg.end c) (Some leg.dialog)

pub leg_kept : (c : Call) (leg : Option LegDialog) → LegKeeps c leg → LegGrows c leg
leg_kept c None h = tt
leg_kept c (Some leg) h = grows_kept (dialog_of leg.end c) (Some leg.dialog) h

leg_grown : (c : StandingCall) (leg : Option LegDialog) → LegGrows c.call leg → CallGrows c.call (with_leg leg c).call
leg_grown c None h = call_kept c.call c.call (call_keeps_self c.call)
leg_grown c (Some leg) h = grown_at c.call leg.end leg.dialog h

leg_keeps : (c : StandingCall) (leg : Option LegDialog) → LegKeeps c.call leg → CallKeeps c.call (with_leg leg c).call
leg_keeps c None h = call_keeps_self c.call
leg_keeps c (Some leg) h = kept_at c.call leg.end leg.dialog h

taken_keeps : (c : StandingCall) (taken : Option TakenOffer) → CallKeeps c.call (with_taken_if taken c).call
taken_keeps c None = call_keeps_self c.call
taken_keeps c (Some o) = call_keeps_self c.call

target_leg : (target : Uri) (d : Option Dialog) → Keeps d (option_map (to_target target) d)
target_leg target None = tt
target_leg target (Some d) = refl

target_keeps : (end : End) (target : Uri) (c : Call) → CallKeeps c (with_target end target c)
target_keeps Caller target c = record { caller = refl; callee = keeps_self c.callee }
target_keeps Callee target c = record { caller = refl; callee = target_leg target c.callee }

reached_keeps : (target : Option Uri) (c : Call) → CallKeeps c (reached_call target c)
reached_keeps None c = call_keeps_self c
reached_keeps (Some target) c = target_keeps (offerer_of c.standing) target c

last_keeps : (c : StandingCall) (answer : Option Sent) → CallKeeps c.call (with_last answer c).call
last_keeps c None = call_keeps_self c.call
last_keeps c (Some answer) = reached_keeps c.target c.call

pub beside_grows : (c : StandingCall) (kept : Beside) → LegGrows c.call kept.leg → CallGrows c.call (beside kept c).call
beside_grows c kept h =
    let one = with_leg kept.leg c in
    let two = with_taken_if kept.taken one in
    call_grows_then c.call two.call (beside kept c).call (call_grows_then c.call one.call two.call (leg_grown c kept.leg h) (taken_keeps one kept.taken)) (last_keeps two kept.answer)

pub beside_keeps : (c : StandingCall) (kept : Beside) → LegKeeps c.call kept.leg → CallKeeps c.call (beside kept c).call
beside_keeps c kept h =
    let one = with_leg kept.leg c in
    let two = with_taken_if kept.taken one in
    call_keeps_then c.call two.call (beside kept c).call (call_keeps_then c.call one.call two.call (leg_keeps c kept.leg h) (taken_keeps one kept.taken)) (last_keeps two kept.answer)

-- the call's standing is as it was

dialog_standing : (end : End) (d : Dialog) (c : Call) → (with_dialog end d c).standing ≡ c.standing
dialog_standing Caller d c = refl
dialog_standing Callee d c = refl

target_standing : (end : End) (target : Uri) (c : Call) → (with_target end target c).standing ≡ c.standing
target_standing Caller target c = refl
target_standing Callee target c = refl

pub beside_standing : (c : StandingCall) (kept : Beside) → (beside kept c).call.standing ≡ c.call.standing
beside_standing = beside_same (λ c. c.standing) dialog_standing target_standing

-- ---- an offer that is open

-- the standing of a call that has it open
pub record IsOpen (parts : Parts) (c : StandingCall) (s : stage.Standing) : Type 0 where
  pub stands : c.call.standing ≡ Some s
  pub awaits : awaits_final s.stage ≡ true
  pub end : is_same (asked_end parts c) (other s.offerer) ≡ true
  pub last : is_last_in parts.cseq.number (dialog_of (asked_end parts c) c.call) ≡ true

pub open_in : (parts : Parts) (c : StandingCall) (standing : Option stage.Standing) → c.call.standing ≡ standing → is_open_in parts c standing ≡ true → (s : stage.Standing) × IsOpen parts c s
open_in parts c None stands h = absurd (false≢true h)
open_in parts c (Some s) stands h =
    let outer = and_parts _ _ h in
    let inner = and_parts _ _ outer.0 in
    (s, record { stands = stands; awaits = inner.0; end = inner.1; last = outer.1 })

pub opened : (parts : Parts) (c : StandingCall) → is_open parts c ≡ true → (s : stage.Standing) × IsOpen parts c s
opened parts c h = open_in parts c c.call.standing refl h

pub open_from : (parts : Parts) (c : StandingCall) (s : stage.Standing) → IsOpen parts c s → is_open parts c ≡ true
open_from parts c s o = subst (λ st. is_open_in parts c st ≡ true) (sym o.stands) (and_from _ _ (and_from _ _ o.awaits o.end) o.last)

pub opens_on : (parts : Parts) (c d : StandingCall) (s n : stage.Standing) → SameTags c d → CallKeeps c.call d.call → IsOpen parts c s → d.call.standing ≡ Some n → awaits_final n.stage ≡ true → n.offerer ≡ s.offerer
    → is_open parts d ≡ true
opens_on parts c d s n same keeps o stands awaits offerer =
    let ends : asked_end parts d ≡ asked_end parts c = same_end parts c d same in
    open_from parts d n (
    record {
      stands = stands;
      awaits = awaits;
      end = ap (λ x. is_same x (other n.offerer)) ends ∙ ap (λ x. is_same (asked_end parts c) (other x)) offerer ∙ o.end;
      last = ap (λ x. is_last_in parts.cseq.number (dialog_of x d.call)) ends
          ∙ last_on parts.cseq.number (dialog_of (asked_end parts c) c.call) (dialog_of (asked_end parts c) d.call) (keeps_at c.call d.call (asked_end parts c) keeps) o.last;
    }
    )

-- ---- a request and a call

pub later_fits : (t u : Transaction) (c : StandingCall) → IsLater t u → FitsCall t c → FitsCall u c
later_fits t u c later fits = λ tag.
    let old = fits (ap (λ (p : Parts). has_tag (tag_text p.from.params) c) (sym later.parts) ∙ tag) in
    record {
      counted = subst (λ (p : Parts). IsCounted p.cseq.number (dialog_of (asked_end p c) c.call)) (sym later.parts) old.counted;
      opens = λ w. ap (λ (p : Parts). is_open p c) later.parts ∙ old.opens (later.waited w);
    }

pub fits_after : (t u : Transaction) (c d : StandingCall) → SameTags c d → CallGrows c.call d.call → IsLater t u
    → (has_tag (from_tag t) c ≡ true → waits u.state ≡ true → is_open t.parts c ≡ true → is_open t.parts d ≡ true) → FitsCall t c → FitsCall u d
fits_after t u c d same grows later opens fits = λ tag.
    let tag_t : has_tag (from_tag t) c ≡ true = sym (same_tag (from_tag t) c d same) ∙ ap (λ (p : Parts). has_tag (tag_text p.from.params) d) (sym later.parts) ∙ tag in
    let old = fits tag_t in
    let ends : asked_end t.parts d ≡ asked_end t.parts c = same_end t.parts c d same in
    record {
      counted = subst (λ (p : Parts). IsCounted p.cseq.number (dialog_of (asked_end p d) d.call)) (sym later.parts)
          (subst (λ end. IsCounted t.parts.cseq.number (dialog_of end d.call)) (sym ends) (counted_on t.parts.cseq.number (dialog_of (asked_end t.parts c) c.call) (dialog_of (asked_end t.parts c) d.call) (grows_at c.call d.call (asked_end t.parts c) grows) old.counted));
      opens = λ w. ap (λ (p : Parts). is_open p d) later.parts ∙ opens tag_t w (old.opens (later.waited w));
    }

-- ---- the list of calls

pub all_at : (P : StandingCall → Type 0) (calls : List StandingCall) (place : ℕ) (c : StandingCall) → All P calls → slice_get calls place ≡ Some c → P c
all_at P calls place c each there = subst P (get_or_from_slice_get calls place c c there) (each place c (slice_get_within calls place c there))

pub fits_at : (t : Transaction) (calls : List StandingCall) (place : ℕ) (c : StandingCall) → All (FitsCall t) calls → slice_get calls place ≡ Some c → FitsCall t c
fits_at t calls place c each there = all_at (FitsCall t) calls place c each there

pub later_all : (t u : Transaction) (calls : List StandingCall) → IsLater t u → All (FitsCall t) calls → All (FitsCall u) calls
later_all t u calls later each = All-weaker (FitsCall t) (FitsCall u) (λ c. later_fits t u c later) calls each

pub put_or_gone : (P : StandingCall → Type 0) (calls : List StandingCall) (place : ℕ) (d : StandingCall) (b : Bool) → (b ≡ true → P d) → All P calls → All P (cond b (slice_set calls place d) (remove calls place))
put_or_gone P calls place d true h each = All-set P calls place d (h refl) each
put_or_gone P calls place d false h each = All-append P (take place calls) (drop (suc place) calls) (All-take P place calls each) (All-drop P (suc place) calls each)

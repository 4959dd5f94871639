-- The dialog that comes with an event is the call's own with that end, or the one that the first 2xx makes.
use Rattle.std.proofs.Common.{◌≡◌, ℕ, List, Option, Some, None, refl, sym, ap, subst}
use Rattle.std.specs.Prelude.{slice_get}
use Rattle.sip_uri.specs.declared.uri.Uri.{Uri}
use Rattle.sip_message.specs.Contact.{contacts_of}
use Rattle.sip_message.specs.declared.message.Parts.{Parts}
use Rattle.sip_message.specs.declared.message.Request.{Request}
use Rattle.sip_message.specs.declared.message.Response.{Response}
use Rattle.dialogs.specs.Making.{reached_at}
use Rattle.dialogs.specs.declared.state.Dialog.{Dialog}
use Rattle.call_media.specs.declared.end.End.{End}
use Rattle.call_media.specs.declared.end.End.TheVariants.{Callee, Caller}
use Rattle.call_media.specs.Ends.{other}
use Rattle.call_core.specs.Calls.{dialog_of}
use Rattle.calls.specs.Carrying.{offerer_of}
use Rattle.calls.specs.declared.change.LegDialog.{LegDialog}
use Rattle.calls.specs.declared.standing_call.StandingCall.{StandingCall}
use Rattle.call_steps.specs.Rows.{answers_leg, counts, counts_by, counts_in, dialog_after, leg_after, leg_at, leg_by, refreshes}
use Rattle.message_laws.specs.Sound.{HasSoundLegs, IsSoundLegIf, IsTarget, IsTargetIf}
use Rattle.message_laws.proofs.StandingCalls.SoundCalls.{dialog_sound, numbered_sound, refreshed_sound}
use Rattle.media_laws.specs.Coming.{FitsComing, IsOwnDialog, first_dialog}

-- ---- a request in a dialog

counts_in_fits : (c : StandingCall) (end : End) (number : ℕ) (d : Option Dialog) → dialog_of end c.call ≡ d → IsSoundLegIf d → FitsComing c (counts_in end number d)
counts_in_fits c end number None is sound = tt
counts_in_fits c end number (Some d) is sound =
    subst (λ o. IsOwnDialog o (record d { remote_number = Some number })) (sym is) (record { id = refl; sound = numbered_sound d d.local_number (Some number) sound; number = refl })

pub counts_fits : (calls : List StandingCall) (place : ℕ) (end : End) (number : ℕ) (c : StandingCall) → slice_get calls place ≡ Some c → HasSoundLegs c → FitsComing c (counts calls place end number)
unfolding counts
counts_fits calls place end number c there sound =
    subst (λ o. FitsComing c (counts_by end number o)) (sym there) (counts_in_fits c end number (dialog_of end c.call) refl (dialog_sound c end sound))

-- ---- another target

target_on : (old : Option Dialog) (d : Dialog) (target : Uri) → IsTarget target → IsOwnDialog old d → IsOwnDialog old (record d { target = target })
target_on None d target is h = h
target_on (Some old) d target is h = record { id = h.id; sound = refreshed_sound d target is h.sound; number = h.number }

leg_at_fits : (c : StandingCall) (target : Option Uri) (leg : Option LegDialog) → IsTargetIf target → FitsComing c leg → FitsComing c (leg_at target leg)
leg_at_fits c None leg is h = h
leg_at_fits c (Some target) None is h = tt
leg_at_fits c (Some target) (Some leg) is h = target_on (dialog_of leg.end c.call) leg.dialog target is h

pub refreshes_fits : (calls : List StandingCall) (place : ℕ) (end : End) (r : Request) (c : StandingCall) → slice_get calls place ≡ Some c → HasSoundLegs c → IsTargetIf (reached_at (contacts_of r.headers))
    → FitsComing c (refreshes calls place end r)
unfolding refreshes
refreshes_fits calls place end r c there sound is =
    leg_at_fits c (reached_at (contacts_of r.headers)) (counts calls place end r.parts.cseq.number) is (counts_fits calls place end r.parts.cseq.number c there sound)

-- ---- a 2xx

after_fits : (c : StandingCall) (asked : Parts) (r : Response) (target : Uri) (end : End) (old : Dialog) → dialog_of end c.call ≡ Some old → IsTarget target → HasSoundLegs c
    → FitsComing c (Some (leg_after asked r target end c.call))
after_fits c asked r target end old has is sound =
    subst (λ o. IsOwnDialog o (dialog_after asked r target o)) (sym has) (record { id = refl; sound = refreshed_sound old target is (subst IsSoundLegIf has (dialog_sound c end sound)); number = refl })

leg_by_fits : (c : StandingCall) (asked : Parts) (r : Response) (target : Option Uri) (old : Dialog) → dialog_of (other (offerer_of c.call.standing)) c.call ≡ Some old → IsTargetIf target → HasSoundLegs c
    → FitsComing c (leg_by asked r target (Some c))
leg_by_fits c asked r None old has is sound = tt
leg_by_fits c asked r (Some target) old has is sound = after_fits c asked r target (other (offerer_of c.call.standing)) old has is sound

pub answers_fits : (calls : List StandingCall) (place : ℕ) (asked : Parts) (r : Response) (c : StandingCall) (old : Dialog) → slice_get calls place ≡ Some c → HasSoundLegs c → IsTargetIf (reached_at (contacts_of r.headers))
    → dialog_of (other (offerer_of c.call.standing)) c.call ≡ Some old → FitsComing c (answers_leg calls place asked r)
unfolding answers_leg
answers_fits calls place asked r c old there sound is has =
    subst (λ o. FitsComing c (leg_by asked r (reached_at (contacts_of r.headers)) o)) (sym there) (leg_by_fits c asked r (reached_at (contacts_of r.headers)) old has is sound)

first_after : (c : StandingCall) (asked : Parts) (r : Response) (target : Uri) (end : End) → end ≡ Callee → c.call.callee ≡ None → leg_after asked r target end c.call ≡ first_dialog asked r target
first_after c asked r target Caller is none = absurd cc
first_after c asked r target Callee is none = rw none refl

pub first_answer : (calls : List StandingCall) (place : ℕ) (asked : Parts) (r : Response) (c : StandingCall) (target : Uri) → slice_get calls place ≡ Some c → reached_at (contacts_of r.headers) ≡ Some target
    → offerer_of c.call.standing ≡ Caller → c.call.callee ≡ None → answers_leg calls place asked r ≡ Some (first_dialog asked r target)
unfolding answers_leg
first_answer calls place asked r c target there reached offerer none =
    rw (there, reached) (ap Some (first_after c asked r target (other (offerer_of c.call.standing)) (ap other offerer) none))

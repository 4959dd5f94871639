-- A step of a call keeps its dialogs sound, except for their numbers, and so does what is put beside it.
use Rattle.std.proofs.Common.{◌≡◌, ℕ, Bool, true, false, cond, List, [], ◌∷◌, ◌++◌, Option, Some, None, option_map, refl}
use Rattle.std.specs.Prelude.{slice_get}
use Rattle.std.specs.List.{All}
use Rattle.std.proofs.lemmas.List.Elements.{All-push, All-set}
use Rattle.port_pool.specs.Pool as pools
use Rattle.sdp.specs.declared.description.Description.{Description}
use Rattle.sip_uri.specs.declared.uri.Uri.{Uri}
use Rattle.events.specs.declared.sent.Sent.{Sent}
use Rattle.dialogs.specs.declared.state.Dialog.{Dialog}
use Rattle.call_media.specs.declared.end.End.{End}
use Rattle.call_media.specs.declared.end.End.TheVariants.{Callee, Caller}
use Rattle.call_media.specs.declared.state.CallMedia.{CallMedia}
use Rattle.call_core.specs.CallRows.{call_row, first_call_row}
use Rattle.call_core.specs.Calls.{after, dialog_of, to_target, with_number, with_number_if, with_target}
use Rattle.call_core.specs.declared.call.Call.{Call}
use Rattle.call_core.specs.declared.input.Input.{Input}
use Rattle.call_core.specs.declared.plan.Numbers.{Numbers}
use Rattle.call_core.specs.declared.stage.Standing as stage
use Rattle.calls.specs.Carrying.{changed_at, offerer_of, reached_call, with_call, with_dialog_at}
use Rattle.calls.specs.Changes.{beside, with_last, with_leg, with_taken_if}
use Rattle.calls.specs.State.{Standing}
use Rattle.calls.specs.declared.change.Beside.{Beside}
use Rattle.calls.specs.declared.change.LegDialog.{LegDialog}
use Rattle.calls.specs.declared.standing_call.StandingCall.{StandingCall}
use Rattle.calls.specs.declared.standing_call.TakenOffer.{TakenOffer}
use Rattle.call_steps.specs.Rows.{counts, counts_by, counts_in, leg_at}
use Rattle.call_steps.specs.Scenes.{dialog_in}
use Rattle.message_laws.specs.Sound.{HasSoundLegs, IsSoundLeg, IsSoundLegIf, IsTarget, IsTargetIf}
use Rattle.plans.specs.CallRows.{puts_if}
use Rattle.message_laws.proofs.AwaitedOffers.Awaiting.{all_at}
use Rattle.message_laws.proofs.StandingCalls.Numbered.{call_kept, first_kept}

-- ---- one dialog

-- numbers are no part of it
pub numbered_sound : (d : Dialog) (local_number remote_number : Option ℕ) → IsSoundLeg d → IsSoundLeg (record d { local_number = local_number; remote_number = remote_number })
numbered_sound d local_number remote_number h = record {
  sound = record {
    call_id = h.sound.call_id;
    call_id_value = h.sound.call_id_value;
    our_tag = h.sound.our_tag;
    their_tag = h.sound.their_tag;
    ours = h.sound.ours;
    theirs = h.sound.theirs;
    target = h.sound.target;
  };
  leads = h.leads;
}

-- another target that leads somewhere
pub refreshed_sound : (d : Dialog) (target : Uri) → IsTarget target → IsSoundLeg d → IsSoundLeg (to_target target d)
refreshed_sound d target is h = record {
  sound = record {
    call_id = h.sound.call_id;
    call_id_value = h.sound.call_id_value;
    our_tag = h.sound.our_tag;
    their_tag = h.sound.their_tag;
    ours = h.sound.ours;
    theirs = h.sound.theirs;
    target = is.read;
  };
  leads = is.leads;
}

-- ---- a step of a call

-- its dialogs, sound where they were
pub record KeepsSound (a b : Call) : Type 0 where
  pub caller : IsSoundLeg a.caller → IsSoundLeg b.caller
  pub callee : IsSoundLegIf a.callee → IsSoundLegIf b.callee

number_sound : (n : Option ℕ) (d : Dialog) → IsSoundLeg d → IsSoundLeg (with_number n d)
number_sound None d h = h
number_sound (Some n) d h = numbered_sound d (Some n) d.remote_number h

number_leg : (n : Option ℕ) (d : Option Dialog) → IsSoundLegIf d → IsSoundLegIf (with_number_if n d)
number_leg None d h = h
number_leg (Some n) None h = tt
number_leg (Some n) (Some d) h = numbered_sound d (Some n) d.remote_number h

after_sound : (c : Call) (numbers : Numbers) (next : Option stage.Standing) (media : CallMedia) → KeepsSound c (after c numbers next media)
after_sound c numbers next media = record { caller = number_sound numbers.to_caller c.caller; callee = number_leg numbers.to_callee c.callee }

pub call_sound : (c : Call) (input : Input) (pool : pools.Contents) (now : ℕ) → KeepsSound c (call_row c input pool now).call
call_sound = call_kept KeepsSound after_sound

pub first_call_sound : (c : Call) (offer : Description) (pool : pools.Contents) (now : ℕ) → KeepsSound c (first_call_row c offer pool now).call
first_call_sound = first_kept KeepsSound after_sound

-- ---- what is put beside a call

abbrev pub IsSoundPut : Option LegDialog → Type 0
IsSoundPut None = Unit {0}
IsSoundPut (Some leg) = IsSoundLeg leg.dialog

abbrev pub IsSoundTaken : Option TakenOffer → Type 0
IsSoundTaken None = Unit {0}
IsSoundTaken (Some offer) = IsTargetIf offer.target

pub step_legs : (c : StandingCall) (call : Call) → KeepsSound c.call call → HasSoundLegs c → HasSoundLegs (with_call call c)
step_legs c call keeps h = record { caller = keeps.caller h.caller; callee = keeps.callee h.callee; target = h.target }

put_at : (c : StandingCall) (end : End) (d : Dialog) → IsSoundLeg d → HasSoundLegs c → HasSoundLegs (with_dialog_at end d c)
put_at c Caller d sound h = record { caller = sound; callee = h.callee; target = h.target }
put_at c Callee d sound h = record { caller = h.caller; callee = sound; target = h.target }

leg_put : (c : StandingCall) (leg : Option LegDialog) → IsSoundPut leg → HasSoundLegs c → HasSoundLegs (with_leg leg c)
leg_put c None sound h = h
leg_put c (Some leg) sound h = put_at c leg.end leg.dialog sound h

taken_put : (c : StandingCall) (taken : Option TakenOffer) → IsSoundTaken taken → HasSoundLegs c → HasSoundLegs (with_taken_if taken c)
taken_put c None is h = h
taken_put c (Some offer) is h = record { caller = h.caller; callee = h.callee; target = is }

target_leg : (target : Uri) (d : Option Dialog) → IsTarget target → IsSoundLegIf d → IsSoundLegIf (option_map (to_target target) d)
target_leg target None is h = tt
target_leg target (Some d) is h = refreshed_sound d target is h

target_sound : (end : End) (target : Uri) (c : Call) → IsTarget target → KeepsSound c (with_target end target c)
target_sound Caller target c is = record { caller = refreshed_sound c.caller target is; callee = λ h. h }
target_sound Callee target c is = record { caller = λ h. h; callee = target_leg target c.callee is }

reached_sound : (target : Option Uri) (c : Call) → IsTargetIf target → KeepsSound c (reached_call target c)
reached_sound None c is = record { caller = λ h. h; callee = λ h. h }
reached_sound (Some target) c is = target_sound (offerer_of c.standing) target c is

last_put : (c : StandingCall) (answer : Option Sent) → HasSoundLegs c → HasSoundLegs (with_last answer c)
last_put c None h = h
last_put c (Some answer) h =
    let keeps = reached_sound c.target c.call h.target in
    record { caller = keeps.caller h.caller; callee = keeps.callee h.callee; target = tt }

pub beside_sound : (c : StandingCall) (kept : Beside) → IsSoundPut kept.leg → IsSoundTaken kept.taken → HasSoundLegs c → HasSoundLegs (beside kept c)
beside_sound c kept leg taken h =
    last_put (with_taken_if kept.taken (with_leg kept.leg c)) kept.answer (taken_put (with_leg kept.leg c) kept.taken taken (leg_put c kept.leg leg h))

-- ---- the dialogs of a call, where one comes with an event

pub dialog_sound : (c : StandingCall) (end : End) → HasSoundLegs c → IsSoundLegIf (dialog_of end c.call)
dialog_sound c Caller h = h.caller
dialog_sound c Callee h = h.callee

pub coming_sound : (c : StandingCall) (end : End) (leg : Option LegDialog) → IsSoundPut leg → HasSoundLegs c → IsSoundLegIf (dialog_in end leg c.call)
coming_sound c end None sound h = dialog_sound c end h
coming_sound c end (Some leg) sound h = dialog_sound (with_dialog_at leg.end leg.dialog c) end (put_at c leg.end leg.dialog sound h)

-- a request in a dialog counts its number
counts_in_sound : (end : End) (number : ℕ) (d : Option Dialog) → IsSoundLegIf d → IsSoundPut (counts_in end number d)
counts_in_sound end number None h = tt
counts_in_sound end number (Some d) h = numbered_sound d d.local_number (Some number) h

counts_by_sound : (end : End) (number : ℕ) (calls : List StandingCall) (place : ℕ) (c : Option StandingCall) → slice_get calls place ≡ c → All HasSoundLegs calls → IsSoundPut (counts_by end number c)
counts_by_sound end number calls place None there all = tt
counts_by_sound end number calls place (Some c) there all = counts_in_sound end number (dialog_of end c.call) (dialog_sound c end (all_at HasSoundLegs calls place c all there))

pub counts_sound : (calls : List StandingCall) (place : ℕ) (end : End) (number : ℕ) → All HasSoundLegs calls → IsSoundPut (counts calls place end number)
unfolding counts
counts_sound calls place end number all = counts_by_sound end number calls place (slice_get calls place) refl all

pub leg_at_sound : (target : Option Uri) (leg : Option LegDialog) → IsTargetIf target → IsSoundPut leg → IsSoundPut (leg_at target leg)
leg_at_sound None leg is h = h
leg_at_sound (Some target) None is h = tt
leg_at_sound (Some target) (Some leg) is h = refreshed_sound leg.dialog target is h

-- ---- the list of calls

changed_sound : (leg : LegDialog) (place : ℕ) (calls : List StandingCall) (c : Option StandingCall) → slice_get calls place ≡ c → IsSoundLeg leg.dialog → All HasSoundLegs calls
    → All HasSoundLegs (changed_at (with_dialog_at leg.end leg.dialog) place calls c)
changed_sound leg place calls None there sound all = all
changed_sound leg place calls (Some c) there sound all =
    All-set HasSoundLegs calls place (with_dialog_at leg.end leg.dialog c) (put_at c leg.end leg.dialog sound (all_at HasSoundLegs calls place c all there)) all

pub puts_sound : (calls : Standing) (place : ℕ) (leg : Option LegDialog) → IsSoundPut leg → All HasSoundLegs calls.calls → All HasSoundLegs (puts_if calls place leg).calls
puts_sound calls place None sound all = all
puts_sound calls place (Some leg) sound all = changed_sound leg place calls.calls (slice_get calls.calls place) refl sound all

pub pushed_sound : (c : StandingCall) (calls : List StandingCall) (b : Bool) → HasSoundLegs c → All HasSoundLegs calls → All HasSoundLegs (cond b (calls ++ c ∷ []) calls)
pushed_sound c calls true h all = All-push HasSoundLegs calls c all h
pushed_sound c calls false h all = all

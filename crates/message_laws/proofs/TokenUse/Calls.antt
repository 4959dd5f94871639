-- What changes among the calls leaves their tags as they were, or puts tags that were made.
use Rattle.std.proofs.Common.{◌≡◌, ◌∙◌, ◌≤◌, ℕ, suc, Bool, true, false, cond, List, [], ◌∷◌, ◌++◌, drop, take, Option, Some, None, option_map, refl, ap, sym, subst}
use Rattle.std.specs.Prelude.{slice_get, slice_set}
use Rattle.std.specs.List.{remove}
use Rattle.std.proofs.lemmas.List.Elements.{All-append, All-drop, All-push, All-set, All-take}
use Rattle.std.proofs.lemmas.Option.{get_or_from_slice_get, slice_get_within}
use Rattle.port_pool.specs.Pool as pools
use Rattle.sdp.specs.declared.description.Description.{Description}
use Rattle.sip_uri.specs.declared.uri.Uri.{Uri}
use Rattle.events.specs.declared.sent.Sent.{Sent}
use Rattle.dialogs.specs.declared.state.Dialog.{Dialog}
use Rattle.call_media.specs.declared.end.End.{End}
use Rattle.call_media.specs.declared.end.End.TheVariants.{Caller, Callee}
use Rattle.call_media.specs.declared.session.OpenOffer.{OpenOffer}
use Rattle.call_media.specs.declared.state.CallMedia.{CallMedia}
use Rattle.call_core.specs.declared.call.Call.{Call}
use Rattle.call_core.specs.declared.input.Input.{Input}
use Rattle.call_core.specs.declared.input.Input.TheVariants as inputs
use Rattle.call_core.specs.declared.plan.Numbers.{Numbers}
use Rattle.call_core.specs.declared.row.Row.{Row}
use Rattle.call_core.specs.declared.signal.Signal.{Signal}
use Rattle.call_core.specs.declared.signal.Signal.TheVariants as signals
use Rattle.call_core.specs.declared.stage.Standing as stage
use Rattle.call_core.specs.Calls.{after, none_counted, to_target, with_number, with_number_if, with_target}
use Rattle.call_core.specs.CallRows.{answer_at, answer_step, at_line, call_row, end_step, first_call_row, fit_at, is_fit, kept_step, offer_at, offer_step, release_step, signal_at, signal_step, step_at, step_in}
use Rattle.call_core.specs.Plans.{Step, ends_media, releases}
use Rattle.call_core.specs.Table.{row_of}
use Rattle.calls.specs.Carrying.{changed_at, offerer_of, reached_call, with_call, with_dialog_at}
use Rattle.calls.specs.Changes.{beside, with_last, with_leg, with_taken_if}
use Rattle.calls.specs.declared.change.Beside.{Beside}
use Rattle.calls.specs.declared.change.LegDialog.{LegDialog}
use Rattle.calls.specs.declared.standing_call.TakenOffer.{TakenOffer}
use Rattle.calls.specs.declared.standing_call.StandingCall.{StandingCall}
use Rattle.message_laws.specs.Knowing.{HasLegTag, HasMadeTags, KnowsCalls}
use Rattle.message_laws.proofs.TokenUse.Apartness.{HasNewTags, SameTags, apart_pushed, apart_removed, apart_set}
use Rattle.message_laws.proofs.QuietEvents.Growing.{calls_more}
use Rattle.message_laws.specs.Tokens.{IsMade}

pub by_if : {X : Type 0} (P : X → Type 0) (b : Bool) (x y : X) → P x → P y → P (cond b x y)
by_if P true x y p q = p
by_if P false x y p q = q

-- ---- a step of a call keeps the identifiers of its dialogs

abbrev pub KeepsLeg : Option Dialog → Option Dialog → Type 0
KeepsLeg None None = Unit {0}
KeepsLeg None (Some e) = ⊥
KeepsLeg (Some d) None = ⊥
KeepsLeg (Some d) (Some e) = e.id ≡ d.id

pub record KeepsIds (a b : Call) : Type 0 where
  pub caller : b.caller.id ≡ a.caller.id
  pub callee : KeepsLeg a.callee b.callee

number_id : (n : Option ℕ) (d : Dialog) → (with_number n d).id ≡ d.id
number_id None d = refl
number_id (Some n) d = refl

number_leg : (n : Option ℕ) (d : Option Dialog) → KeepsLeg d (with_number_if n d)
number_leg None None = tt
number_leg None (Some d) = refl
number_leg (Some n) None = tt
number_leg (Some n) (Some d) = refl

after_ids : (c : Call) (numbers : Numbers) (next : Option stage.Standing) (media : CallMedia) → KeepsIds c (after c numbers next media)
after_ids c numbers next media = record { caller = number_id numbers.to_caller c.caller; callee = number_leg numbers.to_callee c.callee }

abbrev KeepsIn : Call → Step → Type 0
KeepsIn c step = KeepsIds c step.call

signal_ids : (c : Call) (pool : pools.Contents) (now : ℕ) (row : Row) → KeepsIn c (signal_step c pool now row)
signal_ids c pool now row =
    by_if (KeepsIn c) (ends_media row) (end_step c pool now row) (cond (releases row) (release_step c pool now row) (kept_step c pool row)) (after_ids c none_counted row.next _)
    (by_if (KeepsIn c) (releases row) (release_step c pool now row) (kept_step c pool row) (after_ids c none_counted row.next _) (after_ids c none_counted row.next c.media))

line_ids : (c : Call) (pool : pools.Contents) (step : Row → Step) (row : Option Row) → ((r : Row) → KeepsIn c (step r)) → KeepsIn c (at_line c pool step row)
line_ids c pool step None h = after_ids c none_counted c.standing c.media
line_ids c pool step (Some r) h = h r

signalled : (c : Call) (s : stage.Standing) (signal : Signal) (pool : pools.Contents) (now : ℕ) → KeepsIn c (signal_at c s signal pool now)
signalled c s signal pool now = line_ids c pool (signal_step c pool now) (row_of s signal) (signal_ids c pool now)

offered : (c : Call) (s : stage.Standing) (signal : Signal) (x : End) (offer : Option Description) (pool : pools.Contents) (now : ℕ) → KeepsIn c (offer_at c s signal x offer pool now)
offered c s signal x None pool now = after_ids c none_counted c.standing c.media
offered c s signal x (Some offer) pool now = line_ids c pool (offer_step c pool now x offer) (row_of s signal) (λ r. after_ids c _ r.next _)

fit_ids : (c : Call) (s : stage.Standing) (waiting : Option OpenOffer) (answer : Option Description) (pool : pools.Contents) (now : ℕ) → KeepsIn c (fit_at c s waiting answer pool now)
fit_ids c s None answer pool now = after_ids c none_counted c.standing c.media
fit_ids c s (Some o) None pool now = after_ids c none_counted c.standing c.media
fit_ids c s (Some o) (Some answer) pool now = line_ids c pool (answer_step c pool now o answer) (row_of s signals.FitAnswer) (λ r. after_ids c none_counted r.next _)

answered : (c : Call) (s : stage.Standing) (answer : Option Description) (pool : pools.Contents) (now : ℕ) → KeepsIn c (answer_at c s answer pool now)
answered c s answer pool now =
    by_if (KeepsIn c) (is_fit c c.media.offer answer) (fit_at c s c.media.offer answer pool now) (signal_at c s signals.UnfitAnswer pool now)
    (fit_ids c s c.media.offer answer pool now) (signalled c s signals.UnfitAnswer pool now)

at_ids : (c : Call) (s : stage.Standing) (input : Input) (pool : pools.Contents) (now : ℕ) → KeepsIn c (step_at c s input pool now)
at_ids c s (inputs.Offer x method offer) pool now = offered c s (signals.Offer x method) x offer pool now
at_ids c s (inputs.Provisional status) pool now = signalled c s (signals.Provisional status) pool now
at_ids c s (inputs.Answer answer) pool now = answered c s answer pool now
at_ids c s (inputs.Refusal status) pool now = signalled c s (signals.Refusal status) pool now
at_ids c s inputs.TimedOut pool now = signalled c s signals.TimedOut pool now
at_ids c s inputs.Ack pool now = signalled c s signals.Ack pool now
at_ids c s inputs.Cancel pool now = signalled c s signals.Cancel pool now
at_ids c s (inputs.Bye end) pool now = signalled c s (signals.Bye end) pool now
at_ids c s inputs.Limit pool now = signalled c s signals.Limit pool now
at_ids c s inputs.Repeat pool now = signalled c s signals.Repeat pool now
at_ids c s inputs.Wait pool now = signalled c s signals.Wait pool now
at_ids c s inputs.Lifetime pool now = signalled c s signals.Lifetime pool now

in_ids : (c : Call) (s : Option stage.Standing) (input : Input) (pool : pools.Contents) (now : ℕ) → KeepsIn c (step_in c s input pool now)
in_ids c None input pool now = after_ids c none_counted c.standing c.media
in_ids c (Some s) input pool now = at_ids c s input pool now

pub call_ids : (c : Call) (input : Input) (pool : pools.Contents) (now : ℕ) → KeepsIn c (call_row c input pool now)
unfolding call_row
call_ids c input pool now = in_ids c c.standing input pool now

pub first_ids : (c : Call) (offer : Description) (pool : pools.Contents) (now : ℕ) → KeepsIn c (first_call_row c offer pool now)
unfolding first_call_row
first_ids c offer pool now = after_ids c none_counted _ _

-- ---- the tags of a call

leg_kept : (tag : List ℕ) (a b : Option Dialog) → KeepsLeg a b → HasLegTag tag a → HasLegTag tag b
leg_kept tag None None keeps h = tt
leg_kept tag None (Some e) keeps h = absurd keeps
leg_kept tag (Some d) None keeps h = tt
leg_kept tag (Some d) (Some e) keeps h = ap (λ id. id.ours) keeps ∙ h

pub tags_kept : (made : ℕ) (c : StandingCall) (call : Call) → KeepsIds c.call call → HasMadeTags made c → HasMadeTags made (with_call call c)
tags_kept made c call same h = record {
  caller = subst (λ id. IsMade made id.ours) (sym same.caller) h.caller;
  callee = h.callee;
  leg = leg_kept c.callee_tag c.call.callee call.callee same.callee h.leg;
}

-- a dialog that is put beside a call has the tag of its leg
abbrev pub FitsEnd : ℕ → StandingCall → End → Dialog → Type 0
FitsEnd made c Caller d = d.id.ours ≡ c.call.caller.id.ours
FitsEnd made c Callee d = d.id.ours ≡ c.callee_tag

abbrev pub FitsLeg : ℕ → StandingCall → Option LegDialog → Type 0
FitsLeg made c None = Unit {0}
FitsLeg made c (Some leg) = FitsEnd made c leg.end leg.dialog

put_at : (made : ℕ) (c : StandingCall) (end : End) (d : Dialog) → FitsEnd made c end d → HasMadeTags made c → HasMadeTags made (with_dialog_at end d c)
put_at made c Caller d fits h = record { caller = subst (IsMade made) (sym fits) h.caller; callee = h.callee; leg = h.leg }
put_at made c Callee d fits h = record { caller = h.caller; callee = h.callee; leg = fits }

leg_put : (made : ℕ) (c : StandingCall) (leg : Option LegDialog) → FitsLeg made c leg → HasMadeTags made c → HasMadeTags made (with_leg leg c)
leg_put made c None fits h = h
leg_put made c (Some leg) fits h = put_at made c leg.end leg.dialog fits h

taken_put : (made : ℕ) (c : StandingCall) (taken : Option TakenOffer) → HasMadeTags made c → HasMadeTags made (with_taken_if taken c)
taken_put made c None h = h
taken_put made c (Some o) h = record { caller = h.caller; callee = h.callee; leg = h.leg }

target_leg : (target : Uri) (d : Option Dialog) → KeepsLeg d (option_map (to_target target) d)
target_leg target None = tt
target_leg target (Some d) = refl

-- a leg that stays
same_leg : (d : Option Dialog) → KeepsLeg d d
same_leg None = tt
same_leg (Some d) = refl

target_ids : (end : End) (target : Uri) (c : Call) → KeepsIds c (with_target end target c)
target_ids Caller target c = record { caller = refl; callee = same_leg c.callee }
target_ids Callee target c = record { caller = refl; callee = target_leg target c.callee }

reached_ids : (target : Option Uri) (c : Call) → KeepsIds c (reached_call target c)
reached_ids None c = record { caller = refl; callee = same_leg c.callee }
reached_ids (Some target) c = target_ids (offerer_of c.standing) target c

last_put : (made : ℕ) (c : StandingCall) (answer : Option Sent) → HasMadeTags made c → HasMadeTags made (with_last answer c)
last_put made c None h = h
last_put made c (Some answer) h =
    let kept = tags_kept made c (reached_call c.target c.call) (reached_ids c.target c.call) h in
    record { caller = kept.caller; callee = kept.callee; leg = kept.leg }

pub beside_tags : (made : ℕ) (c : StandingCall) (kept : Beside) → FitsLeg made c kept.leg → HasMadeTags made c → HasMadeTags made (beside kept c)
beside_tags made c kept fits h =
    last_put made (with_taken_if kept.taken (with_leg kept.leg c)) kept.answer
    (taken_put made (with_leg kept.leg c) kept.taken (leg_put made c kept.leg fits h))

-- ---- the same tags

end_kept : (made : ℕ) (c : StandingCall) (call : Call) (end : End) (d : Dialog) → KeepsIds c.call call → FitsEnd made c end d → FitsEnd made (with_call call c) end d
end_kept made c call Caller d keeps fits = fits ∙ sym (ap (λ id. id.ours) keeps.caller)
end_kept made c call Callee d keeps fits = fits

pub fits_kept : (made : ℕ) (c : StandingCall) (call : Call) (leg : Option LegDialog) → KeepsIds c.call call → FitsLeg made c leg → FitsLeg made (with_call call c) leg
fits_kept made c call None keeps fits = tt
fits_kept made c call (Some leg) keeps fits = end_kept made c call leg.end leg.dialog keeps fits

same_by_ids : (c : StandingCall) (call : Call) → KeepsIds c.call call → SameTags c (with_call call c)
same_by_ids c call keeps = record { caller = ap (λ id. id.ours) keeps.caller; callee = refl }

same_then : (c d e : StandingCall) → SameTags c d → SameTags d e → SameTags c e
same_then c d e one two = record { caller = two.caller ∙ one.caller; callee = two.callee ∙ one.callee }

same_at : (made : ℕ) (c : StandingCall) (end : End) (d : Dialog) → FitsEnd made c end d → SameTags c (with_dialog_at end d c)
same_at made c Caller d fits = record { caller = fits; callee = refl }
same_at made c Callee d fits = record { caller = refl; callee = refl }

pub same_leg_put : (made : ℕ) (c : StandingCall) (leg : Option LegDialog) → FitsLeg made c leg → SameTags c (with_leg leg c)
same_leg_put made c None fits = record { caller = refl; callee = refl }
same_leg_put made c (Some leg) fits = same_at made c leg.end leg.dialog fits

same_taken : (c : StandingCall) (taken : Option TakenOffer) → SameTags c (with_taken_if taken c)
same_taken c None = record { caller = refl; callee = refl }
same_taken c (Some o) = record { caller = refl; callee = refl }

same_last : (c : StandingCall) (answer : Option Sent) → SameTags c (with_last answer c)
same_last c None = record { caller = refl; callee = refl }
same_last c (Some answer) = record { caller = ap (λ id. id.ours) (reached_ids c.target c.call).caller; callee = refl }

pub same_beside : (made : ℕ) (c : StandingCall) (call : Call) (kept : Beside) → KeepsIds c.call call → FitsLeg made c kept.leg → SameTags c (beside kept (with_call call c))
same_beside made c call kept keeps fits =
    let d = with_call call c in
    let one = with_leg kept.leg d in
    let two = with_taken_if kept.taken one in
    same_then c d (beside kept d) (same_by_ids c call keeps)
    (same_then d one (beside kept d) (same_leg_put made d kept.leg (fits_kept made c call kept.leg keeps fits)) (same_then one two (beside kept d) (same_taken one kept.taken) (same_last two kept.answer)))

-- ---- the list of calls

pub call_at : (made : ℕ) (calls : List StandingCall) (place : ℕ) (c : StandingCall) → KnowsCalls made calls → slice_get calls place ≡ Some c → HasMadeTags made c
call_at made calls place c k there = subst (HasMadeTags made) (get_or_from_slice_get calls place c c there) (k.tags place c (slice_get_within calls place c there))

removed : (made place : ℕ) (calls : List StandingCall) → KnowsCalls made calls → KnowsCalls made (remove calls place)
removed made place calls k = record {
  tags = All-append (HasMadeTags made) (take place calls) (drop (suc place) calls) (All-take (HasMadeTags made) place calls k.tags) (All-drop (HasMadeTags made) (suc place) calls k.tags);
  apart = apart_removed calls place k.apart;
}

put : (made place : ℕ) (calls : List StandingCall) (c d : StandingCall) → slice_get calls place ≡ Some c → SameTags c d → HasMadeTags made d → KnowsCalls made calls → KnowsCalls made (slice_set calls place d)
put made place calls c d there same h k = record { tags = All-set (HasMadeTags made) calls place d h k.tags; apart = apart_set c d calls place there same k.apart }

pub put_or_removed : (made place : ℕ) (calls : List StandingCall) (c d : StandingCall) (b : Bool) → slice_get calls place ≡ Some c → SameTags c d → HasMadeTags made d → KnowsCalls made calls
    → KnowsCalls made (cond b (slice_set calls place d) (remove calls place))
put_or_removed made place calls c d true there same h k = put made place calls c d there same h k
put_or_removed made place calls c d false there same h k = removed made place calls k

-- a call with tags that are made now, and are among those that are made then
pub pushed_by : (made most : ℕ) (calls : List StandingCall) (c : StandingCall) (b : Bool) → made ≤ most → HasNewTags made c → HasMadeTags most c → KnowsCalls made calls
    → KnowsCalls most (cond b (calls ++ c ∷ []) calls)
pushed_by made most calls c true le new h k = record {
  tags = All-push (HasMadeTags most) calls c (calls_more made most calls le k).tags h;
  apart = apart_pushed made c calls new k.tags k.apart;
}
pushed_by made most calls c false le new h k = calls_more made most calls le k

pub changed_by : (made : ℕ) (leg : LegDialog) (place : ℕ) (calls : List StandingCall) (c : Option StandingCall) → slice_get calls place ≡ c
    → ((d : StandingCall) → slice_get calls place ≡ Some d → FitsLeg made d (Some leg)) → KnowsCalls made calls
    → KnowsCalls made (changed_at (with_dialog_at leg.end leg.dialog) place calls c)
changed_by made leg place calls None there fits k = k
changed_by made leg place calls (Some c) there fits k =
    put made place calls c (with_dialog_at leg.end leg.dialog c) there (same_at made c leg.end leg.dialog (fits c there)) (leg_put made c (Some leg) (fits c there) (call_at made calls place c k there)) k

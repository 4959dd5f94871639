-- A call that did a step goes on in its dialogs.
use Rattle.std.proofs.Common.{◌≡◌, ◌∙◌, ℕ, List, Option, Some, None, option_map, refl, sym, ap, subst}
use Rattle.std.proofs.lemmas.Option.{same_Some}
use Rattle.port_pool.specs.Pool as pools
use Rattle.sip_uri.specs.declared.uri.Uri.{Uri}
use Rattle.sip_message.specs.Words.{tag_text}
use Rattle.sip_message.specs.declared.message.Message.TheVariants as Kinds
use Rattle.sip_message.specs.declared.message.Parts.{Parts}
use Rattle.sip_message.specs.declared.message.Response.{Response}
use Rattle.dialogs.specs.declared.identifiers.DialogId.{DialogId}
use Rattle.dialogs.specs.declared.state.Dialog.{Dialog as LegDialog}
use Rattle.dialogs.specs.Making.{callers_dialog}
use Rattle.events.specs.declared.sent.Sent.{Sent}
use Rattle.call_media.specs.declared.end.End.{End}
use Rattle.call_media.specs.declared.end.End.TheVariants.{Callee, Caller}
use Rattle.call_core.specs.CallRows.{call_row}
use Rattle.call_core.specs.Calls.{dialog_of, to_target, with_dialog, with_target}
use Rattle.call_core.specs.declared.call.Call.{Call}
use Rattle.call_core.specs.declared.input.Input.{Input}
use Rattle.calls.specs.Carrying.{offerer_of, reached_call, with_call}
use Rattle.calls.specs.Changes.{with_last, with_leg, with_taken_if}
use Rattle.calls.specs.declared.change.LegDialog.{LegDialog as Put}
use Rattle.calls.specs.declared.standing_call.TakenOffer.{TakenOffer}
use Rattle.calls.specs.declared.standing_call.StandingCall.{StandingCall}
use Rattle.call_steps.specs.declared.messages.StepMessages.{StepMessages}
use Rattle.call_steps.specs.Rows.{put_with}
use Rattle.call_steps.specs.Values.{ComingValue}
use Rattle.call_trace.specs.declared.call.Call.{Call as TraceCall}
use Rattle.call_trace.specs.declared.call.Offer.{Offer}
use Rattle.call_trace.specs.declared.datagram.Dialog.{Dialog}
use Rattle.call_trace.specs.Moves.{tagged}
use Rattle.trace_reading.specs.Message.{dialog_named, trace_message}
use Rattle.message_laws.proofs.Askers.AskedCalls.{beside_same as asked_same, beside_taken}
use Rattle.message_laws.proofs.Messages.Besides.{beside_same}
use Rattle.message_laws.proofs.TokenUse.Calls.{KeepsIds, KeepsLeg, call_ids}
use Rattle.message_laws.specs.Messages.{IsRequestOf}
use Rattle.media_laws.specs.Shows.{ShowsCallee, ShowsLegs}
use Rattle.media_laws.proofs.Scenes.Showing.{SameLegs, legs_on}
use Rattle.media_laws.specs.Coming.{FitsComing, IsOwnDialog, first_dialog}
use Rattle.media_laws.specs.Going.{KeepsDialogs, StandsBy, id_of, put_as}

-- ---- identifiers

-- of both dialogs
pub record SameIds (a b : Call) : Type 0 where
  pub caller : b.caller.id ≡ a.caller.id
  pub callee : id_of b.callee ≡ id_of a.callee

ids_then : (a b c : Call) → SameIds a b → SameIds b c → SameIds a c
ids_then a b c h k = record { caller = k.caller ∙ h.caller; callee = k.callee ∙ h.callee }

kept_ids : (a b : Option LegDialog) → KeepsLeg a b → id_of b ≡ id_of a
kept_ids None None h = refl
kept_ids None (Some b) h = absurd h
kept_ids (Some a) None h = absurd h
kept_ids (Some a) (Some b) h = ap Some h

step_ids : (a b : Call) → KeepsIds a b → SameIds a b
step_ids a b h = record { caller = h.caller; callee = kept_ids a.callee b.callee h.callee }

pub leg_from : (a b : Option LegDialog) → id_of b ≡ id_of a → KeepsLeg a b
leg_from None None h = tt
leg_from None (Some b) h = absurd cc
leg_from (Some a) None h = absurd cc
leg_from (Some a) (Some b) h = same_Some b.id a.id h

target_id : (target : Uri) (d : Option LegDialog) → id_of (option_map (to_target target) d) ≡ id_of d
target_id target None = refl
target_id target (Some d) = refl

target_ids : (end : End) (target : Uri) (c : Call) → SameIds c (with_target end target c)
target_ids Caller target c = record { caller = refl; callee = refl }
target_ids Callee target c = record { caller = refl; callee = target_id target c.callee }

reached_ids : (target : Option Uri) (c : Call) → SameIds c (reached_call target c)
reached_ids None c = record { caller = refl; callee = refl }
reached_ids (Some target) c = target_ids (offerer_of c.standing) target c

taken_ids : (c : StandingCall) (taken : Option TakenOffer) → SameIds c.call (with_taken_if taken c).call
taken_ids c None = record { caller = refl; callee = refl }
taken_ids c (Some o) = record { caller = refl; callee = refl }

last_ids : (c : StandingCall) (answer : Option Sent) → SameIds c.call (with_last answer c).call
last_ids c None = record { caller = refl; callee = refl }
last_ids c (Some answer) = reached_ids c.target c.call

-- the tag of the leg to the callee is none of these
taken_tag : (c : StandingCall) (taken : Option TakenOffer) → (with_taken_if taken c).callee_tag ≡ c.callee_tag
taken_tag c None = refl
taken_tag c (Some o) = refl

last_tag : (c : StandingCall) (answer : Option Sent) → (with_last answer c).callee_tag ≡ c.callee_tag
last_tag c None = refl
last_tag c (Some answer) = refl

leg_tag : (c : StandingCall) (leg : Option Put) → (with_leg leg c).callee_tag ≡ c.callee_tag
leg_tag c None = refl
leg_tag c (Some leg) = refl

-- after the dialog that is put in place
behind_ids : (w : ComingValue) (said : StepMessages) (call : Call) (c : StandingCall) → SameIds (with_leg w.leg (with_call call c)).call (put_as w said call c).call
behind_ids w said call c =
    let one = with_leg w.leg (with_call call c) in
    let two = with_taken_if w.taken one in
    ids_then one.call two.call (put_as w said call c).call (taken_ids one w.taken) (last_ids two said.answer)

pub put_tag : (w : ComingValue) (said : StepMessages) (call : Call) (c : StandingCall) → (put_as w said call c).callee_tag ≡ c.callee_tag
put_tag w said call c =
    let one = with_leg w.leg (with_call call c) in
    last_tag (with_taken_if w.taken one) said.answer ∙ (taken_tag one w.taken ∙ leg_tag (with_call call c) w.leg)

-- ---- a dialog that goes on

put_ids : (a b : Call) (end : End) (d : LegDialog) → SameIds a b → IsOwnDialog (dialog_of end a) d → SameIds a (with_dialog end d b)
put_ids a b Caller d same h = record { caller = h.id; callee = same.callee }
put_ids a b Callee d same h = record { caller = same.caller; callee = callee_id a.callee h }
  where
    callee_id : (o : Option LegDialog) → IsOwnDialog o d → Some d.id ≡ id_of o
    callee_id None k = absurd k
    callee_id (Some old) k = ap Some k.id

pub leg_ids : (c : StandingCall) (call : Call) (leg : Option Put) → SameIds c.call call → FitsComing c leg → SameIds c.call (with_leg leg (with_call call c)).call
leg_ids c call None same fits = same
leg_ids c call (Some leg) same fits = put_ids c.call call leg.end leg.dialog same fits

pub dialogs_go_on : (w : ComingValue) (said : StepMessages) (c : StandingCall) (input : Input) (pool : pools.Contents) (now : ℕ) → FitsComing c w.leg → KeepsDialogs c (put_as w said (call_row c.call input pool now).call c)
dialogs_go_on w said c input pool now fits =
    let call = (call_row c.call input pool now).call in
    let same = ids_then c.call (with_leg w.leg (with_call call c)).call (put_as w said call c).call (leg_ids c call w.leg (step_ids c.call call (call_ids c.call input pool now)) fits) (behind_ids w said call c) in
    record { caller = same.caller; callee = same.callee; tag = put_tag w said call c }

pub same_legs : (c new : StandingCall) → KeepsDialogs c new → SameLegs c new
same_legs c new h = record { caller = h.caller; callee = leg_from c.call.callee new.call.callee h.callee; tag = h.tag }

pub legs_go_on : (w : ComingValue) (said : StepMessages) (c : StandingCall) (input : Input) (pool : pools.Contents) (now : ℕ) (d : TraceCall) → FitsComing c w.leg → ShowsLegs c d
    → ShowsLegs (put_as w said (call_row c.call input pool now).call c) d
legs_go_on w said c input pool now d fits shows =
    let new = put_as w said (call_row c.call input pool now).call c in
    legs_on c new d (same_legs c new (dialogs_go_on w said c input pool now fits)) shows

-- ---- the dialog that the first 2xx makes

callee_by : (tag : List ℕ) (o : Option LegDialog) (id : DialogId) (y : Dialog) → id_of o ≡ Some id → y ≡ dialog_named id → ShowsCallee tag o y
callee_by tag None id y is shown = absurd cc
callee_by tag (Some x) id y is shown = shown ∙ ap dialog_named (sym (same_Some x.id id is))

pub first_legs : (w : ComingValue) (said : StepMessages) (c : StandingCall) (input : Input) (pool : pools.Contents) (now : ℕ) (d new : TraceCall) (p : Offer) (asked : Parts) (bytes : List ℕ) (r : Response) (target : Uri) → ShowsLegs c d
    → w.leg ≡ Some (first_dialog asked r target) → IsRequestOf asked p.went → p.went.call_id ≡ d.callee.call_id → p.went.from_tag ≡ d.callee.ours → new.caller ≡ d.caller
    → new.callee ≡ tagged d.callee (trace_message bytes (Kinds.Response r)).to_tag → ShowsLegs (put_as w said (call_row c.call input pool now).call c) new
unfolding trace_message
first_legs w said c input pool now d new p asked bytes r target shows came request call_id ours caller callee =
    let call = (call_row c.call input pool now).call in
    let put = put_as w said call c in
    let made = callers_dialog asked r target in
    let kept = step_ids c.call call (call_ids c.call input pool now) in
    let same : SameIds (with_dialog Callee made call) put.call = subst (λ o. SameIds (with_leg o (with_call call c)).call put.call) came (behind_ids w said call c) in
    record {
      caller = caller ∙ (shows.caller ∙ ap dialog_named (sym (same.caller ∙ kept.caller)));
      callee = callee_by put.callee_tag put.call.callee made.id new.callee same.callee (
          callee ∙ (ap (λ (x : List ℕ). record { call_id = x; ours = d.callee.ours; theirs = tag_text r.parts.to.params }) (sym call_id ∙ request.call_id)
          ∙ ap (λ (x : List ℕ). record { call_id = asked.call_id; ours = x; theirs = tag_text r.parts.to.params }) (sym ours ∙ request.from_tag))
          );
    }

-- ---- its standing, its media and its last offer

dialog_standing : (end : End) (d : LegDialog) (c : Call) → (with_dialog end d c).standing ≡ c.standing
dialog_standing Caller d c = refl
dialog_standing Callee d c = refl

target_standing : (end : End) (target : Uri) (c : Call) → (with_target end target c).standing ≡ c.standing
target_standing Caller target c = refl
target_standing Callee target c = refl

dialog_media : (end : End) (d : LegDialog) (c : Call) → (with_dialog end d c).media ≡ c.media
dialog_media Caller d c = refl
dialog_media Callee d c = refl

target_media : (end : End) (target : Uri) (c : Call) → (with_target end target c).media ≡ c.media
target_media Caller target c = refl
target_media Callee target c = refl

pub stands_by : (w : ComingValue) (said : StepMessages) (call : Call) (c : StandingCall) → StandsBy call (put_as w said call c)
stands_by w said call c =
    let kept = put_with w said in
    let media = beside_same (λ x. x.media) dialog_media target_media (with_call call c) kept in
    record {
      standing = beside_same (λ x. x.standing) dialog_standing target_standing (with_call call c) kept;
      session = ap (λ m. m.session) media;
      offer = ap (λ m. m.offer) media;
    }

pub asked_on : (w : ComingValue) (said : StepMessages) (call : Call) (c : StandingCall) → w.taken ≡ None → (put_as w said call c).asked ≡ c.asked
asked_on w said call c none = (asked_same (put_with w said) (with_call call c) none).0

pub asked_new : (w : ComingValue) (said : StepMessages) (call : Call) (c : StandingCall) (o : TakenOffer) → w.taken ≡ Some o → (put_as w said call c).asked ≡ o.asked
asked_new w said call c o some = (beside_taken (put_with w said) o (with_call call c) some).0

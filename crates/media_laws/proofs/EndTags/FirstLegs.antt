-- The leg that the first 2xx of the callee makes is that of the INVITE, with the tag of this 2xx (RFC 3261 section
-- 12.1.2).
use Rattle.std.proofs.Common.{◌≡◌, ◌∙◌, ℕ, List, Option, Some, None, refl, ap, sym}
use Rattle.std.specs.Prelude.{slice_get}
use Rattle.std.proofs.lemmas.Option.{none-some, same_Some}
use Rattle.sip_uri.specs.declared.uri.Uri.{Uri}
use Rattle.sip_message.specs.Contact.{contacts_of}
use Rattle.sip_message.specs.Words.{tag_text}
use Rattle.sip_message.specs.declared.message.Message.TheVariants as Kinds
use Rattle.sip_message.specs.declared.message.Parts.{Parts}
use Rattle.sip_message.specs.declared.message.Response.{Response}
use Rattle.sdp.specs.declared.description.Description.{Description}
use Rattle.dialogs.specs.Making.{callers_dialog, reached_at}
use Rattle.dialogs.specs.declared.state.Dialog.{Dialog as LegDialog}
use Rattle.call_media.specs.declared.end.End.TheVariants.{Callee, Caller}
use Rattle.calls.specs.Carrying.{offerer_of}
use Rattle.calls.specs.declared.change.LegDialog.{LegDialog as Put}
use Rattle.calls.specs.declared.standing_call.StandingCall.{StandingCall}
use Rattle.call_steps.specs.Rows.{answers_leg, leg_by}
use Rattle.call_steps.specs.Scenes.{dialog_in}
use Rattle.call_steps.specs.Values.{ComingValue, without_offer}
use Rattle.plans.specs.CallRows.{occasion}
use Rattle.plans.specs.Office.{Office}
use Rattle.plans.specs.declared.setting.Setting.{Setting}
use Rattle.call_trace.specs.declared.call.Call.{Call}
use Rattle.call_trace.specs.declared.call.Offer.{Offer}
use Rattle.call_trace.specs.Moves.{tagged}
use Rattle.trace_reading.specs.Message.{dialog_named, trace_message}
use Rattle.message_laws.proofs.AwaitedOffers.Tagged.{scene_dialog}
use Rattle.message_laws.specs.Messages.{IsRequestOf}
use Rattle.media_laws.specs.Lines.{FirstLeg}
use Rattle.media_laws.specs.Scenes.{LegIn}
use Rattle.media_laws.specs.Coming.{first_dialog, scene_at}
use Rattle.media_laws.proofs.Scenes.Fitting.{first_answer}

-- a 2xx that says nowhere where its sender is reached makes no dialog
unreached : (calls : List StandingCall) (place : ℕ) (asked : Parts) (r : Response) → reached_at (contacts_of r.headers) ≡ None → answers_leg calls place asked r ≡ None
unfolding answers_leg
unreached calls place asked r none = ap (λ o. leg_by asked r o (slice_get calls place)) none

-- what comes is the dialog that the 2xx makes
pub record IsFirst (leg : Option Put) (asked : Parts) (r : Response) : Type 0 where
  pub target : Uri
  pub is : leg ≡ Some (first_dialog asked r target)

module _ (s : Office) (e : Setting) (place : ℕ) (c : StandingCall) (description : Option Description) (d : Call) (asked : Parts) (bytes : List ℕ) (r : Response) (there : slice_get s.calls.calls place ≡ Some c) (offerer : offerer_of c.call.standing ≡ Caller) (none : c.call.callee ≡ None) where
  abbrev w : ComingValue
  w = without_offer (answers_leg s.calls.calls place asked r) None

  first_by : (o : Option Uri) → reached_at (contacts_of r.headers) ≡ o → (leg : LegDialog) → dialog_in Callee w.leg c.call ≡ Some leg → IsFirst w.leg asked r
  first_by None is leg has = absurd (none-some leg (sym (ap (λ l. dialog_in Callee l c.call) (unreached s.calls.calls place asked r is) ∙ none) ∙ has))
  first_by (Some target) is leg has = record { target = target; is = first_answer s.calls.calls place asked r c target there is offerer none }

  module _ (first : FirstLeg (scene_at s e w c description) d) where
    in_scene : dialog_in Callee w.leg c.call ≡ Some first.leg.leg
    in_scene = sym (scene_dialog s.table (occasion s e) w c description Callee) ∙ first.leg.has

    pub first_comes : IsFirst w.leg asked r
    first_comes = first_by (reached_at (contacts_of r.headers)) refl first.leg.leg in_scene

    pub tagged_in : (p : Offer) → IsRequestOf asked p.went → p.went.call_id ≡ d.callee.call_id → p.went.from_tag ≡ d.callee.ours
        → LegIn (scene_at s e w c description) Callee (tagged d.callee (trace_message bytes (Kinds.Response r)).to_tag)
    unfolding trace_message
    tagged_in p request call_id ours =
        let made = callers_dialog asked r first_comes.target in
        let same : made ≡ first.leg.leg = same_Some made first.leg.leg (sym (ap (λ l. dialog_in Callee l c.call) first_comes.is) ∙ in_scene) in
        record {
          leg = first.leg.leg;
          has = first.leg.has;
          is = ap (λ (x : LegDialog). dialog_named x.id) (sym same)
              ∙ (ap (λ (x : List ℕ). record { call_id = x; ours = tag_text asked.from.params; theirs = tag_text r.parts.to.params }) (sym request.call_id ∙ call_id)
              ∙ ap (λ (x : List ℕ). record { call_id = d.callee.call_id; ours = x; theirs = tag_text r.parts.to.params }) (sym request.from_tag ∙ ours));
          leads = first.leg.leads;
          numbered = first.leg.numbered;
        }

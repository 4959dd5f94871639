-- The legs of a scene: each dialog of the call as the trace names it, with an address and a number left.
use Rattle.std.proofs.Common.{◌≡◌, ◌∙◌, ℕ, nat_lt, true, List, Option, Some, None, refl, sym, ap, subst}
use Rattle.std.proofs.lemmas.Option.{none-some, same_Some}
use Rattle.sip_uri.specs.declared.uri.Uri.{Uri}
use Rattle.sip_message.specs.declared.message.Message.TheVariants as Kinds
use Rattle.sip_message.specs.declared.message.Parts.{Parts}
use Rattle.sip_message.specs.declared.message.Request.{Request}
use Rattle.sip_message.specs.declared.message.Response.{Response}
use Rattle.sip_message.specs.Words.{tag_text}
use Rattle.sdp.specs.declared.description.Description.{Description}
use Rattle.dialogs.specs.declared.method.Method.TheVariants as methods
use Rattle.dialogs.specs.declared.state.Dialog.{Dialog as LegDialog}
use Rattle.dialogs.specs.Counting.{max_for, last_number}
use Rattle.dialogs.specs.Making.{callers_dialog}
use Rattle.call_media.specs.declared.end.End.{End}
use Rattle.call_media.specs.declared.end.End.TheVariants.{Callee, Caller}
use Rattle.call_core.specs.declared.signal.OfferMethod.{OfferMethod}
use Rattle.call_core.specs.declared.signal.OfferMethod.TheVariants.{Invite, Update}
use Rattle.call_core.specs.Calls.{dialog_of, has_number_left}
use Rattle.calls.specs.declared.change.LegDialog.{LegDialog as Put}
use Rattle.calls.specs.declared.standing_call.StandingCall.{StandingCall}
use Rattle.call_messages.specs.Dressing.{method_of}
use Rattle.call_messages.specs.Messages.{new_leg}
use Rattle.call_steps.specs.Rows.{first_leg}
use Rattle.call_steps.specs.Scenes.{dialog_in, first_scene}
use Rattle.call_steps.specs.Values.{AskerValue, ComingValue, lent_scene}
use Rattle.call_steps.specs.declared.occasion.Occasion.{Occasion}
use Rattle.plans.specs.CallRows.{occasion}
use Rattle.plans.specs.Office.{Office}
use Rattle.plans.specs.declared.setting.Setting.{Setting}
use Rattle.call_trace.specs.declared.call.Call.{Call}
use Rattle.call_trace.specs.declared.call.Offer.{Offer}
use Rattle.call_trace.specs.declared.datagram.Dialog.{Dialog}
use Rattle.call_trace.specs.Moves.{tagged}
use Rattle.call_trace.specs.Stands.{leg}
use Rattle.trace_reading.specs.Message.{dialog_named, trace_message}
use Rattle.message_laws.specs.Sound.{HasSoundLegs, IsSoundLegIf, IsTarget}
use Rattle.message_laws.specs.Waiting.{IsCounted}
use Rattle.message_laws.proofs.StandingCalls.SoundCalls.{dialog_sound}
use Rattle.message_laws.proofs.AwaitedOffers.Tagged.{scene_dialog}
use Rattle.message_laws.specs.Messages.{IsRequestOf}
use Rattle.media_laws.specs.Scenes.{AskedLeg, LegIn}
use Rattle.media_laws.specs.Shows.{ShowsCallee, ShowsLegs, is_caller}
use Rattle.media_laws.specs.Coming.{FitsComing, IsOwnDialog, HasByeLeft, HasNumbersLeft, IsSameDialog, first_dialog, scene_at}

-- ---- the dialog with an end, in the trace

callee_shown : (tag : List ℕ) (o : Option LegDialog) (old : LegDialog) (y : Dialog) → o ≡ Some old → ShowsCallee tag o y → y ≡ dialog_named old.id
callee_shown tag None old y is h = absurd (none-some old is)
callee_shown tag (Some x) old y is h = h ∙ ap (λ (d : LegDialog). dialog_named d.id) (same_Some x old is)

pub leg_shown : (c : StandingCall) (d : Call) (end : End) (old : LegDialog) → ShowsLegs c d → dialog_of end c.call ≡ Some old → leg d (is_caller end) ≡ dialog_named old.id
leg_shown c d Caller old shows is = shows.caller ∙ ap (λ (x : LegDialog). dialog_named x.id) (same_Some c.call.caller old is)
leg_shown c d Callee old shows is = callee_shown c.callee_tag c.call.callee old d.callee is shows.callee

-- ---- the dialog with an end, in the scene

-- it is the call's own, as it was or as it comes
pub record IsIn (c : StandingCall) (w : Option Put) (end : End) (old : LegDialog) : Type 0 where
  pub now : LegDialog
  pub there : dialog_in end w c.call ≡ Some now
  pub goes_on : IsSameDialog old now

own_in : (c : StandingCall) (w : Option Put) (end : End) (old : LegDialog) → HasSoundLegs c → dialog_in end w c.call ≡ Some old → dialog_of end c.call ≡ Some old → IsIn c w end old
own_in c w end old sound there is = record { now = old; there = there; goes_on = record { id = refl; sound = subst IsSoundLegIf is (dialog_sound c end sound); number = refl } }

came_in : (c : StandingCall) (x : Put) (end : End) (old : LegDialog) → dialog_in end (Some x) c.call ≡ Some x.dialog → dialog_of end c.call ≡ Some old → IsOwnDialog (dialog_of end c.call) x.dialog → IsIn c (Some x) end old
came_in c x end old there is h = record { now = x.dialog; there = there; goes_on = subst (λ o. IsOwnDialog o x.dialog) is h }

put_in : (c : StandingCall) (at end : End) (d old : LegDialog) → HasSoundLegs c → IsOwnDialog (dialog_of at c.call) d → dialog_of end c.call ≡ Some old → IsIn c (Some (record { end = at; dialog = d })) end old
put_in c Caller Caller d old sound h is = came_in c (record { end = Caller; dialog = d }) Caller old refl is h
put_in c Caller Callee d old sound h is = own_in c (Some (record { end = Caller; dialog = d })) Callee old sound is is
put_in c Callee Caller d old sound h is = own_in c (Some (record { end = Callee; dialog = d })) Caller old sound is is
put_in c Callee Callee d old sound h is = came_in c (record { end = Callee; dialog = d }) Callee old refl is h

pub is_in : (c : StandingCall) (w : Option Put) (end : End) (old : LegDialog) → HasSoundLegs c → FitsComing c w → dialog_of end c.call ≡ Some old → IsIn c w end old
is_in c None end old sound fits is = own_in c None end old sound is is
is_in c (Some x) end old sound fits is = put_in c x.end end x.dialog old sound fits is

-- ---- numbers

callee_left : (o : Option LegDialog) (old : LegDialog) → o ≡ Some old → HasByeLeft o → nat_lt (last_number old) (max_for methods.Bye) ≡ true
callee_left o old is h = subst HasByeLeft is h

pub number_left : (c : StandingCall) (end : End) (old : LegDialog) → HasNumbersLeft c → dialog_of end c.call ≡ Some old → nat_lt (last_number old) (max_for methods.Bye) ≡ true
number_left c Caller old h is = callee_left (Some c.call.caller) old is h.caller
number_left c Callee old h is = callee_left c.call.callee old is h.callee

-- ---- legs of a current call

leg_of : (s : Office) (e : Setting) (w : ComingValue) (c : StandingCall) (description : Option Description) (end : End) (old : LegDialog) (y : Dialog) → y ≡ dialog_named old.id
    → nat_lt (last_number old) (max_for methods.Bye) ≡ true → IsIn c w.leg end old → LegIn (scene_at s e w c description) end y
leg_of s e w c description end old y shown left found = record {
  leg = found.now;
  has = scene_dialog s.table (occasion s e) w c description end ∙ found.there;
  is = ap dialog_named found.goes_on.id ∙ sym shown;
  leads = found.goes_on.sound.leads;
  numbered = ap (λ n. nat_lt n (max_for methods.Bye)) found.goes_on.number ∙ left;
}

pub leg_in : (s : Office) (e : Setting) (w : ComingValue) (c : StandingCall) (description : Option Description) (d : Call) (end : End) (old : LegDialog) → HasSoundLegs c → HasNumbersLeft c → ShowsLegs c d
    → FitsComing c w.leg → dialog_of end c.call ≡ Some old → LegIn (scene_at s e w c description) end (leg d (is_caller end))
leg_in s e w c description d end old sound left shows fits is =
    leg_of s e w c description end old (leg d (is_caller end)) (leg_shown c d end old shows is) (number_left c end old left is) (is_in c w.leg end old sound fits is)

-- the other end, where the first 2xx comes
pub caller_in : (s : Office) (e : Setting) (w : ComingValue) (c : StandingCall) (description : Option Description) (d : Call) (asked : Parts) (r : Response) (target : Uri) → HasSoundLegs c → HasNumbersLeft c → ShowsLegs c d
    → w.leg ≡ Some (first_dialog asked r target) → LegIn (scene_at s e w c description) Caller d.caller
caller_in s e w c description d asked r target sound left shows came =
    leg_of s e w c description Caller c.call.caller d.caller shows.caller left.caller
    (own_in c w.leg Caller c.call.caller sound (ap (λ o. dialog_in Caller o c.call) came) refl)

-- ---- the dialog that the first 2xx makes

first_number : (o : Option LegDialog) (n : ℕ) → o ≡ None → IsCounted n o → n ≡ 1
first_number None n none h = h
first_number (Some x) n none h = absurd cc

pub first_in : (s : Office) (e : Setting) (w : ComingValue) (c : StandingCall) (description : Option Description) (d : Call) (p : Offer) (asked : Parts) (bytes : List ℕ) (r : Response) (target : Uri) → c.call.callee ≡ None
    → w.leg ≡ Some (first_dialog asked r target) → IsTarget target → IsCounted asked.cseq.number c.call.callee → IsRequestOf asked p.went → p.went.call_id ≡ d.callee.call_id → p.went.from_tag ≡ d.callee.ours
    → LegIn (scene_at s e w c description) Callee (tagged d.callee (trace_message bytes (Kinds.Response r)).to_tag)
unfolding trace_message
first_in s e w c description d p asked bytes r target none came is counted request call_id ours = record {
  leg = callers_dialog asked r target;
  has = scene_dialog s.table (occasion s e) w c description Callee ∙ ap (λ o. dialog_in Callee o c.call) came;
  is = ap (λ (x : List ℕ). record { call_id = x; ours = tag_text asked.from.params; theirs = tag_text r.parts.to.params }) (sym request.call_id ∙ call_id)
      ∙ ap (λ (x : List ℕ). record { call_id = d.callee.call_id; ours = x; theirs = tag_text r.parts.to.params }) (sym request.from_tag ∙ ours);
  leads = is.leads;
  numbered = ap (λ n. nat_lt n (max_for methods.Bye)) (first_number c.call.callee asked.cseq.number none counted);
}

-- ---- the leg in which an offer is passed on

left_for : (d : LegDialog) (method : OfferMethod) → has_number_left (Some d) ≡ true → nat_lt (last_number d) (max_for (method_of method)) ≡ true
left_for d Invite h = h
left_for d Update h = h

pub asked_in : (s : Office) (e : Setting) (w : ComingValue) (c : StandingCall) (description : Option Description) (d : Call) (end : End) (method : OfferMethod) (old : LegDialog) → HasSoundLegs c → ShowsLegs c d → FitsComing c w.leg
    → dialog_of end c.call ≡ Some old → has_number_left (dialog_of end c.call) ≡ true → AskedLeg (scene_at s e w c description) end method (leg d (is_caller end))
asked_in s e w c description d end method old sound shows fits is left =
    let found = is_in c w.leg end old sound fits is in
    record {
      leg = found.now;
      has = scene_dialog s.table (occasion s e) w c description end ∙ found.there;
      is = ap dialog_named found.goes_on.id ∙ sym (leg_shown c d end old shows is);
      leads = found.goes_on.sound.leads;
      numbered = ap (λ n. nat_lt n (max_for (method_of method))) found.goes_on.number ∙ left_for old method (subst (λ o. has_number_left o ≡ true) is left);
    }

-- the new leg of a first offer, in which nothing was sent
pub first_asked : (o : Occasion) (asker : AskerValue) (hops : ℕ) (description : Option Description) (r : Request) (target : Uri) → IsTarget target
    → AskedLeg (lent_scene (first_scene o asker hops (first_leg o r target) description)) Callee Invite (dialog_named (first_leg o r target).id)
unfolding new_leg
first_asked o asker hops description r target is = record { leg = first_leg o r target; has = refl; is = refl; leads = is.leads; numbered = refl }

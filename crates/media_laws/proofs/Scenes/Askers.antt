-- The request that offered, in a scene without a new one.
use Rattle.std.proofs.Common.{◌≡◌, ◌≢◌, ◌∙◌, ℕ, Bool, true, false, List, [], Option, Some, None, refl, sym, ap, subst, inl, inr}
use Rattle.std.proofs.lemmas.Bool.{false≢true}
use Rattle.std.proofs.lemmas.Option.{same_Some}
use Rattle.sip_message.specs.Repeatable.{CanBeRepeated}
use Rattle.sip_message.specs.Words.{tag_text}
use Rattle.sdp.specs.declared.description.Description.{Description}
use Rattle.transactions.specs.Slots.{at}
use Rattle.transactions.specs.declared.transaction.Transaction.{Transaction}
use Rattle.call_media.specs.declared.end.End.{End}
use Rattle.call_media.specs.declared.end.End.TheVariants.{Callee, Caller}
use Rattle.call_media.specs.declared.session.OpenOffer.{OpenOffer}
use Rattle.call_media.specs.declared.session.Session.{Session}
use Rattle.call_core.specs.Calls.{awaits_answer, holds_in}
use Rattle.call_core.specs.declared.stage.Stage.{Stage}
use Rattle.call_core.specs.declared.stage.Stage.TheVariants as stages
use Rattle.call_core.specs.declared.stage.Standing.{Standing}
use Rattle.calls.specs.Carrying.{offerer_of}
use Rattle.calls.specs.declared.standing_call.StandingCall.{StandingCall}
use Rattle.call_steps.specs.Scenes.{offerer_tag, tag_with}
use Rattle.call_steps.specs.Values.{ComingValue, lent_asker}
use Rattle.plans.specs.Office.{Office}
use Rattle.plans.specs.declared.setting.Setting.{Setting}
use Rattle.call_trace.specs.declared.call.Call.{Call}
use Rattle.call_trace.specs.declared.call.Offer.{Offer}
use Rattle.call_trace.specs.declared.datagram.Datagram.{Datagram}
use Rattle.call_trace.specs.declared.datagram.Dialog.{Dialog}
use Rattle.call_trace.specs.Messages.{offering}
use Rattle.call_trace.specs.Stands.{CallStands, HasTags, leg}
use Rattle.message_laws.specs.Askers.{IsServed, KnowsAskers, waits_for}
use Rattle.message_laws.specs.Seeing.{response_tag}
use Rattle.message_laws.proofs.AwaitedOffers.Awaiting.{all_at}
use Rattle.message_laws.proofs.Askers.ServedRequests.{served_asked, unanswered_server}
use Rattle.std.specs.Prelude.{slice_get}
use Rattle.message_laws.specs.Messages.{IsRequestOf}
use Rattle.media_laws.specs.Scenes.{AskerIn}
use Rattle.media_laws.specs.Shows.{ShowsLegs, ShowsOffer, ShowsSettled, ShowsStage, is_caller, settled_of}
use Rattle.media_laws.specs.Asking.{NamesDialog}
use Rattle.media_laws.specs.Coming.{scene_at}
use Rattle.media_laws.proofs.Scenes.Tags.{given_tag, kept_tag, reply_tag}

-- what its responses repeat was read
pub asked_read : (s : Office) (place : ℕ) (c : StandingCall) (t : Transaction) → KnowsAskers s → slice_get s.calls.calls place ≡ Some c → waits_for c ≡ true → at s.table.slots c.asked.id ≡ Some t → CanBeRepeated t.parts
asked_read s place c t knows there waits stands =
    let a = all_at (IsServed s.table.slots) s.calls.calls place c knows.offers.served there waits in
    let server = unanswered_server a.transaction.state a.unanswered in
    subst (λ (x : Transaction). CanBeRepeated x.parts) (same_Some a.transaction t (sym a.stands ∙ stands)) (served_asked s.table.slots c.asked.id knows.slots a server server)

caller_tag : (c : StandingCall) (x : End) → is_caller x ≡ true → tag_with x c.call ≡ c.call.caller.id.ours
caller_tag c Caller is = refl
caller_tag c Callee is = absurd (false≢true is)

-- its responses have the tag of its dialog
ours_by : (s : Office) (place : ℕ) (c : StandingCall) (d : Call) (p : Offer) (t : Transaction) → KnowsAskers s → slice_get s.calls.calls place ≡ Some c → waits_for c ≡ true → at s.table.slots c.asked.id ≡ Some t → ShowsLegs c d
    → p.by_caller ≡ is_caller (offerer_of c.call.standing) → IsRequestOf t.parts p.came → NamesDialog d p → response_tag 200 t.parts (offerer_tag c.call) ≡ (leg d p.by_caller).ours
ours_by s place c d p t knows there waits stands shows by request (inl first) =
    given_tag t.parts (offerer_tag c.call) (asked_read s place c t knows there waits stands) (sym request.to_tag ∙ first.0)
    ∙ (caller_tag c (offerer_of c.call.standing) (sym by ∙ first.1) ∙ (ap (λ (y : Dialog). y.ours) (sym shows.caller) ∙ ap (λ b. (leg d b).ours) (sym first.1)))
ours_by s place c d p t knows there waits stands shows by request (inr later) =
    let own : tag_text t.parts.to.params ≡ (leg d p.by_caller).ours = sym request.to_tag ∙ later.0 in
    kept_tag t.parts (offerer_tag c.call) (λ none. later.1 (sym own ∙ none)) ∙ own

asker_of : (s : Office) (e : Setting) (w : ComingValue) (c : StandingCall) (description : Option Description) (t : Transaction) → w.offer ≡ None → at s.table.slots c.asked.id ≡ Some t
    → (scene_at s e w c description).offer ≡ Some (lent_asker (record { id = c.asked.id; parts = t.parts; source = c.asked.source; tag = offerer_tag c.call }))
asker_of s e w c description t none stands = rw (none, stands) refl

pub asker_in_scene : (s : Office) (e : Setting) (w : ComingValue) (place : ℕ) (c : StandingCall) (description : Option Description) (begun : List Transaction) (t : List Datagram) (name : List ℕ) (n : Standing) (o : OpenOffer) (d : Call) (p : Offer)
    → KnowsAskers s → slice_get s.calls.calls place ≡ Some c → c.call.standing ≡ Some n → awaits_answer n.stage ≡ true → w.offer ≡ None → ShowsLegs c d → ShowsOffer s.table.slots begun t name c n.offerer o d p → NamesDialog d p
    → AskerIn (scene_at s e w c description) (leg d p.by_caller) p
asker_in_scene s e w place c description begun t name n o d p knows there stands awaits none shows offer names =
    let x = offer.came.transaction in
    let waits : waits_for c ≡ true = ap (holds_in awaits_answer) stands ∙ awaits in
    record {
      asker = lent_asker (record { id = c.asked.id; parts = x.parts; source = c.asked.source; tag = offerer_tag c.call });
      has = asker_of s e w c description x none offer.came.stands;
      request = offer.came.request;
      reply_tag = reply_tag x.parts (offerer_tag c.call);
      ours = ours_by s place c d p x knows there waits offer.came.stands shows (offer.by ∙ ap (λ st. is_caller (offerer_of st)) (sym stands)) offer.came.request names;
    }

-- ---- the dialog that it names

ours_there : (d : Call) (b : Bool) → HasTags d → (leg d b).ours ≢ []
ours_there d true has = has.caller
ours_there d false has = has.callee

settled_names : (t : List Datagram) (d : Call) (p : Offer) (x : Option Session) → CallStands offering t d → HasTags d → d.offer ≡ Some p → ShowsSettled x d.stage → NamesDialog d p
settled_names t d p None stands has opened shows = absurd shows
settled_names t d p (Some x) stands has opened shows = inr (stands.later (settled_of x) shows p opened, ours_there d p.by_caller has)

staged_names : (slots : List (Option Transaction)) (begun : List Transaction) (t : List Datagram) (c : StandingCall) (n : Standing) (stage : Stage) (d : Call) (p : Offer) → awaits_answer stage ≡ true → CallStands offering t d → HasTags d
    → d.offer ≡ Some p → ShowsStage slots begun t c n stage d → NamesDialog d p
staged_names slots begun t c n (stages.Asked rung) d p awaits stands has opened shows = let first = stands.first shows.0 p opened in inl (first.no_tag, first.by_caller)
staged_names slots begun t c n (stages.Cancelling sent) d p awaits stands has opened shows = absurd (false≢true awaits)
staged_names slots begun t c n (stages.Answered interval) d p awaits stands has opened shows = absurd (false≢true awaits)
staged_names slots begun t c n stages.Settled d p awaits stands has opened shows = absurd (false≢true awaits)
staged_names slots begun t c n (stages.Reasked rung cancelled) d p awaits stands has opened shows = settled_names t d p c.call.media.session stands has opened shows.0
staged_names slots begun t c n (stages.Reanswered interval) d p awaits stands has opened shows = absurd (false≢true awaits)
staged_names slots begun t c n stages.Updating d p awaits stands has opened shows = settled_names t d p c.call.media.session stands has opened shows.0
staged_names slots begun t c n (stages.Ending interval) d p awaits stands has opened shows = absurd (false≢true awaits)

pub offer_names : (slots : List (Option Transaction)) (begun : List Transaction) (t : List Datagram) (c : StandingCall) (n : Standing) (d : Call) (p : Offer) → awaits_answer n.stage ≡ true → CallStands offering t d → HasTags d
    → d.offer ≡ Some p → ShowsStage slots begun t c n n.stage d → NamesDialog d p
offer_names slots begun t c n d p = staged_names slots begun t c n n.stage d p

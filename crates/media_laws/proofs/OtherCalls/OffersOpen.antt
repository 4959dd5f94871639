-- An answer that replies to the open offer of a trace's call has the server's tag in the dialog of the current call,
-- and a number that was taken there.
use Rattle.std.proofs.Common.{◌≡◌, ◌∙◌, ℕ, suc, zero, true, List, [], ◌∷◌, Option, Some, None, refl, ap, sym, subst, inl, inr}
use Rattle.std.specs.Prelude.{slice_get}
use Rattle.std.proofs.lemmas.Option.{none-some, same_Some}
use Rattle.transactions.specs.declared.transaction.Transaction.{Transaction}
use Rattle.dialogs.specs.declared.state.Dialog.{Dialog as LegDialog}
use Rattle.call_media.specs.declared.end.End.{End}
use Rattle.call_media.specs.declared.end.End.TheVariants.{Caller, Callee}
use Rattle.call_media.specs.declared.session.OpenOffer.{OpenOffer}
use Rattle.call_media.specs.declared.session.Session.{Session as CallSession}
use Rattle.call_core.specs.Calls.{awaits_answer, dialog_of, holds_in}
use Rattle.call_core.specs.declared.stage.Stage.{Stage}
use Rattle.call_core.specs.declared.stage.Stage.TheVariants as stages
use Rattle.call_core.specs.declared.stage.Standing.{Standing}
use Rattle.call_rules.specs.Responses.{awaits_final}
use Rattle.call_steps.specs.Scenes.{tag_to}
use Rattle.calls.specs.Carrying.{offerer_of}
use Rattle.calls.specs.declared.standing_call.StandingCall.{StandingCall}
use Rattle.call_trace.specs.declared.call.Call.{Call}
use Rattle.call_trace.specs.declared.call.Offer.{Offer}
use Rattle.call_trace.specs.declared.call.Stage.{Stage as TraceStage}
use Rattle.call_trace.specs.declared.call.Stage.TheVariants.{Asked}
use Rattle.call_trace.specs.declared.datagram.Datagram.{Datagram}
use Rattle.call_trace.specs.declared.datagram.Dialog.{Dialog}
use Rattle.call_trace.specs.declared.datagram.Message.{Message}
use Rattle.call_trace.specs.Stands.{leg}
use Rattle.message_laws.specs.Knowing.{HasLegTag, HasMadeTags}
use Rattle.message_laws.specs.Asked.{HasAskerIf}
use Rattle.media_laws.specs.Listing.{Listed}
use Rattle.media_laws.specs.Shows.{Came, ShowsCall, ShowsCallee, ShowsOpen, ShowsSettled, ShowsStage, ShowsStanding, is_caller}
use Rattle.media_laws.specs.Answering.{IsOfferersTag, IsReplyTo}
use Rattle.media_laws.specs.Taken.{HasTakenOffer, IsTakenIn}

-- ---- the current call

pub listed_at : (P : StandingCall → Call → Type 0) (cs : List StandingCall) (ds : List Call) → Listed P cs ds → (j : ℕ) (d : Call) → slice_get ds j ≡ Some d → (place : ℕ) × (c : StandingCall) × (slice_get cs place ≡ Some c) × P c d
listed_at P [] ds h j d there = absurd (none-some d (ap (λ l. slice_get l j) (sym h) ∙ there))
listed_at P (x ∷ cs) ds (inl h) j d there = let found = listed_at P cs ds h.1 j d there in (suc found.0, found.1, found.2, found.3)
listed_at P (x ∷ cs) ds (inr h) zero d there = (0, x, refl, subst (P x) (same_Some h.1 d (ap (λ l. slice_get l 0) (sym h.3) ∙ there)) h.4)
listed_at P (x ∷ cs) ds (inr h) (suc j) d there =
    let found = listed_at P cs h.2 h.5 j d (ap (λ l. slice_get l (suc j)) (sym h.3) ∙ there) in (suc found.0, found.1, found.2, found.3)

-- it waits for the answer to the offer, which came from this end
pub record WaitsFor (slots : List (Option Transaction)) (c : StandingCall) (d : Call) (p : Offer) : Type 0 where
  pub standing : Standing
  pub stands : c.call.standing ≡ Some standing
  pub awaits : awaits_answer standing.stage ≡ true
  pub by : p.by_caller ≡ is_caller standing.offerer
  pub came : Came slots c.asked.id p
  pub first : d.stage ≡ Asked → standing.offerer ≡ Caller

module _ (slots : List (Option Transaction)) (begun : List Transaction) (t : List Datagram) (c : StandingCall) (d : Call) (p : Offer) (opens : d.offer ≡ Some p) where
  open_waits : (name : List ℕ) (n : Standing) (o : Option OpenOffer) → c.call.standing ≡ Some n → awaits_answer n.stage ≡ true → (d.stage ≡ Asked → n.offerer ≡ Caller) → ShowsOpen slots begun t name c n.offerer o d → WaitsFor slots c d p
  open_waits name n None stands awaits first h = absurd h
  open_waits name n (Some o) stands awaits first h =
      let same : h.0 ≡ p = same_Some h.0 p (sym h.1.open_is ∙ opens) in
      record {
        standing = n;
        stands = stands;
        awaits = awaits;
        by = ap (λ (x : Offer). x.by_caller) (sym same) ∙ h.1.by;
        came = subst (Came slots c.asked.id) same h.1.came;
        first = first;
      }

  settled_first : (session : Option CallSession) (stage : TraceStage) → ShowsSettled session stage → stage ≡ Asked → ⊥
  settled_first None stage h is = h
  settled_first (Some x) stage h is = absurd cc

  stage_waits : (n : Standing) (stage : Stage) → c.call.standing ≡ Some n → n.stage ≡ stage → ShowsStage slots begun t c n stage d → WaitsFor slots c d p
  stage_waits n (stages.Asked rung) stands is h = open_waits _ n c.call.media.offer stands (ap awaits_answer is) (λ first. h.2) h.3
  stage_waits n (stages.Cancelling sent) stands is h = absurd h
  stage_waits n (stages.Answered interval) stands is h = absurd (none-some p (sym h.1 ∙ opens))
  stage_waits n stages.Settled stands is h = absurd (none-some p (sym h.1 ∙ opens))
  stage_waits n (stages.Reasked rung cancelled) stands is h = open_waits _ n c.call.media.offer stands (ap awaits_answer is) (λ first. absurd (settled_first c.call.media.session d.stage h.0 first)) h.1
  stage_waits n (stages.Reanswered interval) stands is h = absurd (none-some p (sym h.1 ∙ opens))
  stage_waits n stages.Updating stands is h = open_waits _ n c.call.media.offer stands (ap awaits_answer is) (λ first. absurd (settled_first c.call.media.session d.stage h.0 first)) h.1
  stage_waits n (stages.Ending interval) stands is h = absurd (none-some p (sym h.1 ∙ opens))

  standing_waits : (standing : Option Standing) → c.call.standing ≡ standing → ShowsStanding slots begun t c standing d → WaitsFor slots c d p
  standing_waits None stands h = absurd h
  standing_waits (Some n) stands h = stage_waits n n.stage stands refl h

  pub call_waits : ShowsCall slots begun t c d → WaitsFor slots c d p
  call_waits h = standing_waits c.call.standing refl h.standing

-- ---- the tag

callee_tag_of : (tag : List ℕ) (callee : Option LegDialog) (d : Dialog) → HasLegTag tag callee → ShowsCallee tag callee d → d.ours ≡ tag
callee_tag_of tag None d own h = h.0
callee_tag_of tag (Some own_leg) d own h = ap (λ (x : Dialog). x.ours) h ∙ own

leg_tag : (slots : List (Option Transaction)) (begun : List Transaction) (t : List Datagram) (made : ℕ) (c : StandingCall) (d : Call) (x : End) → HasMadeTags made c → ShowsCall slots begun t c d → (leg d (is_caller x)).ours ≡ tag_to x c
leg_tag slots begun t made c d Caller tags h = ap (λ (l : Dialog). l.ours) h.legs.caller
leg_tag slots begun t made c d Callee tags h = callee_tag_of c.callee_tag c.call.callee d.callee tags.leg h.legs.callee

offerers_tag : (slots : List (Option Transaction)) (begun : List Transaction) (t : List Datagram) (made : ℕ) (c : StandingCall) (d : Call) (p : Offer) (tag : List ℕ) → HasMadeTags made c → ShowsCall slots begun t c d
    → (w : WaitsFor slots c d p) → IsOfferersTag d p tag → tag_to w.standing.offerer c ≡ tag
offerers_tag slots begun t made c d p tag tags h w (inl is) = sym (is ∙ ap (λ b. (leg d b).ours) w.by ∙ leg_tag slots begun t made c d w.standing.offerer tags h)
offerers_tag slots begun t made c d p tag tags h w (inr first) = sym (first.1 ∙ leg_tag slots begun t made c d Caller tags h ∙ ap (λ x. tag_to x c) (sym (w.first first.0)))

-- ---- the number

awaited : (n : Standing) → awaits_answer n.stage ≡ true → awaits_final n.stage ≡ true
awaited n h = rw h refl

offer_number : (slots : List (Option Transaction)) (c : StandingCall) (d : Call) (p : Offer) → WaitsFor slots c d p → HasAskerIf slots c → p.came.number ≡ c.asked.number
offer_number slots c d p w asked =
    let a = asked (subst (λ x. holds_in awaits_answer x ≡ true) (sym w.stands) w.awaits) in
    let same : w.came.transaction ≡ a.transaction = same_Some w.came.transaction a.transaction (sym w.came.stands ∙ a.stands) in
    w.came.request.number ∙ ap (λ (x : Transaction). x.parts.cseq.number) same ∙ a.number

offer_taken : (slots : List (Option Transaction)) (c : StandingCall) (d : Call) (p : Offer) → (w : WaitsFor slots c d p) → HasTakenOffer c → IsTakenIn c.asked.number (dialog_of w.standing.offerer c.call)
offer_taken slots c d p w taken =
    subst (λ x. IsTakenIn c.asked.number (dialog_of (offerer_of x) c.call)) w.stands (taken (subst (λ x. holds_in awaits_final x ≡ true) (sym w.stands) (awaited w.standing w.awaits)))

-- ---- both

-- the answer has the tag of the dialog with this end, and its number was taken there
pub record IsNumberedIn (c : StandingCall) (m : Message) : Type 0 where
  pub end : End
  pub tag : tag_to end c ≡ m.to_tag
  pub taken : IsTakenIn m.number (dialog_of end c.call)

pub reply_numbered : (slots : List (Option Transaction)) (begun : List Transaction) (t : List Datagram) (made : ℕ) (ds : List Call) (m : Message) (j : ℕ) (c : StandingCall) (d : Call) (p : Offer) → IsReplyTo ds m j d p
    → HasMadeTags made c → ShowsCall slots begun t c d → HasAskerIf slots c → HasTakenOffer c → IsNumberedIn c m
reply_numbered slots begun t made ds m j c d p reply tags h asked taken =
    let w = call_waits slots begun t c d p reply.opens h in
    record {
      end = w.standing.offerer;
      tag = offerers_tag slots begun t made c d p m.to_tag tags h w reply.tag;
      taken = subst (λ n. IsTakenIn n (dialog_of w.standing.offerer c.call)) (sym (reply.replies.number ∙ offer_number slots c d p w asked)) (offer_taken slots c d p w taken);
    }

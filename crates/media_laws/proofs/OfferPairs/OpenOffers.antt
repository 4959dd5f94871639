-- The request that carried the open offer of a call is that of the trace's offer, and its tag is one of the trace's
-- call.
use Rattle.std.proofs.Common.{◌≡◌, ◌∙◌, ℕ, Bool, true, false, ◌||◌, List, Option, Some, None, refl, sym, ap, subst, inl, inr}
use Rattle.std.specs.Cmp.Lexicographic.{bytes_decides}
use Rattle.std.proofs.lemmas.Bool.{false≢true}
use Rattle.std.proofs.lemmas.Option.{none-some, same_Some}
use Rattle.dialogs.specs.declared.state.Dialog.{Dialog as LegDialog}
use Rattle.transactions.specs.declared.transaction.Transaction.{Transaction}
use Rattle.call_media.specs.declared.end.End.{End}
use Rattle.call_media.specs.declared.session.OpenOffer.{OpenOffer}
use Rattle.call_core.specs.Calls.{awaits_answer, dialog_of}
use Rattle.call_core.specs.declared.stage.Stage.{Stage}
use Rattle.call_core.specs.declared.stage.Stage.TheVariants as stages
use Rattle.call_core.specs.declared.stage.Standing.{Standing}
use Rattle.call_media.specs.declared.end.End.TheVariants.{Caller}
use Rattle.calls.specs.Finding.{has_tag, is_tag_in, is_text}
use Rattle.calls.specs.declared.standing_call.StandingCall.{StandingCall}
use Rattle.call_rules.specs.Responses.{awaits_final, is_open}
use Rattle.call_trace.specs.declared.call.Call.{Call}
use Rattle.call_trace.specs.declared.call.Offer.{Offer}
use Rattle.call_trace.specs.declared.datagram.Datagram.{Datagram}
use Rattle.call_trace.specs.declared.datagram.Dialog.{Dialog}
use Rattle.call_trace.specs.Stands.{IsTagOf}
use Rattle.message_laws.specs.Knowing.{HasLegTag, HasMadeTags}
use Rattle.message_laws.specs.OpenRequests.{IsAmong}
use Rattle.message_laws.specs.Waiting.{IsOffering, from_tag}
use Rattle.message_laws.specs.Messages.{IsRequestOf}
use Rattle.media_laws.specs.Shows.{ShowsCallee, ShowsLegs, ShowsOpen, ShowsStage}

-- ---- the tag of its From

callee_ours : (tag : List ℕ) (o : Option LegDialog) (y : Dialog) → ShowsCallee tag o y → HasLegTag tag o → y.ours ≡ tag
callee_ours tag None y shows has = shows.0
callee_ours tag (Some leg) y shows has = ap (λ (x : Dialog). x.ours) shows ∙ has

pub ours_is : (made : ℕ) (c : StandingCall) (d : Call) → HasMadeTags made c → ShowsLegs c d → d.callee.ours ≡ c.callee_tag
ours_is made c d tags shows = callee_ours c.callee_tag c.call.callee d.callee shows.callee tags.leg

tag_by : (d : Call) (tag : List ℕ) (a b : Bool) → (a ≡ true → d.callee.ours ≡ tag) → (b ≡ true → d.caller.ours ≡ tag) → (a || b) ≡ true → IsTagOf d tag
tag_by d tag true b one two h = inr (sym (one refl))
tag_by d tag false true one two h = inl (sym (two refl))
tag_by d tag false false one two h = absurd (false≢true h)

pub tag_shown : (made : ℕ) (c : StandingCall) (d : Call) (tag : List ℕ) → HasMadeTags made c → ShowsLegs c d → has_tag tag c ≡ true → IsTagOf d tag
tag_shown made c d tag tags shows h =
    tag_by d tag (is_text c.callee_tag tag) (is_tag_in (dialog_of Caller c.call) tag)
    (λ is. ours_is made c d tags shows ∙ (bytes_decides c.callee_tag tag).0 is)
    (λ is. ap (λ (x : Dialog). x.ours) shows.caller ∙ (bytes_decides c.call.caller.id.ours tag).0 is) h

-- ---- the offer

module _ (slots : List (Option Transaction)) (begun : List Transaction) (t : List Datagram) (c : StandingCall) (d : Call) where
  -- one is open
  pub offer_there : (name : List ℕ) (x : End) (o : Option OpenOffer) → ShowsOpen slots begun t name c x o d → (p : Offer) × (d.offer ≡ Some p)
  offer_there name x None h = absurd h
  offer_there name x (Some o) h = (h.0, h.1.open_is)

  module _ (p : Offer) (is_open_there : d.offer ≡ Some p) (u : Transaction) (among : IsAmong begun u) (offers : IsOffering u) (tag : has_tag (from_tag u) c ≡ true) (opens : is_open u.parts c ≡ true) where
    open_went : (name : List ℕ) (x : End) (o : Option OpenOffer) → ShowsOpen slots begun t name c x o d → IsRequestOf u.parts p.went
    open_went name x None h = absurd h
    open_went name x (Some o) h = subst (λ (q : Offer). IsRequestOf u.parts q.went) (same_Some h.0 p (sym h.1.open_is ∙ is_open_there)) (h.1.went u among offers tag opens)

    none_open : d.offer ≡ None → IsRequestOf u.parts p.went
    none_open none = absurd (none-some p (sym none ∙ is_open_there))

    pub staged_went : (n : Standing) (stage : Stage) → ShowsStage slots begun t c n stage d → IsRequestOf u.parts p.went
    staged_went n (stages.Asked rung) h = open_went _ n.offerer c.call.media.offer h.3
    staged_went n (stages.Cancelling sent) h = absurd h
    staged_went n (stages.Answered interval) h = none_open h.1
    staged_went n stages.Settled h = none_open h.1
    staged_went n (stages.Reasked rung cancelled) h = open_went _ n.offerer c.call.media.offer h.1
    staged_went n (stages.Reanswered interval) h = none_open h.1
    staged_went n stages.Updating h = open_went _ n.offerer c.call.media.offer h.1
    staged_went n (stages.Ending interval) h = none_open h.1

  -- a call that the trace lists, and that waits for a final response, waits for an answer
  pub stage_awaits : (n : Standing) (stage : Stage) → awaits_final stage ≡ true → ShowsStage slots begun t c n stage d → awaits_answer stage ≡ true
  stage_awaits n (stages.Asked rung) final h = refl
  stage_awaits n (stages.Cancelling sent) final h = absurd h
  stage_awaits n (stages.Answered interval) final h = absurd (false≢true final)
  stage_awaits n stages.Settled final h = absurd (false≢true final)
  stage_awaits n (stages.Reasked rung cancelled) final h = refl
  stage_awaits n (stages.Reanswered interval) final h = absurd (false≢true final)
  stage_awaits n stages.Updating final h = refl
  stage_awaits n (stages.Ending interval) final h = absurd (false≢true final)

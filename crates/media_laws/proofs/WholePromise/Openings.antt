-- The transaction of the request that carries the open offer of a call of the trace.
use Rattle.std.proofs.Common.{◌≡◌, ◌∙◌, ℕ, true, List, Option, Some, None, ap, refl, sym, subst}
use Rattle.std.proofs.lemmas.Option.{none-some, same_Some}
use Rattle.call_core.specs.Calls.{awaits_answer, dialog_of}
use Rattle.call_core.specs.declared.stage.Stage.{Stage}
use Rattle.call_core.specs.declared.stage.Stage.TheVariants as stages
use Rattle.call_core.specs.declared.stage.Standing.{Standing}
use Rattle.call_media.specs.Ends.{is_same, other}
use Rattle.call_media.specs.declared.end.End.{End}
use Rattle.call_media.specs.declared.end.End.TheVariants.{Caller, Callee}
use Rattle.call_media.specs.declared.session.OpenOffer.{OpenOffer}
use Rattle.call_media.specs.declared.session.Session.{Session as CallSession}
use Rattle.call_rules.specs.Responses.{asked_end, is_open_in}
use Rattle.call_trace.specs.declared.call.Call.{Call}
use Rattle.call_trace.specs.declared.call.Offer.{Offer}
use Rattle.call_trace.specs.declared.call.Stage.{Stage as TraceStage}
use Rattle.call_trace.specs.declared.call.Stage.TheVariants.{Asked}
use Rattle.call_trace.specs.declared.datagram.Datagram.{Datagram}
use Rattle.calls.specs.declared.standing_call.StandingCall.{StandingCall}
use Rattle.message_laws.specs.Numbers.{WasCounted}
use Rattle.message_laws.specs.OpenRequests.{HasAsked, IsAmong, IsOpenRequest}
use Rattle.message_laws.specs.Waiting.{IsCounted}
use Rattle.message_laws.proofs.AwaitedOffers.Awaiting.{open_in}
use Rattle.media_laws.specs.Shows.{ShowsCall, ShowsOpen, ShowsSettled, ShowsStage, ShowsStanding, Went}
use Rattle.message_laws.specs.Messages.{IsRequestOf}
use Rattle.transactions.specs.declared.transaction.Transaction.{Transaction}

-- the call waits for the answer to the offer, whose request went so; before the first answer there is no dialog with
-- the callee
record AwaitsAnswer (begun : List Transaction) (c : StandingCall) (d : Call) (p : Offer) : Type 0 where
  standing : Standing
  stands : c.call.standing ≡ Some standing
  awaits : awaits_answer standing.stage ≡ true
  went : Went begun c p
  first : d.stage ≡ Asked → (c.call.callee ≡ None) × (standing.offerer ≡ Caller)

-- the transaction began, and is the call's open request
pub record HasOpenRequest (begun : List Transaction) (c : StandingCall) (d : Call) (p : Offer) : Type 0 where
  pub transaction : Transaction
  pub began : IsAmong begun transaction
  pub opens : IsOpenRequest c transaction
  pub request : IsRequestOf transaction.parts p.went
  pub first : d.stage ≡ Asked → WasCounted transaction c → transaction.parts.cseq.number ≡ 1

is_callee : (e : End) → is_same e Callee ≡ true → e ≡ Callee
is_callee Caller h = absurd cc
is_callee Callee h = refl

counted_first : (number : ℕ) (c : StandingCall) (e : End) → e ≡ Callee → c.call.callee ≡ None → IsCounted number (dialog_of e c.call) → number ≡ 1
counted_first number c e is none h = subst (IsCounted number) none (subst (λ x. IsCounted number (dialog_of x c.call)) is h)

module _ (slots : List (Option Transaction)) (begun : List Transaction) (t : List Datagram) (c : StandingCall) (d : Call) (p : Offer) (opens : d.offer ≡ Some p) where
  open_awaits : (name : List ℕ) (n : Standing) (o : Option OpenOffer) → c.call.standing ≡ Some n → awaits_answer n.stage ≡ true → (d.stage ≡ Asked → (c.call.callee ≡ None) × (n.offerer ≡ Caller))
      → ShowsOpen slots begun t name c n.offerer o d → AwaitsAnswer begun c d p
  open_awaits name n None stands awaits first h = absurd h
  open_awaits name n (Some o) stands awaits first h =
      record { standing = n; stands = stands; awaits = awaits; went = subst (Went begun c) (same_Some h.0 p (sym h.1.open_is ∙ opens)) h.1.went; first = first }

  was_settled : (session : Option CallSession) (stage : TraceStage) → ShowsSettled session stage → stage ≡ Asked → ⊥
  was_settled None stage h is = h
  was_settled (Some x) stage h is = absurd cc

  stage_awaits : (n : Standing) (stage : Stage) → c.call.standing ≡ Some n → n.stage ≡ stage → ShowsStage slots begun t c n stage d → AwaitsAnswer begun c d p
  stage_awaits n (stages.Asked rung) stands is h = open_awaits _ n c.call.media.offer stands (ap awaits_answer is) (λ first. (h.1, h.2)) h.3
  stage_awaits n (stages.Cancelling sent) stands is h = absurd h
  stage_awaits n (stages.Answered interval) stands is h = absurd (none-some p (sym h.1 ∙ opens))
  stage_awaits n stages.Settled stands is h = absurd (none-some p (sym h.1 ∙ opens))
  stage_awaits n (stages.Reasked rung cancelled) stands is h = open_awaits _ n c.call.media.offer stands (ap awaits_answer is) (λ first. absurd (was_settled c.call.media.session d.stage h.0 first)) h.1
  stage_awaits n (stages.Reanswered interval) stands is h = absurd (none-some p (sym h.1 ∙ opens))
  stage_awaits n stages.Updating stands is h = open_awaits _ n c.call.media.offer stands (ap awaits_answer is) (λ first. absurd (was_settled c.call.media.session d.stage h.0 first)) h.1
  stage_awaits n (stages.Ending interval) stands is h = absurd (none-some p (sym h.1 ∙ opens))

  standing_awaits : (standing : Option Standing) → c.call.standing ≡ standing → ShowsStanding slots begun t c standing d → AwaitsAnswer begun c d p
  standing_awaits None stands h = absurd h
  standing_awaits (Some n) stands h = stage_awaits n n.stage stands refl h

  number_one : (w : AwaitsAnswer begun c d p) (u : Transaction) → IsOpenRequest c u → d.stage ≡ Asked → WasCounted u c → u.parts.cseq.number ≡ 1
  number_one w u open_is asked counted =
      let o = open_in u.parts c (Some w.standing) w.stands (subst (λ (s : Option Standing). is_open_in u.parts c s ≡ true) w.stands open_is.opens) in
      let one : o.0 ≡ w.standing = same_Some o.0 w.standing (sym o.1.stands ∙ w.stands) in
      let callee : asked_end u.parts c ≡ Callee = is_callee (asked_end u.parts c) (subst (λ x. is_same (asked_end u.parts c) (other x) ≡ true) (ap (λ (n : Standing). n.offerer) one ∙ (w.first asked).1) o.1.end) in
      counted_first u.parts.cseq.number c (asked_end u.parts c) callee (w.first asked).0 (counted open_is.tag)

  request_by : HasAsked begun c → AwaitsAnswer begun c d p → HasOpenRequest begun c d p
  request_by asked w =
      let found = asked w.standing w.stands w.awaits in
      record { transaction = found.0; began = found.1; opens = found.2; request = w.went found.0 found.1 found.2.offers found.2.tag found.2.opens; first = number_one w found.0 found.2 }

  pub has_open_request : HasAsked begun c → ShowsCall slots begun t c d → HasOpenRequest begun c d p
  has_open_request asked h = request_by asked (standing_awaits c.call.standing refl h.standing)

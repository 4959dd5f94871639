-- An offer inside a call that is passed on: its request is the open offer of the call, with the number that follows in
-- its leg.
use Rattle.std.proofs.Common.{◌≡◌, ◌∙◌, ℕ, ◌+◌, ◌≤◌, Bool, true, false, cond, List, Option, Some, None, option_map, refl, ap, sym, subst, inl, inr, arith}
use Rattle.std.specs.Prelude.{◌⊎◌, slice_get}
use Rattle.std.proofs.lemmas.Bool.{eq-eqb, eqb-true, false≢true}
use Rattle.std.proofs.lemmas.Option.{none-some, same_Some}
use Rattle.sip_message.specs.declared.message.Parts.{Parts}
use Rattle.sip_message.specs.declared.message.Request.{Request}
use Rattle.sdp.specs.declared.description.Description.{Description}
use Rattle.port_pool.specs.Pool as pools
use Rattle.dialogs.specs.declared.state.Dialog.{Dialog}
use Rattle.dialogs.specs.Counting.{following, last_number}
use Rattle.transactions.specs.declared.transaction.Transaction.{Transaction}
use Rattle.call_media.specs.declared.end.End.{End}
use Rattle.call_media.specs.declared.end.End.TheVariants.{Caller, Callee}
use Rattle.call_media.specs.declared.session.OpenOffer.{OpenOffer}
use Rattle.call_media.specs.Ends.{other}
use Rattle.call_media.specs.Offers.{opened as opened_offer}
use Rattle.call_core.specs.declared.call.Call.{Call}
use Rattle.call_core.specs.declared.clash.Clash.{Clash}
use Rattle.call_core.specs.declared.input.Input.TheVariants as inputs
use Rattle.call_core.specs.declared.signal.OfferMethod.{OfferMethod}
use Rattle.call_core.specs.declared.signal.OfferMethod.TheVariants.{Invite, Update}
use Rattle.call_core.specs.declared.signal.Signal.TheVariants as signals
use Rattle.call_core.specs.declared.stage.Stage.{Stage}
use Rattle.call_core.specs.declared.stage.Stage.TheVariants as stages
use Rattle.call_core.specs.declared.stage.Standing as stage
use Rattle.call_core.specs.CallRows.{at_line, call_row, offer_at, offer_step, step_in}
use Rattle.call_core.specs.Calls.{after, clash_in, dialog_of, holds_in, number_to, numbers_to, with_number_if}
use Rattle.call_core.specs.Plans.{Step}
use Rattle.call_core.specs.Settled.{settled_row}
use Rattle.call_core.specs.Table.{row_in, row_of}
use Rattle.call_rules.specs.Offers.{clash_by, content_line, hops_line, is_settled, offer_rule, otherwise, reach_line}
use Rattle.call_rules.specs.declared.offers.OfferRule.{OfferRule}
use Rattle.call_rules.specs.declared.offers.OfferRule.TheVariants.{NoDialog}
use Rattle.call_rules.specs.Responses.{awaits_final, is_last_in, is_open}
use Rattle.calls.specs.declared.standing_call.StandingCall.{StandingCall}
use Rattle.plans.specs.CallRows.{reason_of_clash, reason_of_rule}
use Rattle.call_messages.specs.declared.scene.Scene.{Scene}
use Rattle.call_messages.specs.Dressing.{dialog_with}
use Rattle.message_laws.specs.Carried.{has_leg, awaits_callee}
use Rattle.message_laws.specs.Waiting.{IsCounted}
use Rattle.message_laws.proofs.AwaitedOffers.Awaiting.{CallGrows, Grows, Keeps, grows_kept, keeps_self, opened}
use Rattle.message_laws.proofs.AwaitedOffers.Offering.{IsOfferTo, OfferedIn}
use Rattle.message_laws.proofs.AwaitedOffers.OneOffer.{HasOne}

-- ---- it is passed on where the call is settled

settled_if : (b : Bool) (later : OfferRule) → reason_of_rule (otherwise (cond b None (Some NoDialog)) later) ≡ None → b ≡ true
settled_if true later e = refl
settled_if false later e = absurd (none-some _ (sym e))

settled_by : (c : Call) (clash : Option Clash) (later : OfferRule) → reason_of_rule (otherwise (clash_by c clash) later) ≡ None → holds_in is_settled c.standing ≡ true
settled_by c None later e = settled_if (holds_in is_settled c.standing) later e
settled_by c (Some clash) later e = absurd (none-some (reason_of_clash clash) (sym e))

pub passes_settled : (r : Request) (end : End) (c : Call) → reason_of_rule (offer_rule r end c) ≡ None → holds_in is_settled c.standing ≡ true
unfolding offer_rule
passes_settled r end c e = settled_by c (clash_in c.standing end) (otherwise (hops_line r) (otherwise (reach_line r) (otherwise (content_line r) _))) e

pub settled_stage : (stage : Stage) → is_settled stage ≡ true → stage ≡ stages.Settled
settled_stage (stages.Asked rung) e = absurd (false≢true e)
settled_stage (stages.Cancelling sent) e = absurd (false≢true e)
settled_stage (stages.Answered interval) e = absurd (false≢true e)
settled_stage stages.Settled e = refl
settled_stage (stages.Reasked rung cancelled) e = absurd (false≢true e)
settled_stage (stages.Reanswered interval) e = absurd (false≢true e)
settled_stage stages.Updating e = absurd (false≢true e)
settled_stage (stages.Ending interval) e = absurd (false≢true e)

-- so no offer is open
pub none_open : (parts : Parts) (c : StandingCall) → holds_in is_settled c.call.standing ≡ true → is_open parts c ≡ true → ⊥
none_open parts c settled h =
    let o = opened parts c h in
    let stage : o.0.stage ≡ stages.Settled = settled_stage o.0.stage (sym (ap (holds_in is_settled) o.1.stands) ∙ settled) in
    false≢true (ap awaits_final (sym stage) ∙ o.1.awaits)

-- ---- what the call does

-- the dialog in which an offer went, with the number that followed
abbrev pub counted : Option Dialog → Option Dialog
counted None = None
counted (Some d) = Some (record d { local_number = Some (following d) })

pub record PassesOn (c : Call) (x : End) (step : Step) : Type 0 where
  pub next : stage.Standing
  pub stands : step.call.standing ≡ Some next
  pub awaits : awaits_final next.stage ≡ true
  pub offerer : next.offerer ≡ x
  pub one : HasOne step.actions
  pub offered : (s : Scene) (t : Transaction) → OfferedIn s step.actions t → IsOfferTo (dialog_with (other x) s) t
  pub mine : dialog_of x step.call ≡ dialog_of x c
  pub theirs : dialog_of (other x) step.call ≡ counted (dialog_of (other x) c)
  -- it keeps the offer that it says, and is no new call
  pub open_offer : OpenOffer
  pub kept : step.call.media.offer ≡ Some open_offer
  pub says : step.description ≡ Some open_offer.offer_sent
  pub not_asked : awaits_callee next.stage ≡ false

either_offer : (A : Type 0) → A ⊎ ⊥ → A
either_offer A (inl h) = h
either_offer A (inr h) = absurd h

counted_callee : (d : Option Dialog) → with_number_if (option_map following d) d ≡ counted d
counted_callee None = refl
counted_callee (Some d) = refl

mine_at : (c : Call) (x : End) (next : _) (media : _) → dialog_of x (after c (numbers_to (other x) (number_to (other x) c)) next media) ≡ dialog_of x c
mine_at c Caller next media = refl
mine_at c Callee next media = refl

theirs_at : (c : Call) (x : End) (next : _) (media : _) → dialog_of (other x) (after c (numbers_to (other x) (number_to (other x) c)) next media) ≡ counted (dialog_of (other x) c)
theirs_at c Caller next media = counted_callee c.callee
theirs_at c Callee next media = refl

line_passes : (c : Call) (x : End) (method : OfferMethod) (offer : Description) (pool : pools.Contents) (now : ℕ) → PassesOn c x (at_line c pool (offer_step c pool now x offer) (settled_row (signals.Offer x method)))
unfolding settled_row
line_passes c x Invite offer pool now = record {
  next = record { offerer = x; stage = stages.Reasked false _ };
  stands = refl;
  awaits = refl;
  offerer = refl;
  one = refl;
  offered = λ s t h. either_offer _ h;
  mine = mine_at c x _ _;
  theirs = theirs_at c x _ _;
  open_offer = opened_offer c.media pool x offer now;
  kept = refl;
  says = refl;
  not_asked = refl;
}
line_passes c x Update offer pool now = record {
  next = record { offerer = x; stage = stages.Updating };
  stands = refl;
  awaits = refl;
  offerer = refl;
  one = refl;
  offered = λ s t h. either_offer _ h;
  mine = mine_at c x _ _;
  theirs = theirs_at c x _ _;
  open_offer = opened_offer c.media pool x offer now;
  kept = refl;
  says = refl;
  not_asked = refl;
}

at_settled : (c : Call) (s : stage.Standing) (x : End) (method : OfferMethod) (offer : Description) (pool : pools.Contents) (now : ℕ) → s.stage ≡ stages.Settled
    → PassesOn c x (offer_at c s (signals.Offer x method) x (Some offer) pool now)
unfolding row_of
at_settled c s x method offer pool now is =
    subst (λ st. PassesOn c x (at_line c pool (offer_step c pool now x offer) (row_in st s.offerer (signals.Offer x method)))) (sym is) (line_passes c x method offer pool now)

in_settled : (c : Call) (standing : Option stage.Standing) (x : End) (method : OfferMethod) (offer : Description) (pool : pools.Contents) (now : ℕ) → holds_in is_settled standing ≡ true
    → PassesOn c x (step_in c standing (inputs.Offer x method (Some offer)) pool now)
in_settled c None x method offer pool now h = absurd (false≢true h)
in_settled c (Some s) x method offer pool now h = at_settled c s x method offer pool now (settled_stage s.stage h)

pub passes_on : (c : Call) (x : End) (method : OfferMethod) (offer : Description) (pool : pools.Contents) (now : ℕ) → holds_in is_settled c.standing ≡ true
    → PassesOn c x (call_row c (inputs.Offer x method (Some offer)) pool now)
unfolding call_row
passes_on c x method offer pool now h = in_settled c c.standing x method offer pool now h

-- ---- the numbers afterwards

grows_counted : (d : Option Dialog) → Grows d (counted d)
grows_counted None = tt
grows_counted (Some d) = omega arith

caller_grows : (c d : Call) → Some d.caller ≡ counted (Some c.caller) → last_number c.caller ≤ last_number d.caller
caller_grows c d is = subst (λ x. Grows (Some c.caller) x) (sym is) (grows_counted (Some c.caller))

pub passes_grows : (c : Call) (x : End) (step : Step) → PassesOn c x step → CallGrows c step.call
passes_grows c Caller step on = record {
  caller = subst (λ d. last_number c.caller ≤ last_number d) (sym (same_Some step.call.caller c.caller on.mine)) (omega arith);
  callee = subst (Grows c.callee) (sym on.theirs) (grows_counted c.callee);
}
passes_grows c Callee step on = record {
  caller = caller_grows c step.call on.theirs;
  callee = subst (Grows c.callee) (sym on.mine) (grows_kept c.callee c.callee (keeps_self c.callee));
}

-- the number of the request is the last in its leg
pub last_counted : (number : ℕ) (d : Dialog) (e : Option Dialog) → number ≡ following d → Keeps (counted (Some d)) e → (IsCounted number e) × (is_last_in number e ≡ true)
last_counted number d None is keeps = absurd keeps
last_counted number d (Some e) is keeps = (omega (arith, is, keeps), eq-eqb (last_number e) number (keeps ∙ sym is))

-- and one that was counted before is not, unless it was the first
pub not_last : (number : ℕ) (n : stage.Standing) (d e : Option Dialog) → awaits_callee n.stage ≡ false → IsCounted number d → Keeps (counted d) e → is_last_in number e ≡ true → has_leg e (Some n) ≡ true → ⊥
not_last number n None None not_asked was keeps last leg = false≢true (sym not_asked ∙ leg)
not_last number n None (Some e) not_asked was keeps last leg = keeps
not_last number n (Some d) None not_asked was keeps last leg = keeps
not_last number n (Some d) (Some e) not_asked was keeps last leg =
    let now : last_number e ≡ last_number d + 1 = keeps in
    omega (arith, was, now, eqb-true (last_number e) number last)
